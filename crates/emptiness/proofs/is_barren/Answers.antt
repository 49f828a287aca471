use Rattle.std.proofs.Common.{rules}
use Rattle.emptiness.specs.Reached.{Same}
use Rattle.emptiness.specs.Reached.Laws.{begun_more, same_empty}
use Rattle.emptiness.proofs.is_barren.Goals as goal

pub returns-then-eq : goal.returns-then-eq
returns-then-eq c =
    let same : Same c.loop.s c.pass-next.result = record { normal = search rules; buffering = search rules; emptying = search rules } in
    λ e. same_empty c.args.t.now.machine c.args.t.now.list.now c.args.t.now.obeys c.args.kinds c.requires c.loop.s c.loop.invariant c.pass-next.ensures same c.intersection.ensures c.if-intersection-ne0.false

pub loop-preserved : goal.loop-preserved
loop-preserved c = begun_more _ c.loop.invariant c.pass-next.ensures
