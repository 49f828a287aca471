use Rattle.std.proofs.Common.{refl}
use Rattle.fsbm.specs.Rules.{rules as rules_of}
use Rattle.layers.specs.Rows.Laws.{closed_here, closed_more, closed_none}
use Rattle.layers.proofs.moves.Moves.close.Goals as goal

pub returns-then-may-eq0 : goal.returns-then-may-eq0
returns-then-may-eq0 c = closed_none _ _ _ _ _ c.args.self.now.given _ _ _ (rules_of _ _ c.args.self.now.table.obeys).to_below c.intersection-may.ensures.members _ c.if-may-eq0.true

pub loop-mode-preserved : goal.loop-mode-preserved
loop-mode-preserved c =
    (refl, λ out f. c.loop-mode.invariant.1 _ (closed_more _ _ _ _ _ c.args.self.now.given _ _ _ (rules_of _ _ c.args.self.now.table.obeys).to_below c.intersection-may.ensures.members _ _ out (rw c.loop-mode.invariant.0 at c.pass.ensures) f))

pub returns : goal.returns
returns c =
    c.loop-mode.invariant.1 _ (closed_here _ _ _ _ _ c.args.self.now.given _ _ _ (rules_of _ _ c.args.self.now.table.obeys).to_below c.intersection-may.ensures.members _ _ c.loop-mode-test.false (rw c.loop-mode.invariant.0 at c.pass.ensures))
