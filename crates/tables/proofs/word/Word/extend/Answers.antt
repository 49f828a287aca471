use Rattle.std.proofs.Common.{arith}
use Rattle.fsbm.specs.Rules.{rules as rules_of}
use Rattle.tables.specs.Tables.Laws.{empty_next}
use Rattle.tables.proofs.CopyCases.{extended_blank}
use Rattle.tables.proofs.word.Word.extend.Goals as goal

pub loop-k-preserved : goal.loop-k-preserved
loop-k-preserved c = empty_next _ _ _ _ c.args.e c.loop-k.k _ c.loop-k.row _ (omega arith) c.requires.2 c.from.ensures c.loop-k.invariant c.emptying_layer.ensures.0

pub returns-then-not-emptying_layer : goal.returns-then-not-emptying_layer
returns-then-not-emptying_layer c =
    let next = empty_next c.args.self.now.moves.table.machine _ c.args.self.now.sets.now _ c.args.e c.loop-k.k _ c.loop-k.row _ (omega arith) c.requires.2 c.from.ensures c.loop-k.invariant c.emptying_layer.ensures.0 in
    extended_blank _ _ _ _ c.args.e c.args.d (rules_of _ _ c.args.self.now.moves.table.obeys) _ _ (omega arith) c.requires.2 next (c.emptying_layer.ensures.1 c.if-not-emptying_layer.true)
