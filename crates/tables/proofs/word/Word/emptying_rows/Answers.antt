use Rattle.std.proofs.Common.{arith, length-set}
use Rattle.tables.proofs.CopyCases.{empty_rows_next}
use Rattle.tables.proofs.word.Word.emptying_rows.Goals as goal

pub loop-r-preserved : goal.loop-r-preserved
loop-r-preserved c = empty_rows_next c.args.self.now.moves.table.machine c.args.self.now.moves.table.list.now c.args.self.now.sets.now c.args.self.now.letters.now c.args.e c.loop-r.r _ _ c.loop-r.rows _ (omega (arith, c.requires.2, length-set c.args.rows.now 0 c.args.last)) (omega arith) c.requires.1 c.from.ensures c.loop-r.invariant c.emptying_layer.ensures.0
