use Rattle.std.proofs.Common.{arith, refl}
use Rattle.fsbm.specs.Rules.{rules as rules_of}
use Rattle.tables.proofs.CopyCases.{buffer_rows_start, buffer_rows_next}
use Rattle.tables.proofs.word.Word.buffering_rows.Goals as goal

pub loop-d-init : goal.loop-d-init
loop-d-init c = buffer_rows_start _ _ _ _ (rules_of _ _ c.args.self.now.moves.table.obeys) _ c.requires.0 _ refl _

pub loop-d-preserved : goal.loop-d-preserved
loop-d-preserved c = buffer_rows_next _ _ _ _ (rules_of _ _ c.args.self.now.moves.table.obeys) _ c.requires.0 _ _ _ _ c.fresh_change-change.result _ _ _ _ (omega arith) (omega (arith, c.requires.2, c.loop-d.invariant.inside)) refl c.loop-d.invariant c.fresh_change-change.ensures c.stored_row-next.ensures c.or_blank.ensures
