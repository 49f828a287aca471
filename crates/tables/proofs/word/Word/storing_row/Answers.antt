use Rattle.std.proofs.Common.{arith, refl}
use Rattle.fsbm.specs.Rules.{rules as rules_of}
use Rattle.tables.proofs.CopyCases.{storing_start, storing_skip, storing_next}
use Rattle.tables.proofs.word.Word.storing_row.Goals as goal

pub loop-d-init : goal.loop-d-init
loop-d-init c = storing_skip _ _ _ _ (rules_of _ _ c.args.self.now.moves.table.obeys) _ _ _ _ _ _ refl (storing_start _ _ _ _ (rules_of _ _ c.args.self.now.moves.table.obeys) _ c.requires.0 _ refl _ _ c.requires.4) (c.skip_fruitless-d.ensures _ (omega (arith, c.requires.0)) c.requires.3)

pub loop-d-preserved-then-is_none : goal.loop-d-preserved-then-is_none
loop-d-preserved-then-is_none c = storing_skip _ _ _ _ (rules_of _ _ c.args.self.now.moves.table.obeys) _ _ _ _ _ _ c.if-is_none.ensures (storing_next _ _ _ _ (rules_of _ _ c.args.self.now.moves.table.obeys) _ _ _ _ _ _ _ _ _ _ c.loop-d-test.true refl c.loop-d.invariant c.change_row-change.ensures c.stored_row-next.ensures) (c.skip_fruitless-d-then-is_none.ensures _ (omega (arith, c.loop-d.invariant.inside)) c.requires.3)

pub loop-d-preserved : goal.loop-d-preserved
loop-d-preserved c = storing_next _ _ _ _ (rules_of _ _ c.args.self.now.moves.table.obeys) _ _ _ _ _ _ _ _ _ _ c.loop-d-test.true refl c.loop-d.invariant c.change_row-change.ensures c.stored_row-next.ensures
