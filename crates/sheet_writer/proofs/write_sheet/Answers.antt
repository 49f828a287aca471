use Rattle.std.proofs.Common.{sym, refl, ◌∙◌}
use Rattle.sheet_writer.proofs.WriteCases.{write_ill, write_short, write_long, write_says, sheet_put}
use Rattle.sheet_writer.proofs.write_sheet.Goals as goal

pub returns-then-not-is_well_formed : goal.returns-then-not-is_well_formed
returns-then-not-is_well_formed c = write_says _ _ _ _ _ (write_ill c.args.m c.args.list.now c.args.sheet.now (sym c.is_well_formed.ensures ∙ c.if-not-is_well_formed.true))

pub returns-then-sheet-needed : goal.returns-then-sheet-needed
returns-then-sheet-needed c = write_says _ _ _ _ _ (write_short c.args.m c.args.list.now c.args.sheet.now (sym c.is_well_formed.ensures ∙ c.if-not-is_well_formed.false) _ refl c.if-sheet-needed.true)

pub returns : goal.returns
returns c =
    write_says c.args.m c.args.list.now c.args.sheet.now _ _
    (write_long c.args.m c.args.list.now c.args.sheet.now (sym c.is_well_formed.ensures ∙ c.if-not-is_well_formed.false) _ refl c.write_transitions.new.sheet c.if-sheet-needed.false
    (sheet_put c.args.m c.args.list.now c.args.sheet.now _ _ _ _ c.write_three.ensures c.write_states.ensures c.write_transitions.ensures refl c.if-sheet-needed.false))
