use Rattle.std.proofs.Common.{refl, ◌∙◌, arith, length-set}
use Rattle.sheet.proofs.PartCases.{missing, bad, columns_none, columns_next, line_short, line_column, line_end, line_good, states_none, state_line_lem, state_mark, mark_small, state_next}
use Rattle.sheet.proofs.parts.read_states.Goals as goal

pub loop-q-init : goal.loop-q-init
loop-q-init c = states_none _ _ c.requires.1

pub loop-c-init : goal.loop-c-init
loop-c-init c = (refl, columns_none _ _ _)

pub loop-c-preserved : goal.loop-c-preserved
loop-c-preserved c = (length-set _ _ _ ∙ c.loop-c.invariant.0, columns_next _ _ _ _ _ c.loop-c.invariant.1 c.in-Some.ensures (omega arith))

pub overflow_cast-marks : goal.overflow_cast-marks
overflow_cast-marks c = omega (arith, mark_small c.args.sheet.now c.args.states c.loop-q.q c.loop-q.marks c.loop-q.invariant c.loop-q-test.true _ _ (line_good c.args.sheet.now _ 2 (omega arith) _ _ c.loop-c.invariant.1 (omega arith) c.if-sheet-at-ne-LINE_END.false) c.loop-c.invariant.1 (omega arith) c.in_default-mark_fault.ensures)

pub loop-q-preserved : goal.loop-q-preserved
loop-q-preserved c = state_next c.args.sheet.now c.args.states c.loop-q.q c.loop-q.marks c.loop-q.invariant c.loop-q-test.true _ _ (line_good c.args.sheet.now _ 2 (omega arith) _ _ c.loop-c.invariant.1 (omega arith) c.if-sheet-at-ne-LINE_END.false) c.loop-c.invariant.1 (omega arith) c.in_default-mark_fault.ensures (omega arith)

pub returns-then-sheet-at : goal.returns-then-sheet-at
returns-then-sheet-at c = state_line_lem c.args.sheet.now c.args.states c.loop-q.q c.loop-q.marks c.loop-q.invariant c.loop-q-test.true 1 _ missing (line_short c.args.sheet.now _ 2 (omega arith))

pub returns-in_default : goal.returns-in_default
returns-in_default c = state_line_lem c.args.sheet.now c.args.states c.loop-q.q c.loop-q.marks c.loop-q.invariant c.loop-q-test.true 2 _ bad (line_column c.args.sheet.now _ 2 (omega arith) _ _ c.loop-c.invariant.1 c.loop-c-test.true c.in_default.ensures)

pub returns-then-sheet-at-ne-LINE_END : goal.returns-then-sheet-at-ne-LINE_END
returns-then-sheet-at-ne-LINE_END c = state_line_lem c.args.sheet.now c.args.states c.loop-q.q c.loop-q.marks c.loop-q.invariant c.loop-q-test.true 2 _ bad (line_end c.args.sheet.now _ 2 (omega arith) _ _ c.loop-c.invariant.1 (omega arith) c.if-sheet-at-ne-LINE_END.true)

pub returns-in-Err : goal.returns-in-Err
returns-in-Err c = state_mark c.args.sheet.now c.args.states c.loop-q.q c.loop-q.marks c.loop-q.invariant c.loop-q-test.true _ _ (line_good c.args.sheet.now _ 2 (omega arith) _ _ c.loop-c.invariant.1 (omega arith) c.if-sheet-at-ne-LINE_END.false) c.loop-c.invariant.1 (omega arith) _ c.in-Err.ensures
