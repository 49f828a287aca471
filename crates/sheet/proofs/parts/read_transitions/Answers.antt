use Rattle.std.proofs.Common.{refl, ◌∙◌, arith, length-set}
use Rattle.sheet.proofs.PartCases.{missing, bad, columns_none, columns_next, line_short, line_column, line_end, line_good, transitions_none, transition_line_lem, transition_order, numbers_small, transition_next}
use Rattle.sheet.proofs.parts.read_transitions.Goals as goal

pub loop-k-init : goal.loop-k-init
loop-k-init c = transitions_none _ _ _ _

pub loop-c-init : goal.loop-c-init
loop-c-init c = (refl, columns_none _ _ _)

pub loop-c-preserved : goal.loop-c-preserved
loop-c-preserved c = (length-set _ _ _ ∙ c.loop-c.invariant.0, columns_next _ _ _ _ _ c.loop-c.invariant.1 c.in-Some.ensures (omega arith))

pub overflow_cast-kept : goal.overflow_cast-kept
overflow_cast-kept c = omega (arith, (numbers_small c.args.sheet.now c.args.states c.args.letters c.args.transitions c.loop-k.k c.args.kept.now c.loop-k.kept c.loop-k.before c.loop-k.invariant c.loop-k-test.true _ _ (line_good c.args.sheet.now _ 3 (omega arith) _ _ c.loop-c.invariant.1 (omega arith) c.if-sheet-at-ne-LINE_END.false) c.loop-c.invariant.1 (omega arith) c.in_default-order_fault.ensures).0)

pub overflow_cast-kept-in-loop-k : goal.overflow_cast-kept-in-loop-k
overflow_cast-kept-in-loop-k c = omega (arith, (numbers_small c.args.sheet.now c.args.states c.args.letters c.args.transitions c.loop-k.k c.args.kept.now c.loop-k.kept c.loop-k.before c.loop-k.invariant c.loop-k-test.true _ _ (line_good c.args.sheet.now _ 3 (omega arith) _ _ c.loop-c.invariant.1 (omega arith) c.if-sheet-at-ne-LINE_END.false) c.loop-c.invariant.1 (omega arith) c.in_default-order_fault.ensures).1)

pub overflow_cast-kept-in-loop-k-2 : goal.overflow_cast-kept-in-loop-k-2
overflow_cast-kept-in-loop-k-2 c = omega (arith, (numbers_small c.args.sheet.now c.args.states c.args.letters c.args.transitions c.loop-k.k c.args.kept.now c.loop-k.kept c.loop-k.before c.loop-k.invariant c.loop-k-test.true _ _ (line_good c.args.sheet.now _ 3 (omega arith) _ _ c.loop-c.invariant.1 (omega arith) c.if-sheet-at-ne-LINE_END.false) c.loop-c.invariant.1 (omega arith) c.in_default-order_fault.ensures).2)

pub loop-k-preserved : goal.loop-k-preserved
loop-k-preserved c = transition_next c.args.sheet.now c.args.states c.args.letters c.args.transitions c.loop-k.k c.args.kept.now c.loop-k.kept c.loop-k.before c.loop-k.invariant c.loop-k-test.true _ _ (line_good c.args.sheet.now _ 3 (omega arith) _ _ c.loop-c.invariant.1 (omega arith) c.if-sheet-at-ne-LINE_END.false) c.loop-c.invariant.1 (omega arith) c.in_default-order_fault.ensures c.requires.3 c.loop-k.auto.kept

pub returns-then-sheet-at : goal.returns-then-sheet-at
returns-then-sheet-at c = transition_line_lem c.args.sheet.now c.args.states c.args.letters c.args.transitions c.loop-k.k c.args.kept.now c.loop-k.kept c.loop-k.before c.loop-k.invariant c.loop-k-test.true 1 _ missing (line_short c.args.sheet.now _ 3 (omega arith))

pub returns-in_default : goal.returns-in_default
returns-in_default c = transition_line_lem c.args.sheet.now c.args.states c.args.letters c.args.transitions c.loop-k.k c.args.kept.now c.loop-k.kept c.loop-k.before c.loop-k.invariant c.loop-k-test.true 2 _ bad (line_column c.args.sheet.now _ 3 (omega arith) _ _ c.loop-c.invariant.1 c.loop-c-test.true c.in_default.ensures)

pub returns-then-sheet-at-ne-LINE_END : goal.returns-then-sheet-at-ne-LINE_END
returns-then-sheet-at-ne-LINE_END c = transition_line_lem c.args.sheet.now c.args.states c.args.letters c.args.transitions c.loop-k.k c.args.kept.now c.loop-k.kept c.loop-k.before c.loop-k.invariant c.loop-k-test.true 2 _ bad (line_end c.args.sheet.now _ 3 (omega arith) _ _ c.loop-c.invariant.1 (omega arith) c.if-sheet-at-ne-LINE_END.true)

pub returns-in-Err : goal.returns-in-Err
returns-in-Err c = transition_order c.args.sheet.now c.args.states c.args.letters c.args.transitions c.loop-k.k c.args.kept.now c.loop-k.kept c.loop-k.before c.loop-k.invariant c.loop-k-test.true _ _ (line_good c.args.sheet.now _ 3 (omega arith) _ _ c.loop-c.invariant.1 (omega arith) c.if-sheet-at-ne-LINE_END.false) c.loop-c.invariant.1 (omega arith) _ c.in-Err.ensures
