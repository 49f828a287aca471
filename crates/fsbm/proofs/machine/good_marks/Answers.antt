use mathlib.Core.Path.{refl, ◌∙◌}
use native.Mathlib.Omega.{arith}
use lib.ListN.{get_or}
use borrow.Author.Tests.{lt-leb}
use Rattle.fsbm.proofs.MachineCases.{larger_of, marked, marked_by, marks_none, marks_next, marks_large, marks_end, states_few}
use Rattle.fsbm.proofs.machine.good_marks.Goals as goal

pub loop-q-init : goal.loop-q-init
loop-q-init c = (omega arith, omega arith, marks_none (marked c.args.states c.args.marks.now))

pub bounds-marks-q : goal.bounds-marks-q
bounds-marks-q c = omega arith

pub overflow_cast-q : goal.overflow_cast-q
overflow_cast-q c = omega arith

pub loop-q-preserved : goal.loop-q-preserved
loop-q-preserved c = (omega arith, (larger_of _ _ _ c.max-needed.ensures 64).1 (c.loop-q.invariant.1, states_few c.loop-q.q (get_or c.args.marks.now c.loop-q.q 0) c.states_for.result c.loop-q-test.true c.states_for.ensures), marks_next (marked c.args.states c.args.marks.now) c.loop-q.q _ c.states_for.result c.loop-q.largest c.max-largest.result c.loop-q.needed c.max-needed.result c.loop-q-test.true refl c.states_for.ensures (larger_of _ _ _ c.max-largest.ensures) (larger_of _ _ _ c.max-needed.ensures) c.loop-q.invariant.2)

pub returns-else-largest-le11 : goal.returns-else-largest-le11
returns-else-largest-le11 c = λ m e f. lt-leb _ _ c.if-largest-le11.false ∙ marks_large (marked c.args.states c.args.marks.now) c.loop-q.q c.loop-q.largest c.loop-q.needed c.loop-q.invariant.2 (omega arith) c.if-largest-le11.false ∙ marked_by m c.args.states c.args.marks.now e f

pub overflow_cast-result : goal.overflow_cast-result
overflow_cast-result c = omega (arith, c.loop-q.invariant.1)

pub returns-then-largest-le11 : goal.returns-then-largest-le11
returns-then-largest-le11 c = λ m e f. marks_end (marked c.args.states c.args.marks.now) c.loop-q.q c.loop-q.largest c.loop-q.needed c.loop-q.invariant.2 (omega arith) c.if-largest-le11.true ∙ marked_by m c.args.states c.args.marks.now e f
