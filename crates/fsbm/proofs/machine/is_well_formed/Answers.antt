use native.Mathlib.Omega.{arith}
use mathlib.Core.Path.{refl, sym, ◌∙◌}
use borrow.Author.Tests.{le-leb, lt-leb}
use Rattle.fsbm.specs.Machine.{well_formed}
use Rattle.basics.specs.Search.Loops.{pass, stop}
use Rattle.fsbm.proofs.machine.is_well_formed.Goals as goal

pub returns-then-m-lt1 : goal.returns-then-m-lt1
unfolding well_formed
returns-then-m-lt1 c = stop _ (lt-leb _ _ c.if-m-lt1.true)

pub returns-then-m-gt-MAX_STATES : goal.returns-then-m-gt-MAX_STATES
unfolding well_formed
returns-then-m-gt-MAX_STATES c = pass (le-leb _ _ c.if-m-lt1.false) (stop _ (lt-leb _ _ c.if-m-gt-MAX_STATES.true))

pub returns-then-m-gt-MAX_LETTERS : goal.returns-then-m-gt-MAX_LETTERS
unfolding well_formed
returns-then-m-gt-MAX_LETTERS c = pass (le-leb _ _ c.if-m-lt1.false) (pass (le-leb _ _ c.if-m-gt-MAX_STATES.false) (stop _ (lt-leb _ _ c.if-m-gt-MAX_LETTERS.true)))

pub returns-then-m-gt-MAX_TRANSITIONS : goal.returns-then-m-gt-MAX_TRANSITIONS
unfolding well_formed
returns-then-m-gt-MAX_TRANSITIONS c = pass (le-leb _ _ c.if-m-lt1.false) (pass (le-leb _ _ c.if-m-gt-MAX_STATES.false) (pass (le-leb _ _ c.if-m-gt-MAX_LETTERS.false) (stop _ (lt-leb _ _ c.if-m-gt-MAX_TRANSITIONS.true))))

pub returns-then-list-m : goal.returns-then-list-m
unfolding well_formed
returns-then-list-m c = pass (le-leb _ _ c.if-m-lt1.false) (pass (le-leb _ _ c.if-m-gt-MAX_STATES.false) (pass (le-leb _ _ c.if-m-gt-MAX_LETTERS.false) (pass (le-leb _ _ c.if-m-gt-MAX_TRANSITIONS.false) (stop _ (lt-leb _ _ c.if-list-m.true)))))

pub returns-then-not-good_marks : goal.returns-then-not-good_marks
unfolding well_formed
returns-then-not-good_marks c = pass (le-leb _ _ c.if-m-lt1.false) (pass (le-leb _ _ c.if-m-gt-MAX_STATES.false) (pass (le-leb _ _ c.if-m-gt-MAX_LETTERS.false) (pass (le-leb _ _ c.if-m-gt-MAX_TRANSITIONS.false) (pass (le-leb _ _ c.if-list-m.false) (stop _ (sym (c.good_marks.ensures c.args.m refl refl) ∙ c.if-not-good_marks.true))))))

pub good_transitions-requires : goal.good_transitions-requires
good_transitions-requires c = omega (arith, c.if-list-m.false)

pub returns : goal.returns
unfolding well_formed
returns c = pass (le-leb _ _ c.if-m-lt1.false) (pass (le-leb _ _ c.if-m-gt-MAX_STATES.false) (pass (le-leb _ _ c.if-m-gt-MAX_LETTERS.false) (pass (le-leb _ _ c.if-m-gt-MAX_TRANSITIONS.false) (pass (le-leb _ _ c.if-list-m.false) (pass (sym (c.good_marks.ensures c.args.m refl refl) ∙ c.if-not-good_marks.false) c.good_transitions.ensures)))))
