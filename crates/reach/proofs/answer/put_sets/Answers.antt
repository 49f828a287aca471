use lib.ListN.{set, length-set}
use lib.ListN.{length-set}
use Rattle.basics.specs.Each.Laws.{each_done}
use Rattle.reach.proofs.SetsCases.{sets_turn}
use Prim.Native.Nat.{ℕ, ◌+◌}
use mathlib.Core.Path.{refl, ◌∙◌}
use native.Mathlib.Omega.{arith}
use lib.ListN.{get_or}
use Rattle.basics.specs.Each.Laws.{each_none}
use Rattle.reach.proofs.answer.put_sets.Goals as goal

pub loop-p-init : goal.loop-p-init
loop-p-init c = (c.requires.0, c.requires.1, refl, each_none 0 _ _, c.requires.2, c.requires.3, c.requires.4)

pub sets_before-at-requires : goal.sets_before-at-requires
sets_before-at-requires c = (omega (arith, c.loop-p-test.true, c.loop-p.invariant.0))

pub offset_bounds-normal-p : goal.offset_bounds-normal-p
offset_bounds-normal-p c = (omega (arith, c.loop-p-test.true, c.loop-p.invariant.0))

pub bounds-normal-p : goal.bounds-normal-p
bounds-normal-p c = (omega (arith, c.loop-p-test.true, c.loop-p.invariant.0))

pub offset_bounds-sets-at : goal.offset_bounds-sets-at
offset_bounds-sets-at c = (omega (arith, c.loop-p-test.true, c.loop-p.invariant.0, c.loop-p.invariant.1, c.loop-p.invariant.2, c.sets_before-at.ensures))

pub bounds-sets-at : goal.bounds-sets-at
bounds-sets-at c = (omega (arith, c.loop-p-test.true, c.loop-p.invariant.0, c.loop-p.invariant.1, c.loop-p.invariant.2, c.sets_before-at.ensures))

pub offset_bounds-storing-p : goal.offset_bounds-storing-p
offset_bounds-storing-p c = (omega (arith, c.loop-p-test.true, c.loop-p.invariant.0))

pub bounds-storing-p : goal.bounds-storing-p
bounds-storing-p c = (omega (arith, c.loop-p-test.true, c.loop-p.invariant.0))

pub overflow_add-sets : goal.overflow_add-sets
overflow_add-sets c = (omega (arith, c.loop-p-test.true, c.loop-p.invariant.0, c.loop-p.invariant.1, c.loop-p.invariant.2, c.sets_before-at.ensures))

pub offset_bounds-sets-at-in-loop-p : goal.offset_bounds-sets-at-in-loop-p
offset_bounds-sets-at-in-loop-p c = (omega (arith, c.loop-p-test.true, c.loop-p.invariant.0, c.loop-p.invariant.1, c.loop-p.invariant.2, c.sets_before-at.ensures))

pub bounds-sets-at-in-loop-p : goal.bounds-sets-at-in-loop-p
bounds-sets-at-in-loop-p c = (omega (arith, c.loop-p-test.true, c.loop-p.invariant.0, c.loop-p.invariant.1, c.loop-p.invariant.2, c.sets_before-at.ensures, (length-set {A = ℕ} c.loop-p.sets c.sets_before-at.result (get_or c.args.normal.now c.loop-p.p 0))))

pub offset_bounds-matching-p : goal.offset_bounds-matching-p
offset_bounds-matching-p c = (omega (arith, c.loop-p-test.true, c.loop-p.invariant.0))

pub bounds-matching-p : goal.bounds-matching-p
bounds-matching-p c = (omega (arith, c.loop-p-test.true, c.loop-p.invariant.0))

pub overflow_add-sets-in-loop-p : goal.overflow_add-sets-in-loop-p
overflow_add-sets-in-loop-p c = (omega (arith, c.loop-p-test.true, c.loop-p.invariant.0, c.loop-p.invariant.1, c.loop-p.invariant.2, c.sets_before-at.ensures))

pub offset_bounds-sets-at-in-loop-p-2 : goal.offset_bounds-sets-at-in-loop-p-2
offset_bounds-sets-at-in-loop-p-2 c = (omega (arith, c.loop-p-test.true, c.loop-p.invariant.0, c.loop-p.invariant.1, c.loop-p.invariant.2, c.sets_before-at.ensures))

pub bounds-sets-at-in-loop-p-2 : goal.bounds-sets-at-in-loop-p-2
bounds-sets-at-in-loop-p-2 c = (omega (arith, c.loop-p-test.true, c.loop-p.invariant.0, c.loop-p.invariant.1, c.loop-p.invariant.2, c.sets_before-at.ensures, (length-set {A = ℕ} c.loop-p.sets c.sets_before-at.result (get_or c.args.normal.now c.loop-p.p 0)), (length-set {A = ℕ} (set c.loop-p.sets c.sets_before-at.result (get_or c.args.normal.now c.loop-p.p 0)) (c.sets_before-at.result + 1) (get_or c.args.storing.now c.loop-p.p 0))))

pub loop-p-preserved : goal.loop-p-preserved
loop-p-preserved c = (c.loop-p.invariant.0, c.loop-p.invariant.1, (length-set {A = ℕ} (set (set c.loop-p.sets c.sets_before-at.result (get_or c.args.normal.now c.loop-p.p 0)) (c.sets_before-at.result + 1) (get_or c.args.storing.now c.loop-p.p 0)) (c.sets_before-at.result + 2) (get_or c.args.matching.now c.loop-p.p 0)) ∙ ((length-set {A = ℕ} (set c.loop-p.sets c.sets_before-at.result (get_or c.args.normal.now c.loop-p.p 0)) (c.sets_before-at.result + 1) (get_or c.args.storing.now c.loop-p.p 0)) ∙ ((length-set {A = ℕ} c.loop-p.sets c.sets_before-at.result (get_or c.args.normal.now c.loop-p.p 0)) ∙ c.loop-p.invariant.2)), sets_turn c.args.normal.now c.args.storing.now c.args.matching.now _ c.loop-p.sets c.loop-p.p _ c.loop-p.invariant.3 c.sets_before-at.ensures c.loop-p.invariant.2 (omega (arith, c.loop-p-test.true, c.loop-p.invariant.1)), c.loop-p.invariant.4, c.loop-p.invariant.5, c.loop-p.invariant.6)

pub shape_of-sets : goal.shape_of-sets
shape_of-sets c = c.loop-p.invariant.2

pub returns : goal.returns
returns c = each_done 0 _ _ _ _ _ (c.loop-p.auto.p-end) (omega (arith, c.loop-p-test.false)) c.loop-p.invariant.3
