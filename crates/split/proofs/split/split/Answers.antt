use native.Mathlib.Omega.{arith}
use Rattle.split.specs.Split.Laws.{tables, split_start, first_ready, second_ready, split_turn}
use Rattle.split.proofs.split.split.Goals as goal

pub overflow_cast-n : goal.overflow_cast-n
overflow_cast-n c = omega (arith, (tables _ _ _ _ _ _ _ c.requires).second.states_fit)

pub loop-k-init : goal.loop-k-init
loop-k-init c = split_start _ _ _ _ _ _ _ c.requires

pub first_part-requires : goal.first_part-requires
first_part-requires c = first_ready _ _ _ _ _ _ _ c.requires _ _ _ c.loop-k.k _ (omega (arith, c.loop-k-test.true)) (omega (arith, c.loop-k-test.true)) c.loop-k.invariant

pub second_part-p-requires : goal.second_part-p-requires
second_part-p-requires c = second_ready _ _ _ _ _ _ _ c.requires _ _ _ c.loop-k.k _ (omega (arith, c.loop-k-test.true)) (omega (arith, c.loop-k-test.true)) c.loop-k.invariant

pub loop-k-preserved : goal.loop-k-preserved
loop-k-preserved c = split_turn _ _ _ _ _ _ _ c.requires _ _ _ c.loop-k.k _ (omega (arith, c.loop-k-test.true)) (omega (arith, c.loop-k-test.true)) c.loop-k.invariant _ c.first_part.ensures _ _ c.second_part-p.ensures

pub nonzero_div-run : goal.nonzero_div-run
nonzero_div-run c = omega (arith, (tables _ _ _ _ _ _ _ c.requires).second.some_state)

pub nonzero_rem-other : goal.nonzero_rem-other
nonzero_rem-other c = omega (arith, (tables _ _ _ _ _ _ _ c.requires).second.some_state)
