use native.Mathlib.Omega.{arith}
use mathlib.Core.Path.{◌∙◌}
use lib.ListN.{length-set}
use Rattle.shortest.specs.Write.Laws.{number_below, write_start, write_low, write_turn, write_end, step_ready}
use Rattle.shortest.proofs.traced.Traced.write.Goals as goal

pub loop-pairs-init : goal.loop-pairs-init
loop-pairs-init c = (write_start _ _ _ _ _ _ c.requires.1, c.requires.0)

pub step-p-requires : goal.step-p-requires
step-p-requires c = step_ready _ _ _ _ _ _ c.requires.1 _ _ _ c.loop-pairs.invariant.0 (omega (arith, c.loop-pairs-test.true, c.cost.ensures)) _ c.loop-pairs.invariant.1

pub loop-pairs-smaller : goal.loop-pairs-smaller
loop-pairs-smaller c = (write_turn _ _ _ _ _ _ c.requires.1 _ _ _ c.loop-pairs.invariant.0 _ _ _ c.step-p.ensures.stepped).1

pub loop-pairs-preserved : goal.loop-pairs-preserved
loop-pairs-preserved c = ((write_turn _ _ _ _ _ _ c.requires.1 _ _ _ c.loop-pairs.invariant.0 _ _ _ c.step-p.ensures.stepped).0, c.step-p.ensures.past)

pub overflow_cast-run : goal.overflow_cast-run
overflow_cast-run c = let l = number_below _ _ c.requires.1.top_small (write_low _ _ _ _ _ _ c.requires.1 _ _ _ c.loop-pairs.invariant.0) in omega arith

pub bounds-run-0 : goal.bounds-run-0
bounds-run-0 c = omega (arith, c.requires.1.some, c.loop-pairs.invariant.0.run_size)

pub shape_of-word : goal.shape_of-word
shape_of-word c = c.loop-pairs.invariant.0.word_size

pub shape_of-run : goal.shape_of-run
shape_of-run c = length-set c.loop-pairs.run 0 _ ∙ c.loop-pairs.invariant.0.run_size

pub returns : goal.returns
returns c = write_end _ _ _ _ _ _ c.requires.1 _ _ _ c.loop-pairs.invariant.0 (omega (arith, c.loop-pairs-test.false, c.cost.ensures))
