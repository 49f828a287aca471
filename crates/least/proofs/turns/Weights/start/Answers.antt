use native.Mathlib.Omega.{arith}
use Rattle.least.specs.Turns.Laws.{first_end}
use Rattle.least.proofs.turns.Weights.start.Goals as goal

pub returns : goal.returns
returns c = first_end _ (omega (arith, c.ranges.initial)) c.loop-q-test.array_long (λ p lt. c.loop-q.invariant p (omega (arith, c.loop-q-test.false)))
