use native.Mathlib.Omega.{arith}
use Prim.Native.Nat.{◌<◌}
use Rattle.decide.proofs.SquareCases.{run_more}
use Rattle.decide.proofs.squares.run_end.Goals as goal

pub returns-then-word-r : goal.returns-then-word-r
returns-then-word-r c = record { from = omega arith; repeats = record { within = omega arith; same = c.loop-r.invariant }; differs = λ lt e. c.if-word-r.true e }

pub loop-r-preserved : goal.loop-r-preserved
loop-r-preserved c = run_more c.args.word.now c.args.d c.args.q c.loop-r.r c.loop-r.invariant c.if-word-r.false

pub returns : goal.returns
returns c = record { from = c.requires.1; repeats = record { within = c.requires.2; same = λ k ge lt. c.loop-r.invariant k ge (omega arith) }; differs = λ (lt : c.args.stop < c.args.stop) e. absurd (omega arith) }
