use Rattle.decide.specs.Squares.{RepeatEnds}
use Rattle.decide.specs.Reach.{Square}
use lib.ListN.{length}
use Prim.Native.Nat.{ℕ, ◌≤◌, ◌-◌, ◌+◌}
use Rattle.decide.proofs.squares.last_square.Given as goal

abbrev pub invariant-loop-j : goal.invariant-loop-j
invariant-loop-j l = RepeatEnds l.word l.ends (λ d. l.i + d) × ((k : ℕ) → l.j ≤ k → k + (k - l.i) ≤ length l.word → Square l.word l.i k → ⊥)
