use Prim.Native.Nat.{ℕ, ◌<◌}
use mathlib.Core.Path.{◌≡◌}
use lib.ListN.{get_or}
use Rattle.stateset.specs.Set.{has}
use Rattle.least.specs.Turns.{first_of}
use Rattle.least.proofs.turns.Weights.start.Given as goal

abbrev pub invariant-loop-q : goal.invariant-loop-q
invariant-loop-q l = (p : ℕ) → p < l.q → get_or l.number-items p 0 ≡ first_of (has l.initial' p)
