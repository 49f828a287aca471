use Prim.Native.Nat.{ℕ, ◌≤◌}
use Rattle.pieces.specs.Blocks.{cost_of}
use Rattle.blocks.specs.Numbers.Laws.{Left, Rest}
use Rattle.least.proofs.turns.largest.Given as goal

abbrev pub invariant-loop-z : goal.invariant-loop-z
invariant-loop-z l = Rest l.h l.z-iterator.rest × ((z : ℕ) → Left l.h l.z-iterator.rest z → cost_of l.d z ≤ l.most)
