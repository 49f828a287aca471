-- A list made of parts, one for each number of a range. Generic; the laws stand in specs/Each/Laws.antt.
--
-- each i n f          == f i, f (i + 1), .. , n parts in a row
-- sum_over i n f       == f i + f (i + 1) + .. , n numbers
use Rattle.std.specs.Prelude.{ℕ, zero, suc, ◌+◌, List, [], ◌++◌}
pub mod Laws
pub mod Sums

module _ {A : Type 0} where
  unfoldable pub each : ℕ → ℕ → (ℕ → List A) → List A
  each i zero f = []
  each i (suc n) f = f i ++ each (suc i) n f

unfoldable pub sum_over : ℕ → ℕ → (ℕ → ℕ) → ℕ
sum_over i zero f = 0
sum_over i (suc n) f = f i + sum_over (suc i) n f
