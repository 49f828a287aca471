-- The least number with a property, of those below a bound. The laws stand in specs/Least/Laws.antt. Assumes nothing.
--
-- least_below n p       == the least k < n with p k, or n where there is none
use Rattle.std.specs.Prelude.{Bool, cond, ℕ, zero, suc}
pub mod Laws

-- Shut, and never computed at real sizes: use its laws.
pub least_below : ℕ → (ℕ → Bool) → ℕ
least_below zero p = zero
least_below (suc n) p = cond (p zero) zero (suc (least_below n (λ k. p (suc k))))
