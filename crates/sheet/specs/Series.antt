-- Faults that come one after the other. The laws stand in specs/Series/Laws.antt.
--
-- or_else a b      == the fault a, or b where a is 0 (no fault)
-- first_of n f     == the first fault among f 0, .., f (n - 1); 0 where there is none
use Rattle.std.specs.Prelude.{ℕ, zero, suc}
pub mod Laws

unfoldable pub or_else : ℕ → ℕ → ℕ
or_else zero b = b
or_else (suc a) b = suc a

unfoldable pub first_of : ℕ → (ℕ → ℕ) → ℕ
first_of zero f = 0
first_of (suc n) f = or_else (first_of n f) (f n)
