-- Lists that come one after the other. Generic. The laws stand in specs/Each/Laws.antt.
--
-- each_below n f   == the lists f 0, .., f (n - 1) joined
use Rattle.std.specs.Prelude.{ℕ, zero, suc, List, [], ◌++◌}
pub mod Laws

unfoldable pub each_below : ℕ → (ℕ → List ℕ) → List ℕ
each_below zero f = []
each_below (suc n) f = each_below n f ++ f n
