-- A part put into a list. Generic. The laws stand in specs/Lists/Laws.antt.
--
-- put at l part == the list l with this part in the place of its elements from index at on
use Rattle.std.specs.Prelude.{ℕ, ◌+◌, List, ◌++◌, length, take, drop}
pub mod Laws

module _ {A : Type 0} where
  unfoldable pub put : ℕ → List A → List A → List A
  put at l part = take at l ++ part ++ drop (at + length part) l
