-- The product that is searched, as `join` leaves it.
--
-- joined_room           == the elements of a list that has room for every product
-- Joined m₁ l₁ m₂ l₂ m list == the two machines can be joined, m is their product, and its transitions stand at the front of the list
use Rattle.std.specs.Prelude.{ℕ, ◌≡◌, List, ◌++◌}
use Rattle.fsbm.specs.declared.machine.Machine.{Machine}
use Rattle.product.specs.Product.{joined_transitions, joined_machine, join_fault}

abbrev pub joined_room : ℕ
joined_room = 12000

pub record Joined (m₁ : Machine) (l₁ : List ℕ) (m₂ : Machine) (l₂ : List ℕ) (m : Machine) (list : List ℕ) : Type 0 where
  pub fine : join_fault m₁ l₁ m₂ l₂ ≡ 0
  pub machine : m ≡ joined_machine m₁ l₁ m₂ l₂
  pub rest : List ℕ
  pub transitions : list ≡ joined_transitions m₁ l₁ m₂ l₂ ++ rest
