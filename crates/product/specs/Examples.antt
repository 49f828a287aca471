-- The marked example of document 01 on joining, as a row of the table of examples. The laws stand in specs/Examples/Laws.antt.
--
-- odd, odd_list         == the plain machine of the words with an odd number of letter 1
-- Row                  == a row on one machine, or the product of two
-- Meaning r            == what the row r says about the definitions
-- joins ..             == the computed test of a row on two machines
-- rows                 == the table
use Rattle.std.specs.Prelude.{ℕ, ◌*◌, ◌≡◌, List, [], ◌∷◌, map, Bool, true, false, ◌&&◌, length, eqb}
use Rattle.basics.specs.Search.{all_below}
use Rattle.fsbm.specs.Machine.{well_formed}
use Rattle.fsbm.specs.declared.machine.Machine.{Machine}
use Rattle.language.specs.Examples as language
use Rattle.language.specs.Examples.{machine, doubling, doubling_list}
use Rattle.product.specs.Each.{each, sum_over}
use Rattle.product.specs.Product.{plain, joint_moves, joined_from, joined, flat, letter_count, joined_transitions, joined_count, joined_machine, join_fault}
pub mod Laws

abbrev pub odd : Machine
odd = machine 2 4 (1 ∷ 2 ∷ [])

abbrev pub odd_list : List ℕ
odd_list = 0 ∷ 1 ∷ 1 ∷ 0 ∷ 2 ∷ 0 ∷ 1 ∷ 1 ∷ 0 ∷ 1 ∷ 2 ∷ 1 ∷ []

pub data Row : Type 0 where
  -- a row on one machine
  alone : language.Row → Row
  -- the product of two machines has so many states and these transitions
  joins_to : (m₁ : Machine) (l₁ : List ℕ) (m₂ : Machine) (l₂ : List ℕ) (states : ℕ) (transitions : List ℕ) → Row

abbrev pub Meaning : Row → Type 0
Meaning (alone r) = language.Meaning r
Meaning (joins_to m₁ l₁ m₂ l₂ states transitions) =
    (join_fault m₁ l₁ m₂ l₂ ≡ 0)
    × ((joined_machine m₁ l₁ m₂ l₂).states ≡ states)
    × ((joined_machine m₁ l₁ m₂ l₂).transitions * 3 ≡ length transitions)
    × (joined_transitions m₁ l₁ m₂ l₂ ≡ transitions)

-- two lists of numbers are equal
unfoldable pub same_list : List ℕ → List ℕ → Bool
same_list [] [] = true
same_list [] (y ∷ k) = false
same_list (x ∷ l) [] = false
same_list (x ∷ l) (y ∷ k) = eqb x y && same_list l k

unfoldable pub joins : Machine → List ℕ → Machine → List ℕ → ℕ → List ℕ → Bool
unfolding same_list join_fault well_formed all_below plain joined_count letter_count sum_over joined_machine joined_transitions flat joined joined_from joint_moves each
joins m₁ l₁ m₂ l₂ states transitions =
    eqb (join_fault m₁ l₁ m₂ l₂) 0
    && (eqb (joined_machine m₁ l₁ m₂ l₂).states states
    && (eqb ((joined_machine m₁ l₁ m₂ l₂).transitions * 3) (length transitions) && same_list (joined_transitions m₁ l₁ m₂ l₂) transitions))

-- T with "odd number of 1": 6 states and 12 transitions
abbrev pub odd_joined : List ℕ
odd_joined =
    0 ∷ 0 ∷ 2 ∷ 1 ∷ 0 ∷ 3 ∷ 2 ∷ 0 ∷ 4 ∷ 2 ∷ 1 ∷ 3 ∷ 2 ∷ 2 ∷ 2 ∷ 3 ∷ 0 ∷ 5 ∷ 3 ∷ 1 ∷ 2 ∷ 3 ∷ 2 ∷ 3 ∷ 4 ∷ 1 ∷ 5 ∷ 4 ∷ 2 ∷ 4 ∷ 5 ∷ 1 ∷ 4 ∷ 5 ∷ 2 ∷ 5 ∷ []

abbrev pub rows : List Row
rows = joins_to doubling doubling_list odd odd_list 6 odd_joined ∷ map alone language.rows
