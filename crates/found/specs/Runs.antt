-- What is written into the caller's slices.
--
-- Writable .. m list .. f word run other == the product's least weights aim at f with a word and a run of the lengths of these slices, and there is
--                         room to work in; the other slice has room for a start state and an entry a letter
-- Runs m₁ l₁ m₂ l₂ word run other == the word with an accepting run of each machine
use Rattle.std.specs.Prelude.{ℕ, ◌+◌, ◌≡◌, true, List, length}
use Rattle.fsbm.specs.Machine.{final}
use Rattle.fsbm.specs.Moves.{accepting}
use Rattle.fsbm.specs.declared.machine.Machine.{Machine}
use Rattle.blocks.specs.Settling.{Past}
use Rattle.shortest.specs.Write.{Aim}
use Rattle.found.specs.Joined.{Joined}

pub record Writable (m₁ : Machine) (l₁ : List ℕ) (m₂ : Machine) (l₂ : List ℕ) (m : Machine) (list d b : List ℕ) (f : ℕ) (word run other : List ℕ) : Type 0 where
  pub joined : Joined m₁ l₁ m₂ l₂ m list
  pub past : Past m b
  pub last : final m.marks f ≡ true
  pub aim : Aim m list d f (length word) (length run)
  pub room : length other ≡ length word + 1

pub record Runs (m₁ : Machine) (l₁ : List ℕ) (m₂ : Machine) (l₂ : List ℕ) (word run other : List ℕ) : Type 0 where
  pub first : accepting m₁ l₁ word run ≡ true
  pub second : accepting m₂ l₂ word other ≡ true
