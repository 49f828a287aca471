-- The product with its least weights.
--
-- Weighed .. m list d b f == m is the product of two machines, with its least weights d as far as they matter, and the final state f with the least
--                         of them, if one has a number; b is room to work in
use Rattle.std.specs.Prelude.{ℕ, List, Option}
use Rattle.fsbm.specs.declared.machine.Machine.{Machine}
use Rattle.pieces.specs.Blocks.{most_states}
use Rattle.blocks.specs.Settling.{Past}
use Rattle.least.specs.Turns.{Limit}
use Rattle.shortest.specs.Write.{Least}
use Rattle.found.specs.Joined.{Joined}
use Rattle.found.specs.Best.{Best}

pub record Weighed (m₁ : Machine) (l₁ : List ℕ) (m₂ : Machine) (l₂ : List ℕ) (m : Machine) (list d b : List ℕ) (f : Option ℕ) : Type 0 where
  pub joined : Joined m₁ l₁ m₂ l₂ m list
  pub past : Past m b
  pub top : ℕ
  pub limit : Limit m.marks d top
  pub least : Least top m list d
  pub best : Best m.marks d most_states f
