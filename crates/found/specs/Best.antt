-- The final state with the least number. The laws stand in specs/Best/Laws.antt.
--
-- best_cost d b         == the number of the state b; of none, that nothing leads there
-- Best marks d k b     == among the states below k, b is a final one with the least number below `nothing`; or there is none
use Rattle.std.specs.Prelude.{ℕ, ◌≤◌, ◌<◌, ◌≡◌, true, List, Option, Some, None, MatchOption, ⊤}
use Rattle.fsbm.specs.Machine.{final}
use Rattle.pieces.specs.Blocks.{most_states, nothing, cost_of}
pub mod Laws

abbrev pub best_cost : List ℕ → Option ℕ → ℕ
best_cost d None = nothing
best_cost d (Some b) = cost_of d b

pub record Best (marks d : List ℕ) (k : ℕ) (b : Option ℕ) : Type 0 where
  pub known : MatchOption b ⊤ (λ f. (f < most_states) × (final marks f ≡ true) × (cost_of d f < nothing))
  pub least : (g : ℕ) → g < k → final marks g ≡ true → best_cost d b ≤ cost_of d g
