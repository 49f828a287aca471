-- Demand 3, about the call that searches a shortest common word: of whatever answer and slices it leaves that keep its contract
-- (`CommonWord`), for every two tables that meet no refusal ahead of 18.
--
-- common_word_published == the demand for the published definition: "no common word" exactly if no word of any length is in both languages; else
--                          the first slice that is too short is refused with the length it needs, exactly then; and where none is, exactly
--                          then, a shortest word stands at the front of its slice with a written run of each table (`Demand`)
-- common_word_runs      == the same for acceptance by each table's own runs
-- nothing_written       == where nothing is found, every slice is as it was
use Rattle.std.specs.Prelude.{◌≡◌, List, ℕ, length}
use Rattle.fsbm.specs.declared.machine.Machine.{Machine}
use Rattle.product.specs.Product.{join_fault}
use Rattle.common.specs.declared.Lengths.{Lengths}
use Rattle.std.specs.Prelude.{Option, Some, Result, Ok}
use Rattle.fsbm.specs.declared.answer.Refusal.{Refusal}
use Rattle.common.specs.Common.{CommonWord}
use Rattle.common.specs.Demand.{BothAccept, BothPublished, Demand}
use Rattle.common.proofs.DemandLaws.{demand_runs, demand_published, unchanged}

module _ (m₁ : Machine) (l₁ : List ℕ) (m₂ : Machine) (l₂ : List ℕ) (word word' first first' second second' : List ℕ) (r : Result (Option Lengths) Refusal)
    (contract : CommonWord m₁ l₁ m₂ l₂ word word' first first' second second' r) where
  pub nothing_written : ((k : Lengths) → r ≡ Ok (Some k) → ⊥) → (word' ≡ word) × (first' ≡ first) × (second' ≡ second)
  nothing_written h = unchanged contract h

  module _ (not_refused : join_fault m₁ l₁ m₂ l₂ ≡ 0) where
    pub common_word_published : Demand (BothPublished m₁ l₁ m₂ l₂) m₁ l₁ m₂ l₂ (length word) (length first) (length second) word' first' second' r
    common_word_published = demand_published m₁ l₁ m₂ l₂ word word' first first' second second' r contract not_refused

    pub common_word_runs : Demand (BothAccept m₁ l₁ m₂ l₂) m₁ l₁ m₂ l₂ (length word) (length first) (length second) word' first' second' r
    common_word_runs = demand_runs m₁ l₁ m₂ l₂ word word' first first' second second' r contract not_refused
