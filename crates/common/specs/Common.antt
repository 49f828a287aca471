-- The shortest common word of a machine and a plain machine (document 01, "Joining"; demand 3): what is searched, what is answered, and
-- what the caller's slices hold afterwards. The laws stand in specs/Common/Laws.antt and specs/Demand.antt.
--
-- is_common .. w        == both machines accept w, each by runs of its own
-- has_common .. n       == some word of n letters is common
-- least_common ..       == the number of letters of a shortest common word; one more than the longest that is searched where there is none
-- common_answer .. word first second entries == the answer to slices of these lengths; entries is the length of the first run that is written
-- common_values r       == document 01's number and values for each case of the answer
-- answer_values ..      == those that the rules give
-- Front k before after == k elements stand at the front of a slice, and the rest is as it was
-- CommonWord           == the contract: the answer with its number and values, the word and the runs at the front of the slices, the rest as it was
use Rattle.std.specs.Prelude.{ℕ, suc, ◌+◌, ◌≤◌, ◌≡◌, Bool, true, cond, ◌&&◌, List, ◌++◌, length, take, drop, leb, eqb}
use Rattle.basics.specs.Search.{exists_list}
use Rattle.graphs.specs.Least.{least_below}
use Rattle.fsbm.specs.Machine.{max_letters}
use Rattle.fsbm.specs.Moves.{accepting}
use Rattle.fsbm.specs.Accepted.{run_bound, accepted}
use Rattle.fsbm.specs.Answers.{number_of, needed_of, unless}
use Rattle.fsbm.specs.declared.machine.Machine.{Machine}
use Rattle.product.specs.Product.{join_fault}
use Rattle.pieces.specs.Bound.{word_bound}
use Rattle.common.specs.declared.Lengths.{Lengths}
use Rattle.std.specs.Prelude.{Option, None, Some, Result, Ok, Err}
use Rattle.fsbm.specs.declared.answer.Refusal.{Refusal}
use Rattle.fsbm.specs.declared.answer.Refusal.TheVariants.{ShortRun, ShortWord}

module _ (m₁ : Machine) (l₁ : List ℕ) (m₂ : Machine) (l₂ : List ℕ) where
  unfoldable pub is_common : List ℕ → Bool
  is_common w = accepted m₁ l₁ w && accepted m₂ l₂ w

  -- Opened by its laws alone, and never computed: a search through all words of n letters, letter numbers as they may stand in a table.
  unfoldable pub has_common : ℕ → Bool
  has_common n = exists_list (suc max_letters) n (λ w. eqb (length w) n && is_common w)

  -- Opened by its laws alone, and never computed. That no longer word need be searched is a law.
  unfoldable pub least_common : ℕ
  least_common = least_below (suc word_bound) has_common

  -- 16, 10 to 13 as for joining; no common word; 18 and 17 for the first slice that is too short, with the length it needs
  unfoldable pub common_answer : ℕ → ℕ → ℕ → ℕ → Result (Option Lengths) Refusal
  common_answer word first second entries =
      unless (join_fault m₁ l₁ m₂ l₂)
      (cond (leb least_common word_bound)
      (cond (leb least_common word)
      (cond (leb (run_bound m₁ least_common) first)
      (cond (leb (least_common + 1) second)
      (Ok (Some (record { letters = least_common; first = entries; second = least_common + 1 })))
      (Err (ShortRun (least_common + 1))))
      (Err (ShortRun (run_bound m₁ least_common))))
      (Err (ShortWord least_common)))
      (Ok None))

-- the refusal's number or 0, the length needed or 0, 1 where a word is found and else 0, and how many elements are written to each slice
pub record CommonValues : Type 0 where
  pub refusal : ℕ
  pub needed : ℕ
  pub found : ℕ
  pub letters : ℕ
  pub first : ℕ
  pub second : ℕ

-- those of an answer with which nothing is written
abbrev pub nothing_found : ℕ → ℕ → CommonValues
nothing_found number needed = record { refusal = number; needed = needed; found = 0; letters = 0; first = 0; second = 0 }

abbrev pub common_values : Result (Option Lengths) Refusal → CommonValues
common_values (Err f) = nothing_found (number_of f) (needed_of f)
common_values (Ok None) = nothing_found 0 0
common_values (Ok (Some k)) = record { refusal = 0; needed = 0; found = 1; letters = k.letters; first = k.first; second = k.second }

module _ (m₁ : Machine) (l₁ : List ℕ) (m₂ : Machine) (l₂ : List ℕ) where
  unfoldable pub answer_values : ℕ → ℕ → ℕ → ℕ → CommonValues
  answer_values word first second entries =
      cond (eqb (join_fault m₁ l₁ m₂ l₂) 0)
      (cond (leb (least_common m₁ l₁ m₂ l₂) word_bound)
      (cond (leb (least_common m₁ l₁ m₂ l₂) word)
      (cond (leb (run_bound m₁ (least_common m₁ l₁ m₂ l₂)) first)
      (cond (leb (least_common m₁ l₁ m₂ l₂ + 1) second)
      (record { refusal = 0; needed = 0; found = 1; letters = least_common m₁ l₁ m₂ l₂; first = entries; second = least_common m₁ l₁ m₂ l₂ + 1 })
      (nothing_found 17 (least_common m₁ l₁ m₂ l₂ + 1)))
      (nothing_found 17 (run_bound m₁ (least_common m₁ l₁ m₂ l₂))))
      (nothing_found 18 (least_common m₁ l₁ m₂ l₂)))
      (nothing_found 0 0))
      (nothing_found (join_fault m₁ l₁ m₂ l₂) 0)

pub record Front (k : ℕ) (before after : List ℕ) : Type 0 where
  pub fits : k ≤ length before
  pub size : length after ≡ length before
  pub rest : after ≡ take k after ++ drop k before

-- Which shortest word is written, and which accepting run of the first machine, and so how many entries that run has, is left open by
-- document 01; the rest is one equation each.
pub record CommonWord (m₁ : Machine) (l₁ : List ℕ) (m₂ : Machine) (l₂ : List ℕ) (word word' first first' second second' : List ℕ) (r : Result (Option Lengths) Refusal) : Type 0 where
  pub entries : ℕ
  pub answer : r ≡ common_answer m₁ l₁ m₂ l₂ (length word) (length first) (length second) entries
  pub values : common_values r ≡ answer_values m₁ l₁ m₂ l₂ (length word) (length first) (length second) entries
  pub bounded : (common_values r).first ≤ run_bound m₁ (common_values r).letters
  pub of_word : Front (common_values r).letters word word'
  pub of_first : Front (common_values r).first first first'
  pub of_second : Front (common_values r).second second second'
  pub first_accepts : (k : Lengths) → r ≡ Ok (Some k) → accepting m₁ l₁ (take k.letters word') (take k.first first') ≡ true
  pub second_accepts : (k : Lengths) → r ≡ Ok (Some k) → accepting m₂ l₂ (take k.letters word') (take k.second second') ≡ true
