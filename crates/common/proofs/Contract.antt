-- The contract of the search in each case, from what the code has at that return.
--
-- contract_unchanged   == an answer with which nothing is written, and the slices as they were
-- contract_found       == a word and two accepting runs at the front of slices that are long enough
use Rattle.std.specs.Prelude.{ℕ, ◌+◌, ◌≤◌, ◌≡◌, refl, true, List, length, take}
use Rattle.std.proofs.Common.{ap, ◌∙◌, subst₂, arith}
use Rattle.fsbm.specs.Moves.{accepting}
use Rattle.fsbm.specs.Accepted.{run_bound}
use Rattle.fsbm.specs.declared.machine.Machine.{Machine}
use Rattle.product.specs.Product.{join_fault}
use Rattle.pieces.specs.Bound.{word_bound}
use Rattle.common.specs.declared.Lengths.{Lengths}
use Rattle.std.specs.Prelude.{Option, None, Some, Result, Ok, Err}
use Rattle.fsbm.specs.declared.answer.Refusal.{Refusal}
use Rattle.common.specs.Common.{least_common, common_answer, common_values, Front, CommonWord}
use Rattle.common.proofs.CommonLaws.{answer_found, values_agree}

front_same : (l : List ℕ) → Front 0 l l
front_same l = record { fits = omega arith; size = refl; rest = refl }

not_refused : {A : Type 0} (k : Lengths) (r : Result (Option Lengths) Refusal) → (common_values r).found ≡ 0 → r ≡ Ok (Some k) → A
not_refused k r z e = let f = ap (λ (x : Result (Option Lengths) Refusal). (common_values x).found) e in absurd (omega arith)

module _ (m₁ : Machine) (l₁ : List ℕ) (m₂ : Machine) (l₂ word first second : List ℕ) where
  pub contract_unchanged : (r : Result (Option Lengths) Refusal) (entries : ℕ) → (common_values r).found ≡ 0 → r ≡ common_answer m₁ l₁ m₂ l₂ (length word) (length first) (length second) entries
      → CommonWord m₁ l₁ m₂ l₂ word word first first second second r
  contract_unchanged (Err f) entries z e =
      record {
        entries = entries;
        answer = e;
        values = ap common_values e ∙ values_agree m₁ l₁ m₂ l₂ (length word) (length first) (length second) entries;
        bounded = omega arith;
        of_word = front_same word;
        of_first = front_same first;
        of_second = front_same second;
        first_accepts = λ k is. not_refused k (Err f) refl is;
        second_accepts = λ k is. not_refused k (Err f) refl is;
      }
  contract_unchanged (Ok None) entries z e =
      record {
        entries = entries;
        answer = e;
        values = ap common_values e ∙ values_agree m₁ l₁ m₂ l₂ (length word) (length first) (length second) entries;
        bounded = omega arith;
        of_word = front_same word;
        of_first = front_same first;
        of_second = front_same second;
        first_accepts = λ k is. not_refused k (Ok None) refl is;
        second_accepts = λ k is. not_refused k (Ok None) refl is;
      }
  contract_unchanged (Ok (Some k)) entries z e = absurd (omega arith)

  abbrev n : ℕ
  n = least_common m₁ l₁ m₂ l₂

  pub contract_found : (word' first' second' : List ℕ) (entries : ℕ) → join_fault m₁ l₁ m₂ l₂ ≡ 0 → n ≤ word_bound → run_bound m₁ n ≤ length first → entries ≤ run_bound m₁ n
      → Front n word word' → Front entries first first' → Front (n + 1) second second'
      → accepting m₁ l₁ (take n word') (take entries first') ≡ true → accepting m₂ l₂ (take n word') (take (n + 1) second') ≡ true
      → CommonWord m₁ l₁ m₂ l₂ word word' first first' second second' (Ok (Some (record { letters = n; first = entries; second = n + 1 })))
  contract_found word' first' second' entries fine within fits bounded w f s a₁ a₂ =
      let is = answer_found m₁ l₁ m₂ l₂ (length word) (length first) (length second) entries fine within w.fits fits s.fits in
      record {
        entries = entries;
        answer = is;
        values = ap common_values is ∙ values_agree m₁ l₁ m₂ l₂ (length word) (length first) (length second) entries;
        bounded = bounded;
        of_word = w;
        of_first = f;
        of_second = s;
        first_accepts = λ k e. accepts_at m₁ l₁ word' first' (ap (λ (x : Result (Option Lengths) Refusal). (common_values x).letters) e) (ap (λ (x : Result (Option Lengths) Refusal). (common_values x).first) e) a₁;
        second_accepts = λ k e. accepts_at m₂ l₂ word' second' (ap (λ (x : Result (Option Lengths) Refusal). (common_values x).letters) e) (ap (λ (x : Result (Option Lengths) Refusal). (common_values x).second) e) a₂;
      }
    where
      accepts_at : (m : Machine) (l v run : List ℕ) {i j i' j' : ℕ} → i ≡ i' → j ≡ j' → accepting m l (take i v) (take j run) ≡ true → accepting m l (take i' v) (take j' run) ≡ true
      accepts_at m l v run {i} {j} {i'} {j'} a b h = subst₂ (λ (x y : ℕ). accepting m l (take x v) (take y run) ≡ true) a b h
