-- The ways through reach.
--
-- refused_input == 16, 9 or 8
-- refused_slice == 36
-- written       == the sets are written
use Prim.Native.Nat.{ℕ, ◌≤◌, ◌<◌}
use mathlib.Core.Path.{◌≡◌, refl, sym, ap, ◌∙◌}
use mathlib.Core.Bool.{true, false}
use mathlib.Core.List.{List}
use lib.ListN.{length}
use lib.Dec.{leb}
use borrow.Author.Tests.{le-leb, lt-leb, eq-eqb, ne_eqb}
use Rattle.std.specs.Prelude.{Option, None, Some, Result, Ok, Err}
use Rattle.basics.specs.Lists.{put}
use Rattle.basics.specs.Search.Loops.{first, second}
use Rattle.fsbm.specs.Answers.{longest_recognized, table_and_word, number_of, needed_of, by_refusal, passed, run_refusal, count_values}
use Rattle.fsbm.specs.Answers.Laws.{passed_err, table_numbered, run_numbers}
use Rattle.fsbm.specs.declared.machine.Machine.{Machine}
use Rattle.fsbm.specs.declared.answer.Refusal.{Refusal}
use Rattle.fsbm.specs.declared.answer.Refusal.TheVariants.{ShortSets}
use Rattle.reach.specs.Reaching.{sets_needed, reached_sets, reach_refusal, reach_answer, reach_after, reach_values}

module _ (m : Machine) (list w before : List ℕ) where
  abbrev Right : List ℕ → Result ℕ Refusal → Type 0
  Right after r = (r ≡ reach_answer m list w (length before)) × (count_values r ≡ reach_values m list w (length before)) × (after ≡ reach_after m list w before)

  numbers : by_refusal (reach_refusal m list w (length before)) (record { refusal = 0; needed = 0; count = sets_needed w }) (λ g. record { refusal = number_of g; needed = needed_of g; count = 0 })
      ≡ reach_values m list w (length before)
  unfolding reach_refusal reach_values run_refusal
  numbers =
      run_numbers (table_and_word longest_recognized m list w) true (ShortSets (sets_needed w)) (length before) (record { refusal = 0; needed = 0; count = sets_needed w })
      (λ n l. record { refusal = n; needed = l; count = 0 }) (table_numbered longest_recognized m list w)

  refused_by : (f : Refusal) → Some f ≡ reach_refusal m list w (length before) → Right before (Err f)
  unfolding reach_answer reach_after reach_values
  refused_by f e = (
    ap (λ (o : Option Refusal). by_refusal {A = Result ℕ Refusal} o (Ok (sets_needed w)) (λ g. Err g)) e,
    ap (λ (o : Option Refusal). by_refusal o (record { refusal = 0; needed = 0; count = sets_needed w }) (λ g. record { refusal = number_of g; needed = needed_of g; count = 0 })) e ∙ numbers,
    ap (λ (o : Option Refusal). by_refusal o (put 0 before (reached_sets m list w)) (λ g. before)) e,
  )

  pub refused_input : (f : Refusal) → Err f ≡ passed (table_and_word longest_recognized m list w) → Right before (Err f)
  unfolding reach_refusal
  refused_input f e =
      let h = passed_err (table_and_word longest_recognized m list w) f e in
      refused_by f (second _ (ne_eqb (table_and_word longest_recognized m list w) 0 h.0) (ap (λ (z : Refusal). Some z) h.1))

  module _ (good : table_and_word longest_recognized m list w ≡ 0) where
    pub refused_slice : (needed : ℕ) → needed ≡ sets_needed w → length before < needed → Right before (Err (ShortSets needed))
    unfolding reach_refusal
    refused_slice needed e h =
        let t : leb (sets_needed w) (length before) ≡ false = ap (λ (n : ℕ). leb n (length before)) (sym e) ∙ lt-leb needed (length before) h in
        refused_by (ShortSets needed) (first _ (eq-eqb (table_and_word longest_recognized m list w) 0 good) (second _ t (ap (λ (n : ℕ). Some (ShortSets n)) e)))

    pub written : (needed : ℕ) → needed ≡ sets_needed w → needed ≤ length before → (after : List ℕ) → after ≡ put 0 before (reached_sets m list w) → Right after (Ok needed)
    unfolding reach_refusal reach_answer reach_after reach_values
    written needed e h after a =
        let l : leb (sets_needed w) (length before) ≡ true = ap (λ (n : ℕ). leb n (length before)) (sym e) ∙ le-leb needed (length before) h in
        let none : None ≡ reach_refusal m list w (length before) = first _ (eq-eqb (table_and_word longest_recognized m list w) 0 good) (first _ l refl) in (
          ap (λ (n : ℕ). Ok n) e ∙ ap (λ (o : Option Refusal). by_refusal {A = Result ℕ Refusal} o (Ok (sets_needed w)) (λ g. Err g)) none,
          ap (λ (n : ℕ). record { refusal = 0; needed = 0; count = n }) e
              ∙ ap (λ (o : Option Refusal). by_refusal o (record { refusal = 0; needed = 0; count = sets_needed w }) (λ g. record { refusal = number_of g; needed = needed_of g; count = 0 })) none ∙ numbers,
          a ∙ ap (λ (o : Option Refusal). by_refusal o (put 0 before (reached_sets m list w)) (λ g. before)) none,
        )
