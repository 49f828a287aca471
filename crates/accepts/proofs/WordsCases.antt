-- The ways through accept_words and its loops, over plain variables.
--
-- ends_fall, ends_pass, ends_go_on, ends_done == the ways through the test of the ends
-- good_end        == what that test says of the next end
-- Answering       == what answer_each has after k words; answering_none, answering_more, answering_all == where it starts, one word more, its end
-- refused_table, refused_ends, refused_slice, answered == what each answer comes with
use Prim.Native.Nat.{ℕ, ◌+◌, ◌≤◌, ◌<◌}
use mathlib.Core.Path.{◌≡◌, refl, sym, ◌∙◌, ap}
use mathlib.Core.Bool.{Bool, true, false, ◌&&◌, cond}
use mathlib.Core.List.{List, [], ◌∷◌}
use native.Mathlib.Omega.{arith}
use native.Mathlib.Numerals.{add-one}
use lib.ListN.{length, get_or, set, drop, length-set, length-drop, drop_of_length-le}
use lib.Seq.{drop-cons}
use lib.Dec.{leb}
use borrow.Author.Tests.{le-leb, lt-leb, leb-true}
use Rattle.basics.specs.Search.Laws.{and_true}
use Rattle.basics.specs.Search.Loops.{pass, stop, first, second}
use Rattle.basics.specs.Lists.{put}
use Rattle.basics.specs.Lists.Laws.{put_none, put_one, put_put}
use Rattle.fsbm.specs.Machine.{well_formed}
use Rattle.fsbm.specs.Answers.{number_of, needed_of, by_refusal, CountValues, count_values}
use Rattle.fsbm.specs.declared.machine.Machine.{Machine}
use Rattle.fsbm.specs.declared.answer.Refusal.{Refusal}
use Rattle.accepts.specs.Decision.{decision}
use Rattle.accepts.specs.Words.{stretch, good_ends, answer_byte, answers_from, words_refusal, words_answer, words_after, words_values}
use Rattle.accepts.specs.Words.Laws.{answers_count}
use Rattle.std.specs.Prelude.{Option, None, Some, Result, Ok, Err}
use Rattle.fsbm.specs.declared.answer.Refusal.TheVariants.{BadTable, BadEnds, ShortAnswers}

-- the ends from index k on, the next of which is not the last
next_end : (ends : List ℕ) (k : ℕ) → k < length ends → drop k ends ≡ get_or ends k 0 ∷ drop (k + 1) ends
next_end ends k h = drop-cons ends k 0 h ∙ ap (λ (j : ℕ). get_or ends k 0 ∷ drop j ends) (sym (add-one k))

module _ (n from : ℕ) (ends : List ℕ) (k : ℕ) (inside : k < length ends) where
  ends_from : good_ends n from (drop k ends) ≡ (leb from (get_or ends k 0) && (leb (get_or ends k 0) n && good_ends n (get_or ends k 0) (drop (k + 1) ends)))
  unfolding good_ends
  ends_from = ap (good_ends n from) (next_end ends k inside)

  pub ends_fall : get_or ends k 0 < from → false ≡ good_ends n from (drop k ends)
  ends_fall h = stop _ (lt-leb _ _ h) ∙ sym ends_from

  module _ (rises : from ≤ get_or ends k 0) where
    pub ends_pass : n < get_or ends k 0 → false ≡ good_ends n from (drop k ends)
    ends_pass h = pass (le-leb _ _ rises) (stop _ (lt-leb _ _ h)) ∙ sym ends_from

    pub ends_go_on : get_or ends k 0 ≤ n → good_ends n (get_or ends k 0) (drop (k + 1) ends) ≡ good_ends n from (drop k ends)
    ends_go_on h = pass (le-leb _ _ rises) (pass (le-leb _ _ h) refl) ∙ sym ends_from

  pub good_end : good_ends n from (drop k ends) ≡ true → (from ≤ get_or ends k 0) × (get_or ends k 0 ≤ n) × (good_ends n (get_or ends k 0) (drop (k + 1) ends) ≡ true)
  good_end h =
      let (a, b) = and_true (leb from (get_or ends k 0)) _ (sym ends_from ∙ h) in
      let (c, d) = and_true (leb (get_or ends k 0) n) _ b in
      (leb-true _ _ a, leb-true _ _ c, d)

pub ends_done : (n from : ℕ) (ends : List ℕ) (k : ℕ) → length ends ≤ k → true ≡ good_ends n from (drop k ends)
unfolding good_ends
ends_done n from ends k h = ap (good_ends n from) (sym (drop_of_length-le ends h))

-- after k words: what is left of the ends is good, and with the answers that are left the slice holds what it is to hold
pub record Answering (m : Machine) (list letters ends before answers : List ℕ) (from k : ℕ) : Type 0 where
  pub within : k ≤ length ends
  pub good : good_ends (length letters) from (drop k ends) ≡ true
  pub size : length answers ≡ length before
  pub rest : put k answers (answers_from m list letters from (drop k ends)) ≡ put 0 before (answers_from m list letters 0 ends)

module _ (m : Machine) (list letters ends before : List ℕ) where
  pub answering_none : good_ends (length letters) 0 ends ≡ true → Answering m list letters ends before before 0 0
  answering_none h = record { within = omega arith; good = h; size = refl; rest = refl }

  module _ (answers : List ℕ) (from k : ℕ) (sofar : Answering m list letters ends before answers from k) (inside : k < length ends) (room : length ends ≤ length before) where
    pub next_good : (from ≤ get_or ends k 0) × (get_or ends k 0 ≤ length letters)
    next_good = let (a, b, c) = good_end (length letters) from ends k inside sofar.good in (a, b)

    pub answering_more : (b : ℕ) (d : Result Bool Refusal) → d ≡ decision m list (stretch letters from (get_or ends k 0)) → b ≡ answer_byte d
        → Answering m list letters ends before (set answers k b) (get_or ends k 0) (k + 1)
    unfolding answers_from
    answering_more b d at-d at_b =
        let end : ℕ = get_or ends k 0 in
        let (a, u, g) = good_end (length letters) from ends k inside sofar.good in
        let rest : List ℕ = answers_from m list letters end (drop (k + 1) ends) in
        let left = answers_count m list letters end (drop (k + 1) ends) in
        record {
          within = omega arith;
          good = g;
          size = length-set answers k b ∙ sofar.size;
          rest = ap (λ (l : List ℕ). put (k + 1) l rest) (put_one answers k b (let s = sofar.size in omega arith))
              ∙ (put_put k (k + 1) answers (b ∷ []) rest refl (fits left)
              ∙ (ap (λ (x : ℕ). put k answers (x ∷ rest)) (at_b ∙ ap answer_byte at-d)
              ∙ (ap (λ (l : List ℕ). put k answers (answers_from m list letters from l)) (sym (next_end ends k inside)) ∙ sofar.rest)));
        }
      where
        fits : length (answers_from m list letters (get_or ends k 0) (drop (k + 1) ends)) ≡ length (drop (k + 1) ends)
            → k + length (b ∷ []) + length (answers_from m list letters (get_or ends k 0) (drop (k + 1) ends)) ≤ length answers
        fits left = let s = sofar.size in let t = length-drop (k + 1) ends in omega arith

  pub answering_all : (answers : List ℕ) (from k : ℕ) → Answering m list letters ends before answers from k → length ends ≤ k
      → answers ≡ put 0 before (answers_from m list letters 0 ends)
  unfolding answers_from
  answering_all answers from k sofar h =
      put_none k answers ∙ (ap (λ (l : List ℕ). put k answers (answers_from m list letters from l)) (sym (drop_of_length-le ends h)) ∙ sofar.rest)

  -- the ways through accept_words
  abbrev Right : List ℕ → Result ℕ Refusal → Type 0
  Right after r =
      (r ≡ words_answer m list letters ends (length before))
      × (count_values r ≡ words_values m list letters ends (length before))
      × (after ≡ words_after m list letters ends before)

  numbers : by_refusal (words_refusal m list letters ends (length before)) (record { refusal = 0; needed = 0; count = length ends }) (λ g. record { refusal = number_of g; needed = needed_of g; count = 0 })
      ≡ words_values m list letters ends (length before)
  unfolding words_refusal words_values
  numbers = at (well_formed m list) (good_ends (length letters) 0 ends) (leb (length ends) (length before))
    where
      n : ℕ
      n = length ends

      at : (a b c : Bool) → ◌≡◌ {A = CountValues}
          (by_refusal (cond a (cond b (cond c None (Some (ShortAnswers n))) (Some BadEnds)) (Some BadTable)) (record { refusal = 0; needed = 0; count = n }) (λ g. record { refusal = number_of g; needed = needed_of g; count = 0 }))
          (cond a (cond b (cond c (record { refusal = 0; needed = 0; count = n }) (record { refusal = 35; needed = n; count = 0 })) (record { refusal = 34; needed = 0; count = 0 })) (record { refusal = 16; needed = 0; count = 0 }))
      at false b c = refl
      at true false c = refl
      at true true false = refl
      at true true true = refl

  refused_by : (f : Refusal) → Some f ≡ words_refusal m list letters ends (length before) → Right before (Err f)
  unfolding words_answer words_after words_values
  refused_by f at_f = (
    ap (λ (o : Option Refusal). by_refusal {A = Result ℕ Refusal} o (Ok (length ends)) (λ g. Err g)) at_f,
    ap (λ (o : Option Refusal). by_refusal o (record { refusal = 0; needed = 0; count = length ends }) (λ g. record { refusal = number_of g; needed = needed_of g; count = 0 })) at_f ∙ numbers,
    ap (λ (o : Option Refusal). by_refusal o (put 0 before (answers_from m list letters 0 ends)) (λ g. before)) at_f,
  )

  pub refused_table : well_formed m list ≡ false → Right before (Err BadTable)
  unfolding words_refusal
  refused_table h = refused_by BadTable (second _ h refl)

  module _ (obeys : well_formed m list ≡ true) where
    pub refused_ends : good_ends (length letters) 0 ends ≡ false → Right before (Err BadEnds)
    unfolding words_refusal
    refused_ends h = refused_by BadEnds (first _ obeys (second _ h refl))

    module _ (good : good_ends (length letters) 0 ends ≡ true) where
      pub refused_slice : length before < length ends → Right before (Err (ShortAnswers (length ends)))
      unfolding words_refusal
      refused_slice h = refused_by (ShortAnswers (length ends)) (first _ obeys (first _ good (second _ (lt-leb _ _ h) refl)))

      pub answered : length ends ≤ length before → (after : List ℕ) → after ≡ put 0 before (answers_from m list letters 0 ends) → Right after (Ok (length ends))
      unfolding words_refusal words_answer words_after words_values
      answered h after e =
          let none : None ≡ words_refusal m list letters ends (length before) = first _ obeys (first _ good (first _ (le-leb _ _ h) refl)) in (
            ap (λ (o : Option Refusal). by_refusal {A = Result ℕ Refusal} o (Ok (length ends)) (λ g. Err g)) none,
            ap (λ (o : Option Refusal). by_refusal o (record { refusal = 0; needed = 0; count = length ends }) (λ g. record { refusal = number_of g; needed = needed_of g; count = 0 })) none ∙ numbers,
            e ∙ ap (λ (o : Option Refusal). by_refusal o (put 0 before (answers_from m list letters 0 ends)) (λ g. before)) none,
          )
