-- Document 02, change 6: yes or no without a run, as theorems about the calls. Each speaks of whatever answer and slices a call leaves that
-- keeps its contract.
--
-- 1. accepts wants no run slice. Yes means what demand 2 says:
-- yes_iff_published   == the answer is yes, if and only if the word is in the published language
-- no_iff_published    == the answer is no, if and only if it is not
-- refused_iff         == the word is refused, if and only if the table or the word fails a test
-- refused_by          == a refusal is 16, 9 or 8; so of accepts and recognize only recognize meets 17
--
-- 2. With a run slice that is long enough accepts and recognize agree on every word that passes the tests before the slices:
-- both_yes            == recognize says yes, if and only if accepts does
-- both_no             == recognize says no, if and only if accepts does
-- both_refuse         == where these tests refuse, both refuse alike, whatever the run slice
--
-- 3. accept_words answers every word of a list as accepts does:
-- answered_iff        == every word is answered, if and only if the table obeys the rules, the ends are good and the slice is long enough
-- table_refused_iff, ends_refused_iff, slice_refused_iff == 16, 34 and 35, each if and only if it is the first to fail
-- ends_good_iff       == the ends are good, if and only if each is at or past the start of its word and none is past the letters
-- words_refused       == a refusal leaves the slice as it was
-- each_word           == the answers are as many as the ends, and the byte of each word is that of the answer of accepts to it
-- rest_kept           == what stands past the answers is as it was, and the slice is as long
-- word_yes, word_no   == the byte of a word that passes the tests is 1, if and only if the word is in the published language, 0, if and only if not
--
-- The listing answers by accepts too: listed_by_accepts in lines/specs/Line/Laws.antt.
use Prim.Native.Nat.{ℕ, ◌≤◌, ◌<◌}
use Rattle.std.specs.Prelude.{◌≡◌, refl, ◌↔◌, ◌⊎◌, Bool, cond, List, ◌++◌, length, get_or, drop, leb, Option, None, Some, Result, Ok, Err}
use Rattle.std.proofs.Math.Path.{sym}
use Rattle.std.proofs.Common.{◌∙◌, ap, arith, length-append, length-drop, drop_at}
use Rattle.std.proofs.Math.Logic.{inl, inr}
use Rattle.std.proofs.Math.Logic.Iff
use Rattle.std.proofs.Math.Bool.{true, false}
use Rattle.std.proofs.Math.ListN.{get_or-append}
use borrow.Author.Tests.{leb-true, leb-false}
use Rattle.basics.specs.Bools.{is_first, is_second}
use Rattle.basics.specs.Lists.{put}
use Rattle.basics.specs.Lists.Laws.{put_zero}
use Rattle.basics.specs.Search.Laws.{true_or_false}
use Rattle.fsbm.specs.Machine.{well_formed}
use Rattle.fsbm.specs.Published.{fsbm_of, InLanguage}
use Rattle.fsbm.specs.Accepted.{run_bound, accepted}
use Rattle.fsbm.specs.Answers.{longest_recognized, good_letters, table_and_word, refusal, count_values}
use Rattle.fsbm.specs.Answers.Laws.{unless_refused, unless_done, unless_ok, unless_err, not_both}
use Rattle.fsbm.specs.declared.machine.Machine.{Machine}
use Rattle.fsbm.specs.declared.answer.Refusal.{Refusal}
use Rattle.fsbm.specs.declared.answer.Refusal.TheVariants.{AbsentLetter, TooLong, BadTable, BadEnds, ShortAnswers}
use Rattle.fsbm.proofs.AnswerCases.{table_good}
use Rattle.language.specs.Bound.{accepted_iff_published, accepted_not_published}
use Rattle.accepts.specs.Decision.{decision}
use Rattle.accepts.specs.Words.{start_of, word_at, good_ends, answer_byte, answers_from, words_answer, words_after}
use Rattle.accepts.specs.Words.Laws.{answers_count, answers_at, good_ends_lem}
use Rattle.accepts.proofs.WordsCases as words
use Rattle.recognize.specs.Recognition.{recognition, Recognition}
use Rattle.demands.specs.Demand2 as demand2

-- 1. accepts

module _ (m : Machine) (list w : List ℕ) (d : Result Bool Refusal) (contract : d ≡ decision m list w) where
  refused_as : (table_and_word longest_recognized m list w ≡ 0 → ⊥) → d ≡ Err (refusal (table_and_word longest_recognized m list w))
  unfolding decision
  refused_as h = contract ∙ sym (unless_refused (table_and_word longest_recognized m list w) (Ok (accepted m list w)) h)

  decided_as : table_and_word longest_recognized m list w ≡ 0 → d ≡ Ok (accepted m list w)
  unfolding decision
  decided_as h = contract ∙ sym (unless_done (table_and_word longest_recognized m list w) (Ok (accepted m list w)) h)

  -- a table and a word that pass 16, 9 and 8
  module _ (not_refused : table_and_word longest_recognized m list w ≡ 0) where
    obeys : well_formed m list ≡ true
    obeys = (table_good longest_recognized m list w not_refused).0

    says : (b : Bool) → (d ≡ Ok b) ↔ (accepted m list w ≡ b)
    unfolding decision
    says b = (
      λ h. sym (unless_ok (table_and_word longest_recognized m list w) (accepted m list w) (sym h ∙ contract)).1,
      λ h. decided_as not_refused ∙ ap (λ (x : Bool). Ok x) h,
    )

    pub yes_iff_published : (d ≡ Ok true) ↔ InLanguage (fsbm_of m list) w
    yes_iff_published = Iff.trans (says true) (accepted_iff_published m list w obeys)

    pub no_iff_published : (d ≡ Ok false) ↔ (InLanguage (fsbm_of m list) w → ⊥)
    no_iff_published = Iff.trans (says false) (accepted_not_published m list w obeys)

  some_refusal : (f : Refusal) → d ≡ Err f → (table_and_word longest_recognized m list w ≡ 0 → ⊥) × (f ≡ refusal (table_and_word longest_recognized m list w))
  unfolding decision
  some_refusal f e = unless_err (table_and_word longest_recognized m list w) (accepted m list w) (sym e ∙ contract)

  pub refused_iff : ((f : Refusal) × (d ≡ Err f)) ↔ (table_and_word longest_recognized m list w ≡ 0 → ⊥)
  refused_iff = (λ s. (some_refusal s.0 s.1).0, λ h. (refusal (table_and_word longest_recognized m list w), refused_as h))

  pub refused_by : (f : Refusal) → d ≡ Err f → (f ≡ BadTable) ⊎ (f ≡ TooLong) ⊎ (f ≡ AbsentLetter)
  unfolding table_and_word refusal
  refused_by f e =
      let (n, is) = some_refusal f e in
      at (well_formed m list) (leb (length w) longest_recognized) (good_letters m.letters w) n is
    where
      at : (a b c : Bool) → (◌≡◌ {A = ℕ} (cond a (cond b (cond c 0 8) 9) 16) 0 → ⊥)
          → f ≡ refusal (cond a (cond b (cond c 0 8) 9) 16) → (f ≡ BadTable) ⊎ (f ≡ TooLong) ⊎ (f ≡ AbsentLetter)
      at true true true n e = absurd (n refl)
      at true true false n e = inr (inr e)
      at true false c n e = inr (inl e)
      at false b c n e = inl e

-- 2. accepts and recognize

module _ (m : Machine) (list w before after : List ℕ) (r : Result (Option ℕ) Refusal) (wrote : Recognition m list w before after r) (d : Result Bool Refusal) (contract : d ≡ decision m list w) where
  module _ (not_refused : table_and_word longest_recognized m list w ≡ 0) (long_enough : run_bound m (length w) ≤ length before) where
    pub both_yes : ((k : ℕ) × (r ≡ Ok (Some k))) ↔ (d ≡ Ok true)
    both_yes =
        Iff.trans (demand2.yes_iff_published m list w before after r wrote not_refused long_enough) (Iff.symm (yes_iff_published m list w d contract not_refused))

    pub both_no : (r ≡ Ok None) ↔ (d ≡ Ok false)
    both_no = Iff.trans (demand2.no_iff_published m list w before after r wrote not_refused long_enough) (Iff.symm (no_iff_published m list w d contract not_refused))

  pub both_refuse : (table_and_word longest_recognized m list w ≡ 0 → ⊥) → (f : Refusal) → (r ≡ Err f) ↔ (d ≡ Err f)
  unfolding recognition
  both_refuse h f =
      let n : ℕ = table_and_word longest_recognized m list w in
      let e : r ≡ Err (refusal n) = wrote.answer ∙ sym (unless_refused n _ h) in
      let e' : d ≡ Err (refusal n) = refused_as m list w d contract h in
      (λ (k : r ≡ Err f). cc, λ (k : d ≡ Err f). cc)

-- 3. accept_words

one_not_zero : ◌≡◌ {A = ℕ} 1 0 → ⊥
one_not_zero e = omega arith

module _ (m : Machine) (list letters ends before after : List ℕ) (r : Result ℕ Refusal) (answer : r ≡ words_answer m list letters ends (length before))
    (slice : after ≡ words_after m list letters ends before) where
  -- the first test that fails, or none, with the answer and the slice that it leads to
  data Way : Type 0 where
    no_table : well_formed m list ≡ false → r ≡ Err BadTable → after ≡ before → Way
    no_ends : well_formed m list ≡ true → good_ends (length letters) 0 ends ≡ false → r ≡ Err BadEnds → after ≡ before → Way
    no_room : well_formed m list ≡ true → good_ends (length letters) 0 ends ≡ true → length before < length ends
        → r ≡ Err (ShortAnswers (length ends)) → after ≡ before → Way
    all : well_formed m list ≡ true → good_ends (length letters) 0 ends ≡ true → length ends ≤ length before
        → r ≡ Ok (length ends) → after ≡ put 0 before (answers_from m list letters 0 ends) → Way

  way : Way
  way = at (true_or_false (well_formed m list)) (true_or_false (good_ends (length letters) 0 ends)) (true_or_false (leb (length ends) (length before)))
    where
      at : (well_formed m list ≡ true) ⊎ (well_formed m list ≡ false) → (good_ends (length letters) 0 ends ≡ true) ⊎ (good_ends (length letters) 0 ends ≡ false)
          → (leb (length ends) (length before) ≡ true) ⊎ (leb (length ends) (length before) ≡ false) → Way
      at (inr t) g l = let s = words.refused_table m list letters ends before t in no_table t (answer ∙ sym s.0) (slice ∙ sym s.2)
      at (inl t) (inr g) l = let s = words.refused_ends m list letters ends before t g in no_ends t g (answer ∙ sym s.0) (slice ∙ sym s.2)
      at (inl t) (inl g) (inr l) =
          let short = leb-false (length ends) (length before) l in
          let s = words.refused_slice m list letters ends before t g short in
          no_room t g short (answer ∙ sym s.0) (slice ∙ sym s.2)
      at (inl t) (inl g) (inl l) =
          let long = leb-true (length ends) (length before) l in
          let s = words.answered m list letters ends before t g long (put 0 before (answers_from m list letters 0 ends)) refl in
          all t g long (answer ∙ sym s.0) (slice ∙ sym s.2)

  same_number : {a : Result ℕ Refusal} → r ≡ a → (count_values r).refusal ≡ (count_values a).refusal
  same_number e = ap (λ (a : Result ℕ Refusal). (count_values a).refusal) e

  -- what an answer to every word comes with
  record Done (n : ℕ) : Type 0 where
    table : well_formed m list ≡ true
    good : good_ends (length letters) 0 ends ≡ true
    room : length ends ≤ length before
    count : n ≡ length ends
    written : after ≡ answers_from m list letters 0 ends ++ drop (length ends) before

  done : (n : ℕ) → r ≡ Ok n → Way → Done n
  done n h (no_table t e s) = absurd (not_both h e)
  done n h (no_ends t g e s) = absurd (not_both h e)
  done n h (no_room t g l e s) = absurd (not_both h e)
  done n h (all t g l e s) =
      record {
        table = t;
        good = g;
        room = l;
        count = ap (λ (a : Result ℕ Refusal). (count_values a).count) (sym h ∙ e);
        written = s
            ∙ (put_zero before (answers_from m list letters 0 ends)
            ∙ ap (λ (i : ℕ). answers_from m list letters 0 ends ++ drop i before) (answers_count m list letters 0 ends));
      }

  pub answered_iff : ((n : ℕ) × (r ≡ Ok n)) ↔ ((well_formed m list ≡ true) × (good_ends (length letters) 0 ends ≡ true) × (length ends ≤ length before))
  answered_iff = (
    λ s. let f = done s.0 s.1 way in (f.table, f.good, f.room),
    λ s. (length ends, answer ∙ sym (words.answered m list letters ends before s.0 s.1 s.2 (put 0 before (answers_from m list letters 0 ends)) refl).0),
  )

  pub table_refused_iff : (r ≡ Err BadTable) ↔ (well_formed m list ≡ false)
  table_refused_iff = (λ e. to (same_number e) way, λ t. answer ∙ sym (words.refused_table m list letters ends before t).0)
    where
      to : (count_values r).refusal ≡ 16 → Way → well_formed m list ≡ false
      to h (no_table t e s) = t
      to h (no_ends t g e s) = absurd (let z = same_number e in omega arith)
      to h (no_room t g l e s) = absurd (let z = same_number e in omega arith)
      to h (all t g l e s) = absurd (let z = same_number e in omega arith)

  pub ends_refused_iff : (r ≡ Err BadEnds) ↔ ((well_formed m list ≡ true) × (good_ends (length letters) 0 ends ≡ false))
  ends_refused_iff = (λ e. to (same_number e) way, λ s. answer ∙ sym (words.refused_ends m list letters ends before s.0 s.1).0)
    where
      to : (count_values r).refusal ≡ 34 → Way → (well_formed m list ≡ true) × (good_ends (length letters) 0 ends ≡ false)
      to h (no_table t e s) = absurd (let z = same_number e in omega arith)
      to h (no_ends t g e s) = (t, g)
      to h (no_room t g l e s) = absurd (let z = same_number e in omega arith)
      to h (all t g l e s) = absurd (let z = same_number e in omega arith)

  pub slice_refused_iff : (r ≡ Err (ShortAnswers (length ends)))
      ↔ ((well_formed m list ≡ true) × (good_ends (length letters) 0 ends ≡ true) × (length before < length ends))
  slice_refused_iff = (λ e. to (same_number e) way, λ s. answer ∙ sym (words.refused_slice m list letters ends before s.0 s.1 s.2).0)
    where
      to : (count_values r).refusal ≡ 35 → Way → (well_formed m list ≡ true) × (good_ends (length letters) 0 ends ≡ true) × (length before < length ends)
      to h (no_table t e s) = absurd (let z = same_number e in omega arith)
      to h (no_ends t g e s) = absurd (let z = same_number e in omega arith)
      to h (no_room t g l e s) = (t, g, l)
      to h (all t g l e s) = absurd (let z = same_number e in omega arith)

  pub ends_good_iff : (good_ends (length letters) 0 ends ≡ true)
      ↔ ((k : ℕ) → k < length ends → (start_of ends k ≤ get_or ends k 0) × (get_or ends k 0 ≤ length letters))
  ends_good_iff = good_ends_lem (length letters) ends

  pub words_refused : (f : Refusal) → r ≡ Err f → after ≡ before
  words_refused f h = at way
    where
      at : Way → after ≡ before
      at (no_table t e s) = s
      at (no_ends t g e s) = s
      at (no_room t g l e s) = s
      at (all t g l e s) = absurd (not_both e h)

  -- every word is answered
  module _ (n : ℕ) (says : r ≡ Ok n) where
    all_done : Done n
    all_done = done n says way

    pub each_word : (n ≡ length ends) × ((k : ℕ) → k < length ends → (d : Result Bool Refusal) → d ≡ decision m list (word_at letters ends k) → get_or after k 0 ≡ answer_byte d)
    each_word = (
      all_done.count,
      λ k h d e.
          ap (λ (l : List ℕ). get_or l k 0) all_done.written
          ∙ (get_or-append (answers_from m list letters 0 ends) (drop (length ends) before) 0 k (let z = answers_count m list letters 0 ends in omega arith)
          ∙ (answers_at m list letters ends k h ∙ ap answer_byte (sym e))),
    )

    pub rest_kept : (drop n after ≡ drop n before) × (length after ≡ length before)
    rest_kept = (
      ap (drop n) all_done.written
          ∙ (drop_at (answers_from m list letters 0 ends) (drop (length ends) before) n (answers_count m list letters 0 ends ∙ sym all_done.count)
          ∙ ap (λ (i : ℕ). drop i before) (sym all_done.count)),
      ap length all_done.written
          ∙ (length-append (answers_from m list letters 0 ends) (drop (length ends) before)
          ∙ (let a = answers_count m list letters 0 ends in let b = length-drop (length ends) before in omega (arith, all_done.room))),
    )

    -- a word that passes the tests
    module _ (k : ℕ) (inside : k < length ends) (not_refused : table_and_word longest_recognized m list (word_at letters ends k) ≡ 0) where
      byte : get_or after k 0 ≡ cond (accepted m list (word_at letters ends k)) 1 0
      byte =
          each_word.1 k inside (decision m list (word_at letters ends k)) refl
          ∙ ap answer_byte (decided_as m list (word_at letters ends k) (decision m list (word_at letters ends k)) refl not_refused)

      pub word_yes : (get_or after k 0 ≡ 1) ↔ InLanguage (fsbm_of m list) (word_at letters ends k)
      word_yes = Iff.trans (is_first one_not_zero (accepted m list (word_at letters ends k)) byte) (accepted_iff_published m list (word_at letters ends k) all_done.table)

      pub word_no : (get_or after k 0 ≡ 0) ↔ (InLanguage (fsbm_of m list) (word_at letters ends k) → ⊥)
      word_no = Iff.trans (is_second one_not_zero (accepted m list (word_at letters ends k)) byte) (accepted_not_published m list (word_at letters ends k) all_done.table)
