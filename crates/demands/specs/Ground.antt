-- The ground of every yes and no: the states that runs reach, as theorems about the call reach. Each speaks of whatever answer and slice a call
-- leaves that keeps its contract.
--
-- 1. What is refused, and what a slice keeps:
-- written_iff         == the sets are written, if and only if the table and the word pass their tests and the slice is long enough
-- input_refused_iff, input_refused_number == 16, 9 or 8, if and only if that is the first test to fail; with its number
-- slice_refused_iff   == 36 with the length needed, if and only if only the slice is too short
-- reach_refused       == a refusal leaves the slice as it was
-- sets_written        == 3 × (letters + 1) numbers are written; what stands past them is as it was, and the slice is as long
--
-- 2. Which states are in the sets, exactly:
-- in_set_iff_run      == a state is in the set of a position and a mode, if and only if some entries lead from an initial start to a
--                        configuration with this position, state and mode
-- in_set_iff_published == the same by the published definition
--
-- 3. The ground of a yes and of a no:
-- accepted_by_sets    == a word is in the published language, if and only if the normal set at its end has a final state
-- yes_by_sets, no_by_sets == so accepts says yes, if and only if it has one, and no, if and only if it has none
--
-- 4. How far runs read:
-- empty_after         == if all three sets of a position are empty, they are empty at every later one
-- none_past           == then no run gets to that position or past it
use Rattle.std.specs.Prelude.{ℕ, ◌≤◌, ◌<◌, refl, ◌↔◌, ◌⊎◌, Bool, cond, List, ◌++◌, length, get_or, drop, leb, Result, Ok, Err}
use Rattle.std.proofs.Math.Path.{◌≡◌}
use Rattle.std.proofs.Common.{sym, ◌∙◌, ap, subst, inl, inr, length-append, length-drop, drop_at, leb-true, leb-false}
use Rattle.std.proofs.Math.Logic.Iff
use Rattle.std.proofs.Math.Bool.{true, false}
use Rattle.std.proofs.lemmas.Bool.{false≢true}
use native.Mathlib.Omega.{arith}
use Rattle.std.proofs.Math.Decide.{ℕ_discrete}
use Rattle.basics.specs.Lists.{put}
use Rattle.basics.specs.Lists.Laws.{put_zero}
use Rattle.basics.specs.Search.Laws.{true_or_false}
use Rattle.stateset.specs.Set.{In}
use Rattle.stateset.specs.Set.Laws.{same_members, empty_in}
use Rattle.fsbm.specs.Machine.{well_formed, final}
use Rattle.fsbm.specs.Published.{fsbm_of, InLanguage}
use Rattle.fsbm.specs.Answers.{longest_recognized, good_letters, table_and_word, number_of, refusal, count_values}
use Rattle.fsbm.specs.Answers.Laws.{unless_refused, not_both, table_numbered}
use Rattle.fsbm.specs.Reaches.{leads, reaches, Reachable}
use Rattle.fsbm.specs.declared.machine.Machine.{Machine}
use Rattle.fsbm.specs.declared.answer.Refusal.{Refusal}
use Rattle.fsbm.specs.declared.answer.Refusal.TheVariants.{ShortSets}
use Rattle.fsbm.specs.declared.config.Mode.{Mode}
use Rattle.fsbm.specs.declared.config.Mode.TheVariants.{Normal}
use Rattle.fsbm.proofs.AnswerCases.{table_good}
use Rattle.language.specs.Bound.{accepted_iff_published}
use Rattle.language.specs.Reaches.{reaches_iff_run, reaches_iff_published, accepted_iff_final, none_after}
use Rattle.accepts.specs.Decision.{decision}
use Rattle.reach.specs.Reaching.{set_at, sets_needed, reached_set, reached_sets, reach_answer, reach_after}
use Rattle.reach.specs.Reaching.Laws.{reached_in, sets_length, set_at_lem}
use Rattle.reach.proofs.AnswerCases as cases
use Rattle.demands.specs.YesOrNo as words

module _ (m : Machine) (list w before after : List ℕ) (r : Result ℕ Refusal) (answer : r ≡ reach_answer m list w (length before)) (slice : after ≡ reach_after m list w before) where
  -- the first test that fails, or none, with the answer and the slice that it leads to
  data Way : Type 0 where
    bad_input : (table_and_word longest_recognized m list w ≡ 0 → ⊥) → r ≡ Err (refusal (table_and_word longest_recognized m list w)) → after ≡ before → Way
    no_room : table_and_word longest_recognized m list w ≡ 0 → length before < sets_needed w → r ≡ Err (ShortSets (sets_needed w)) → after ≡ before → Way
    all : table_and_word longest_recognized m list w ≡ 0 → sets_needed w ≤ length before → r ≡ Ok (sets_needed w) → after ≡ put 0 before (reached_sets m list w) → Way

  way : Way
  way = at (ℕ_discrete (table_and_word longest_recognized m list w) 0) (true_or_false (leb (sets_needed w) (length before)))
    where
      at : Dec (table_and_word longest_recognized m list w ≡ 0) → (leb (sets_needed w) (length before) ≡ true) ⊎ (leb (sets_needed w) (length before) ≡ false) → Way
      at (no n) l = let s = cases.refused_input m list w before (refusal (table_and_word longest_recognized m list w)) (unless_refused (table_and_word longest_recognized m list w) (Ok tt) n) in bad_input n (answer ∙ sym s.0) (slice ∙ sym s.2)
      at (yes z) (inr l) =
          let short = leb-false (sets_needed w) (length before) l in
          let s = cases.refused_slice m list w before z (sets_needed w) refl short in
          no_room z short (answer ∙ sym s.0) (slice ∙ sym s.2)
      at (yes z) (inl l) =
          let long = leb-true (sets_needed w) (length before) l in
          let s = cases.written m list w before z (sets_needed w) refl long (put 0 before (reached_sets m list w)) refl in
          all z long (answer ∙ sym s.0) (slice ∙ sym s.2)

  same_number : {a : Result ℕ Refusal} → r ≡ a → (count_values r).refusal ≡ (count_values a).refusal
  same_number e = ap (λ (a : Result ℕ Refusal). (count_values a).refusal) e

  -- no test of a table and a word gives 36
  input_number : table_and_word longest_recognized m list w ≡ 36 → ⊥
  unfolding table_and_word
  input_number e = at (well_formed m list) (leb (length w) longest_recognized) (good_letters m.letters w) e
    where
      at : (a b c : Bool) → ◌≡◌ {A = ℕ} (cond a (cond b (cond c 0 8) 9) 16) 36 → ⊥
      at true true true h = omega arith
      at true true false h = omega arith
      at true false c h = omega arith
      at false b c h = omega arith

  -- 1. What is refused, and what a slice keeps

  -- what a success comes with
  record Done (n : ℕ) : Type 0 where
    not_refused : table_and_word longest_recognized m list w ≡ 0
    room : sets_needed w ≤ length before
    count : n ≡ sets_needed w
    written : after ≡ put 0 before (reached_sets m list w)

  done : (n : ℕ) → r ≡ Ok n → Way → Done n
  done n h (bad_input z e s) = absurd (not_both h e)
  done n h (no_room z l e s) = absurd (not_both h e)
  done n h (all z l e s) = record { not_refused = z; room = l; count = ap (λ (a : Result ℕ Refusal). (count_values a).count) (sym h ∙ e); written = s }

  pub written_iff : ((n : ℕ) × (r ≡ Ok n)) ↔ ((table_and_word longest_recognized m list w ≡ 0) × (sets_needed w ≤ length before))
  written_iff = (
    λ s. let d = done s.0 s.1 way in (d.not_refused, d.room),
    λ s. (sets_needed w, answer ∙ sym (cases.written m list w before s.0 (sets_needed w) refl s.1 (put 0 before (reached_sets m list w)) refl).0),
  )

  pub input_refused_iff : (r ≡ Err (refusal (table_and_word longest_recognized m list w))) ↔ (table_and_word longest_recognized m list w ≡ 0 → ⊥)
  unfolding refusal
  input_refused_iff = (λ e z. to z e way, λ n. answer ∙ sym (cases.refused_input m list w before (refusal (table_and_word longest_recognized m list w)) (unless_refused (table_and_word longest_recognized m list w) (Ok tt) n)).0)
    where
      to : table_and_word longest_recognized m list w ≡ 0 → r ≡ Err (refusal (table_and_word longest_recognized m list w)) → Way → ⊥
      to z h (bad_input n e s) = n z
      to z h (no_room y l e s) =
          let x : number_of (refusal (table_and_word longest_recognized m list w)) ≡ 34 = ap (λ (k : ℕ). number_of (refusal k)) z in
          let x' : number_of (refusal (table_and_word longest_recognized m list w)) ≡ 36 = sym (same_number h) ∙ same_number e in
          omega arith
      to z h (all y l e s) = not_both e h

  pub input_refused_number : (table_and_word longest_recognized m list w ≡ 0 → ⊥) → ((count_values r).refusal ≡ table_and_word longest_recognized m list w) × ((count_values r).needed ≡ 0)
  input_refused_number n =
      let e = input_refused_iff.1 n in
      let h = table_numbered longest_recognized m list w in
      (ap (λ (a : Result ℕ Refusal). (count_values a).refusal) e ∙ h.number n, ap (λ (a : Result ℕ Refusal). (count_values a).needed) e ∙ h.needed n)

  pub slice_refused_iff : (r ≡ Err (ShortSets (sets_needed w))) ↔ ((table_and_word longest_recognized m list w ≡ 0) × (length before < sets_needed w))
  slice_refused_iff = (λ e. to (same_number e) way, λ s. answer ∙ sym (cases.refused_slice m list w before s.0 (sets_needed w) refl s.1).0)
    where
      to : (count_values r).refusal ≡ 36 → Way → (table_and_word longest_recognized m list w ≡ 0) × (length before < sets_needed w)
      to h (bad_input n e s) = absurd (input_number (sym ((table_numbered longest_recognized m list w).number n) ∙ (sym (same_number e) ∙ h)))
      to h (no_room z l e s) = (z, l)
      to h (all z l e s) = absurd (let x = same_number e in omega arith)

  pub reach_refused : (f : Refusal) → r ≡ Err f → after ≡ before
  reach_refused f h = at way
    where
      at : Way → after ≡ before
      at (bad_input n e s) = s
      at (no_room z l e s) = s
      at (all z l e s) = absurd (not_both e h)

  -- the sets are written
  module _ (n : ℕ) (says : r ≡ Ok n) where
    all_done : Done n
    all_done = done n says way

    obeys : well_formed m list ≡ true
    obeys = (table_good longest_recognized m list w all_done.not_refused).0

    pub sets_written : (n ≡ sets_needed w) × (drop n after ≡ drop n before) × (length after ≡ length before)
    sets_written = (
      all_done.count,
      ap (drop n) spread
          ∙ (drop_at (reached_sets m list w) (drop (sets_needed w) before) n (sets_length m list w ∙ sym all_done.count) ∙ ap (λ (i : ℕ). drop i before) (sym all_done.count)),
      ap length spread
          ∙ (length-append (reached_sets m list w) (drop (sets_needed w) before)
          ∙ (let a = sets_length m list w in let b = length-drop (sets_needed w) before in omega (arith, all_done.room))),
    )
      where
        spread : after ≡ reached_sets m list w ++ drop (sets_needed w) before
        spread = all_done.written ∙ (put_zero before (reached_sets m list w) ∙ ap (λ (i : ℕ). reached_sets m list w ++ drop i before) (sets_length m list w))

    -- 2. Which states are in the sets

    set_is : (p : ℕ) (t : Mode) → p ≤ length w → get_or after (set_at p t) 0 ≡ reached_set m list w p t
    set_is p t le = ap (λ (l : List ℕ). get_or l (set_at p t) 0) all_done.written ∙ set_at_lem m list w before p t le

    in_set : (p : ℕ) (t : Mode) (q : ℕ) → p ≤ length w → In (get_or after (set_at p t) 0) q ↔ (reaches m list w p t q ≡ true)
    in_set p t q le = subst (λ (x : ℕ). In x q ↔ (reaches m list w p t q ≡ true)) (sym (set_is p t le)) (reached_in m list w obeys p t q)

    pub in_set_iff_run : (p : ℕ) (t : Mode) (q : ℕ) → p ≤ length w → In (get_or after (set_at p t) 0) q ↔ ((run : List ℕ) × (leads m list w p t q run ≡ true))
    in_set_iff_run p t q le = Iff.trans (in_set p t q le) (reaches_iff_run m list w obeys p t q)

    pub in_set_iff_published : (p : ℕ) (t : Mode) (q : ℕ) → p ≤ length w → In (get_or after (set_at p t) 0) q ↔ Reachable (fsbm_of m list) w p t q
    in_set_iff_published p t q le = Iff.trans (in_set p t q le) (reaches_iff_published m list w obeys p t q)

    -- 3. The ground of a yes and of a no

    pub accepted_by_sets : InLanguage (fsbm_of m list) w ↔ ((q : ℕ) × (final m.marks q ≡ true) × In (get_or after (set_at (length w) Normal) 0) q)
    accepted_by_sets =
        Iff.trans (Iff.symm (accepted_iff_published m list w obeys)) (Iff.trans (accepted_iff_final m list w obeys) (
          λ s. (s.0, s.1, (in_set (length w) Normal s.0 (omega arith)).1 s.2),
          λ s. (s.0, s.1, (in_set (length w) Normal s.0 (omega arith)).0 s.2),
        ))

    module _ (d : Result Bool Refusal) (contract : d ≡ decision m list w) where
      pub yes_by_sets : (d ≡ Ok true) ↔ ((q : ℕ) × (final m.marks q ≡ true) × In (get_or after (set_at (length w) Normal) 0) q)
      yes_by_sets = Iff.trans (words.yes_iff_published m list w d contract all_done.not_refused) accepted_by_sets

      pub no_by_sets : (d ≡ Ok false) ↔ ((q : ℕ) → final m.marks q ≡ true → In (get_or after (set_at (length w) Normal) 0) q → ⊥)
      no_by_sets = Iff.trans (words.no_iff_published m list w d contract all_done.not_refused) (
        λ n q f i. n (accepted_by_sets.1 (q, f, i)),
        λ n l. let s = accepted_by_sets.0 l in n s.0 s.1 s.2,
      )

    -- 4. How far runs read

    module _ (p : ℕ) (le : p ≤ length w) (empty : (t : Mode) → get_or after (set_at p t) 0 ≡ 0) where
      none_here : (t : Mode) (q : ℕ) → reaches m list w p t q ≡ false
      none_here t q = at (true_or_false (reaches m list w p t q))
        where
          at : (reaches m list w p t q ≡ true) ⊎ (reaches m list w p t q ≡ false) → reaches m list w p t q ≡ false
          at (inl h) = absurd (empty_in q (subst (λ (x : ℕ). In x q) (empty t) ((in_set p t q le).1 h)))
          at (inr h) = h

      pub empty_after : (p' : ℕ) → p ≤ p' → p' ≤ length w → (t : Mode) → get_or after (set_at p' t) 0 ≡ 0
      empty_after p' ge le' t =
          same_members (get_or after (set_at p' t) 0) 0
          (λ q. (λ h. absurd (false≢true (sym (none_after m list w obeys p p' ge none_here t q) ∙ (in_set p' t q le').0 h)), λ h. absurd (empty_in q h)))

      pub none_past : (p' : ℕ) → p ≤ p' → (t : Mode) (q : ℕ) (run : List ℕ) → leads m list w p' t q run ≡ true → ⊥
      none_past p' ge t q run h = false≢true (sym (none_after m list w obeys p p' ge none_here t q) ∙ (reaches_iff_run m list w obeys p' t q).1 (run, h))
