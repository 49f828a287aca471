-- The laws of specs/Copies.antt.
--
-- kept_total              == the copies with letters have the total of all copies
-- total_same              == their total from the last to the first is that of all copies from the first to the last
-- kept_letters            == each copy that is kept has a letter, so there are no more of them than letters
-- kept_none, none_kept    == none is kept, if and only if all copies are empty
-- kept_iff                == a copy is kept, if and only if it is there and not empty
-- kept_fewer              == fewer are kept, if and only if some copy is empty
-- InFront k n l           == among the first n pairs of numbers of l is the copy k
-- written_iff             == so it is in what is written, if and only if it is one of the copies
-- Leaves r after          == list_copies answers r and leaves after in the slice
-- refused_first, refused_run, refused_room, listed_all == it does so, in its four cases: by 16, 9 or 8; by 14; by 20; or the list
-- held c t                == the letters stored so far for a copy, in buffering mode
-- stored_at e c            == the letters of the copy that entry e completes in c
-- Stores c t n next       == from c in mode t to next: the letters stored are held, or are the n of a copy that is complete
-- move_stores             == so it is with every allowed move
-- stored_total            == the letters that the run stores are the total of the copies listed
-- plain_and_copies        == letters read in normal mode and times_read times that total make the word's length
-- need_fits               == the length that the list needs is at most the word's
use Prim.Native.Nat.{ℕ, zero, suc, ◌+◌, ◌*◌, ◌-◌, ◌≤◌, ◌<◌}
use Rattle.std.proofs.Math.Path.{◌≡◌, refl, ap, subst}
use Rattle.std.proofs.Common.{sym, ◌∙◌, inl, inr}
use Rattle.std.specs.Prelude.{Option, Some, Result, Ok, Err, Bool, ◌&&◌, ◌||◌, ◌↔◌, ◌⊎◌, length, drop, ltb}
use Rattle.std.proofs.Math.Bool.{true, false, cond}
use Rattle.std.proofs.lemmas.Bool.{false≢true}
use mathlib.Core.List.Memᴰ
use mathlib.Core.List.{List, [], ◌∷◌, ◌++◌, Memᴰ}
use native.Mathlib.Omega.{arith}
use Rattle.std.proofs.Math.ListN.{get_or}
use Rattle.std.proofs.Math.Dec.{eqb}
use borrow.Author.Tests.{eqb-true, eqb-false, ne_eqb}
use Rattle.basics.specs.Search.{all_in, any_in}
use Rattle.basics.specs.Search.Laws.{and_true}
use Rattle.basics.specs.Search.Loops.{first, second}
use Rattle.fsbm.specs.Machine.{well_formed, transition_at, initial, buffering, matching}
use Rattle.fsbm.specs.Moves.{after, may_change, changed, move, start_at, is_normal, accepting_from, accepting, begin_buffering, begin_emptying, back_to_normal}
use Rattle.fsbm.specs.declared.machine.Machine.{Machine}
use Rattle.fsbm.specs.declared.machine.Transition.{Transition}
use Rattle.fsbm.specs.declared.config.Config.{Config}
use Rattle.fsbm.specs.declared.config.Mode.{Mode}
use Rattle.fsbm.specs.declared.config.Mode.TheVariants.{Normal, Buffering, Emptying}
use Rattle.fsbm.specs.Rules.{rules, Placed}
use Rattle.fsbm.specs.Moves.Laws.{advanced_by, move_elim, accepts_says}
use Rattle.fsbm.specs.Reaches.{same_mode}
use Rattle.fsbm.specs.Answers.{by_refusal, table_and_word, refusal}
use Rattle.fsbm.specs.Answers.Laws.{input_refused, run_refused, slice_refused, none_refused}
use Rattle.fsbm.specs.declared.answer.Refusal.{Refusal}
use Rattle.copies.specs.Letters.{times_read, letters_from, letters_in, plain_letters, stored_letters}
use Rattle.copies.specs.Letters.Laws.{plain_and_stored}
use Rattle.copies.specs.declared.Copied.{Copied}
use Rattle.fsbm.specs.declared.answer.Refusal.TheVariants.{NotAccepting, ShortCopies}
use Rattle.copies.specs.Copies.{Copy, copied, copy_at, copies_from, copies_of, with_letters, copy_list, is_empty, pairs, total_back, total_forward, longest_copied, copies_need, copies_refusal, copies_answer, copies_after}

-- Totals

kept_total : (ks : List Copy) → total_back (with_letters ks) ≡ total_back ks
unfolding with_letters total_back
kept_total [] = refl
kept_total (k ∷ ks) = at (eqb k.stored 0) refl (kept_total ks)
  where
    at : (b : Bool) → eqb k.stored 0 ≡ b → total_back (with_letters ks) ≡ total_back ks → total_back (cond b (with_letters ks) (k ∷ with_letters ks)) ≡ total_back ks + k.stored
    at true h same = let none = eqb-true k.stored 0 h in omega arith
    at false h same = omega arith

forward_on : (n : ℕ) (ks : List Copy) → total_forward n ks ≡ n + total_back ks
unfolding total_forward total_back
forward_on n [] = omega arith
forward_on n (k ∷ ks) = let on = forward_on (n + k.stored) ks in omega arith

pub total_same : (ks : List Copy) → total_back (with_letters ks) ≡ total_forward 0 ks
total_same ks = let kept = kept_total ks in let on = forward_on 0 ks in omega arith

kept_letters : (ks : List Copy) → length (with_letters ks) ≤ total_back (with_letters ks)
unfolding with_letters total_back
kept_letters [] = omega arith
kept_letters (k ∷ ks) = at (eqb k.stored 0) refl (kept_letters ks)
  where
    at : (b : Bool) → eqb k.stored 0 ≡ b → length (with_letters ks) ≤ total_back (with_letters ks)
        → length (cond b (with_letters ks) (k ∷ with_letters ks)) ≤ total_back (cond b (with_letters ks) (k ∷ with_letters ks))
    at true h few = few
    at false h few = let some : k.stored ≡ 0 → ⊥ = eqb-false k.stored 0 h in omega arith

pub kept_none : (ks : List Copy) → all_in is_empty ks ≡ true → with_letters ks ≡ []
unfolding with_letters all_in
kept_none [] h = refl
kept_none (k ∷ ks) h = let (here, rest) = and_true (is_empty k) (all_in is_empty ks) h in sym (first _ here (sym (kept_none ks rest)))

pub none_kept : (ks : List Copy) → length (with_letters ks) ≡ 0 → all_in is_empty ks ≡ true
unfolding with_letters all_in
none_kept [] h = refl
none_kept (k ∷ ks) h = at (is_empty k) h (none_kept ks)
  where
    at : (b : Bool) → length (cond b (with_letters ks) (k ∷ with_letters ks)) ≡ 0 → (length (with_letters ks) ≡ 0 → all_in is_empty ks ≡ true) → (b && all_in is_empty ks) ≡ true
    at true h rest = rest h
    at false h rest = absurd (omega arith)

module _ (k : Copy) where
  kept_to : (ks : List Copy) → Memᴰ k (with_letters ks) → Memᴰ k ks × (is_empty k ≡ false)
  unfolding with_letters
  kept_to [] z = absurd (Memᴰ.not-nil z)
  kept_to (x ∷ ks) z = at (is_empty x) refl z (kept_to ks)
    where
      at : (b : Bool) → is_empty x ≡ b → Memᴰ k (cond b (with_letters ks) (x ∷ with_letters ks)) → (Memᴰ k (with_letters ks) → Memᴰ k ks × (is_empty k ≡ false))
          → Memᴰ k (x ∷ ks) × (is_empty k ≡ false)
      at true h z rest = let (there, some) = rest z in (Memᴰ.tail there, some)
      at false h z rest = by (Memᴰ.cases_cons z)
        where
          by : (k ≡ x) ⊎ Memᴰ k (with_letters ks) → Memᴰ k (x ∷ ks) × (is_empty k ≡ false)
          by (inl e) = (Memᴰ.head e, ap is_empty e ∙ h)
          by (inr t) = let (there, some) = rest t in (Memᴰ.tail there, some)

  kept_from : (ks : List Copy) → Memᴰ k ks → is_empty k ≡ false → Memᴰ k (with_letters ks)
  unfolding with_letters
  kept_from ks (Memᴰ.head {x = x} {xs = l} d) some =
      subst (λ (r : List Copy). Memᴰ k r) (second _ (sym (ap is_empty d) ∙ some) refl) (Memᴰ.head d)
  kept_from ks (Memᴰ.tail {x = x} {xs = l} z) some = at (is_empty x) (kept_from l z some)
    where
      at : (b : Bool) → Memᴰ k (with_letters l) → Memᴰ k (cond b (with_letters l) (x ∷ with_letters l))
      at true there = there
      at false there = Memᴰ.tail there

  pub kept_iff : (ks : List Copy) → Memᴰ k (with_letters ks) ↔ (Memᴰ k ks × (is_empty k ≡ false))
  kept_iff ks = (kept_to ks, λ z. kept_from ks z.0 z.1)

kept_no_more : (ks : List Copy) → length (with_letters ks) ≤ length ks
unfolding with_letters
kept_no_more [] = omega arith
kept_no_more (k ∷ ks) = at (is_empty k) (kept_no_more ks)
  where
    at : (b : Bool) → length (with_letters ks) ≤ length ks → length (cond b (with_letters ks) (k ∷ with_letters ks)) ≤ suc (length ks)
    at true le = omega arith
    at false le = omega arith

pub kept_fewer : (ks : List Copy) → (length (with_letters ks) < length ks) ↔ (any_in is_empty ks ≡ true)
unfolding with_letters any_in
kept_fewer [] = (λ (lt : 0 < 0). absurd (omega arith), λ h. absurd (false≢true h))
kept_fewer (k ∷ ks) = at (is_empty k) (kept_no_more ks) (kept_fewer ks)
  where
    at : (b : Bool) → length (with_letters ks) ≤ length ks → (length (with_letters ks) < length ks) ↔ (any_in is_empty ks ≡ true)
        → (length (cond b (with_letters ks) (k ∷ with_letters ks)) < suc (length ks)) ↔ ((b || any_in is_empty ks) ≡ true)
    at true le rest = (λ lt. refl, λ h. omega arith)
    at false le rest =
        (λ (lt : suc (length (with_letters ks)) < suc (length ks)). rest.0 (omega arith), λ h. let lt = rest.1 h in omega arith)

module _ (k : Copy) where
  -- among the first n pairs of numbers of l is the copy
  abbrev pub InFront : ℕ → List ℕ → Type 0
  InFront n l = (i : ℕ) × (i < n) × (get_or l (i * 2) 0 ≡ k.start) × (get_or l (i * 2 + 1) 0 ≡ k.stored)

  written_to : (ks : List Copy) (rest : List ℕ) (i : ℕ) → i < length ks → get_or (pairs ks ++ rest) (i * 2) 0 ≡ k.start → get_or (pairs ks ++ rest) (i * 2 + 1) 0 ≡ k.stored → Memᴰ k ks
  unfolding pairs
  written_to [] rest i lt a b = absurd (omega arith)
  written_to (x ∷ ks) rest zero lt a b =
      Memᴰ.head (ap (λ (z : ℕ). record { start = z; stored = k.stored }) (sym a) ∙ ap (λ (z : ℕ). record { start = x.start; stored = z }) (sym b))
  written_to (x ∷ ks) rest (suc i) lt a b =
      let here : suc (suc (i * 2)) ≡ suc i * 2 = omega arith in
      let next : suc (suc (i * 2 + 1)) ≡ suc i * 2 + 1 = omega arith in
      Memᴰ.tail
      (written_to ks rest i (omega arith)
      (ap (λ (j : ℕ). get_or (x.start ∷ x.stored ∷ (pairs ks ++ rest)) j 0) here ∙ a)
      (ap (λ (j : ℕ). get_or (x.start ∷ x.stored ∷ (pairs ks ++ rest)) j 0) next ∙ b))

  written_from : (ks : List Copy) (rest : List ℕ) → Memᴰ k ks → InFront (length ks) (pairs ks ++ rest)
  unfolding pairs
  written_from ks rest (Memᴰ.head {x = x} {xs = l} e) = (0, omega arith, ap (λ (z : Copy). z.start) (sym e), ap (λ (z : Copy). z.stored) (sym e))
  written_from ks rest (Memᴰ.tail {x = x} {xs = l} z) =
      let (i, lt, a, b) = written_from l rest z in
      let here : suc i * 2 ≡ suc (suc (i * 2)) = omega arith in
      let next : suc i * 2 + 1 ≡ suc (suc (i * 2 + 1)) = omega arith in (
        suc i,
        omega arith,
        ap (λ (j : ℕ). get_or (x.start ∷ x.stored ∷ (pairs l ++ rest)) j 0) here ∙ a,
        ap (λ (j : ℕ). get_or (x.start ∷ x.stored ∷ (pairs l ++ rest)) j 0) next ∙ b,
      )

  pub written_iff : (ks : List Copy) (rest : List ℕ) → InFront (length ks) (pairs ks ++ rest) ↔ Memᴰ k ks
  written_iff ks rest = (λ z. let (i, lt, a, b) = z in written_to ks rest i lt a b, written_from ks rest)

-- Answers

module _ (m : Machine) (list w run slice : List ℕ) where
  -- what list_copies answers, and what it leaves in the slice
  abbrev pub Leaves : Result Copied Refusal → List ℕ → Type 0
  Leaves r after = (r ≡ copies_answer m list w run (length slice)) × (after ≡ copies_after m list w run slice)

  refuses : (f : Refusal) → Some f ≡ copies_refusal m list w run (length slice) → Leaves (Err f) slice
  unfolding copies_answer copies_after
  refuses f e = (
    ap (λ (o : Option Refusal). by_refusal {A = Result Copied Refusal} o (Ok (copied (copy_list m list w run))) (λ g. Err g)) e,
    ap (λ (o : Option Refusal). by_refusal o (pairs (copy_list m list w run) ++ drop (copies_need m list w run) slice) (λ g. slice)) e,
  )

  abbrev short : Refusal
  short = ShortCopies (copies_need m list w run)

  pub refused_first : (table_and_word longest_copied m list w ≡ 0 → ⊥) → Leaves (Err (refusal (table_and_word longest_copied m list w))) slice
  unfolding copies_refusal
  refused_first h =
      refuses (refusal (table_and_word longest_copied m list w)) (input_refused (table_and_word longest_copied m list w) (accepting m list w run) short (length slice) h)

  module _ (good : table_and_word longest_copied m list w ≡ 0) where
    pub refused_run : accepting m list w run ≡ false → Leaves (Err NotAccepting) slice
    unfolding copies_refusal
    refused_run h = refuses NotAccepting (run_refused (table_and_word longest_copied m list w) (accepting m list w run) short (length slice) good h)

    module _ (a : accepting m list w run ≡ true) where
      pub refused_room : length slice < length (copy_list m list w run) * 2 → Leaves (Err (ShortCopies (length (copy_list m list w run) * 2))) slice
      unfolding copies_refusal copies_need
      refused_room h = refuses short (slice_refused (table_and_word longest_copied m list w) (accepting m list w run) short (length slice) good a h)

      pub listed_all : length (copy_list m list w run) * 2 ≤ length slice
          → Leaves (Ok (copied (copy_list m list w run))) (pairs (copy_list m list w run) ++ drop (length (copy_list m list w run) * 2) slice)
      unfolding copies_refusal copies_answer copies_after copies_need
      listed_all h =
          let none = none_refused (table_and_word longest_copied m list w) (accepting m list w run) short (length slice) good a h in (
            ap (λ (o : Option Refusal). by_refusal {A = Result Copied Refusal} o (Ok (copied (copy_list m list w run))) (λ g. Err g)) none,
            ap (λ (o : Option Refusal). by_refusal o (pairs (copy_list m list w run) ++ drop (length (copy_list m list w run) * 2) slice) (λ g. slice)) none,
          )

-- The letters that are stored

abbrev held : Config → Mode → ℕ
held c Normal = 0
held c Buffering = c.end - c.start
held c Emptying = 0

abbrev stored_at : ℕ → Config → ℕ
stored_at e c = cond (eqb e begin_emptying) (c.end - c.start) 0

abbrev Stores : Config → Mode → ℕ → Config → Type 0
Stores c t n next = cond (same_mode t Buffering) (next.position - c.position) 0 + held c t ≡ n + held next next.mode

module _ (m : Machine) (list w : List ℕ) where
  after_stores : (c : Config) (tr : Transition) (t : Mode) → Placed m w c t → Stores c t 0 (after c tr t)
  unfolding after
  after_stores c tr Normal p = omega arith
  after_stores c tr Buffering p =
      let by = advanced_by c.position tr.letter in
      let by_end = advanced_by c.end tr.letter in
      omega (arith, p.forward)
  after_stores c tr Emptying p = omega arith

  -- the number of letters that an entry stores, once it is known which entry it is
  stored_is : (c : Config) (e k : ℕ) → eqb e k ≡ true → (t : Mode) (next : Config) → Stores c t (stored_at k c) next → Stores c t (stored_at e c) next
  stored_is c e k h t next b = subst (λ (z : ℕ). Stores c t (stored_at z c) next) (sym (eqb-true e k h)) b

  changed_stores : (c : Config) (e : ℕ) (t : Mode) → may_change m.marks c e t ≡ true → Stores c t (stored_at e c) (changed c t)
  changed_stores c e Normal h =
      stored_is c e begin_buffering (and_true (eqb e begin_buffering) (buffering m.marks c.state && eqb c.start c.end) h).0 Normal (changed c Normal) (omega arith)
  changed_stores c e Buffering h =
      stored_is c e begin_emptying (and_true (eqb e begin_emptying) (matching m.marks c.state) h).0 Buffering (changed c Buffering) (omega arith)
  changed_stores c e Emptying h =
      stored_is c e back_to_normal (and_true (eqb e back_to_normal) (matching m.marks c.state && eqb c.start c.end) h).0 Emptying (changed c Emptying) (omega arith)

  move_stores : well_formed m list ≡ true → (c : Config) (e : ℕ) → (move m list w c e).allowed ≡ true → Stores c c.mode (stored_at e c) (move m list w c e).config
  move_stores good c e =
      move_elim m list w c e (Stores c c.mode (stored_at e c))
      (λ p lt t. listed lt (after c (transition_at list e) c.mode) (after_stores c (transition_at list e) c.mode p))
      (λ p ge h. changed_stores c e c.mode h)
    where
      listed : e < m.transitions → (next : Config) → Stores c c.mode 0 next → Stores c c.mode (stored_at e c) next
      listed lt next b =
          let few = (rules m list good).transitions_fit in
          let other : eqb e begin_emptying ≡ false = ne_eqb e begin_emptying (λ (z : e ≡ begin_emptying). omega arith) in
          subst (λ (t : Bool). Stores c c.mode (cond t (c.end - c.start) 0) next) (sym other) b

  total_step : (c : Config) (e : ℕ) (es : List ℕ) → total_back (copies_from m list w c (e ∷ es)) ≡ stored_at e c + total_back (copies_from m list w (move m list w c e).config es)
  unfolding copies_from total_back
  total_step c e es = at (eqb e begin_emptying)
    where
      at : (b : Bool) → total_back (cond b (copy_at c ∷ copies_from m list w (move m list w c e).config es) (copies_from m list w (move m list w c e).config es))
          ≡ cond b (c.end - c.start) 0 + total_back (copies_from m list w (move m list w c e).config es)
      at true = omega arith
      at false = omega arith

  held_none : (c : Config) (t : Mode) → is_normal t ≡ true → held c t ≡ 0
  held_none c Normal h = refl
  held_none c Buffering h = absurd (false≢true h)
  held_none c Emptying h = refl

  stored_from : well_formed m list ≡ true → (c : Config) (es : List ℕ) → accepting_from m list w c es ≡ true
      → letters_from Buffering m list w c es + held c c.mode ≡ total_back (copies_from m list w c es)
  unfolding accepting_from letters_from
  stored_from good c [] h = unfold copies_from total_back in let none = held_none c c.mode (accepts_says m.marks (length w) c h).0 in omega arith
  stored_from good c (e ∷ es) h =
      let next = (move m list w c e).config in
      let (a, rest) = and_true (move m list w c e).allowed (accepting_from m list w next es) h in
      let here = move_stores good c e a in
      let there = stored_from good next es rest in
      let split = total_step c e es in
      omega arith

  stored_all : (run : List ℕ) → well_formed m list ≡ true → accepting m list w run ≡ true → stored_letters m list w run ≡ total_back (copies_of m list w run)
  unfolding accepting letters_in copies_of
  stored_all [] good h = absurd (false≢true h)
  stored_all (q ∷ es) good h =
      let (lt, r) = and_true (ltb q m.states) (initial m.marks q && accepting_from m list w (start_at q) es) h in
      let (i, a) = and_true (initial m.marks q) (accepting_from m list w (start_at q) es) r in
      let all = stored_from good (start_at q) es a in
      omega arith

  module _ (run : List ℕ) (good : well_formed m list ≡ true) (accepts : accepting m list w run ≡ true) where
    pub stored_total : stored_letters m list w run ≡ total_back (copy_list m list w run)
    stored_total = stored_all run good accepts ∙ sym (kept_total (copies_of m list w run))

    pub plain_and_copies : plain_letters m list w run + times_read * total_back (copy_list m list w run) ≡ length w
    plain_and_copies = ap (λ (t : ℕ). plain_letters m list w run + times_read * t) (sym stored_total) ∙ plain_and_stored m list w run accepts

    pub need_fits : copies_need m list w run ≤ length w
    unfolding copies_need
    need_fits = let few = kept_letters (copies_of m list w run) in let all = plain_and_copies in omega arith
