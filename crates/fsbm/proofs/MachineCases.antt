-- The definitions of specs/Machine.antt case by case, over plain variables: what each way through a function gives.
--
-- transition_past              == a transition past the end of the list
-- all_next                     == the test below k + 1 is the test at k and the test below k
-- larger_of                    == the larger of two numbers by what it is at most
-- fits_to, fits_of             == a mark obeys the rules, if and only if it is at most 11 and the states reach as far as it needs
-- marks_none, marks_next, marks_large, marks_end == a loop through the marks: its start, one mark more, its two ends
-- marked, marked_by            == a machine by its states and marks, which are all that the marks' rules look at
-- named-.., precedes-..        == the tests of one transition, of two
-- rank_of, rank_precedes        == transitions of 16-bit numbers compare as their ranks
-- least_at, least_next          == the least rank that the next transition may have
-- transitions-..               == a loop through the transitions: one that is not named, one that does not rise, one more, its end
use Prim.Native.Nat.{ℕ, max, ◌≤◌, ◌<◌, ◌+◌, ◌*◌, ◌-◌, ◌/◌, ◌%◌}
use mathlib.Core.Path.{◌≡◌, refl, sym, ◌∙◌, ap, subst}
use mathlib.Core.Bool.{Bool, true, false, cond, not, ◌&&◌, ◌||◌}
use mathlib.Core.Logic.{◌⊎◌, inl, inr, ◌↔◌}
use mathlib.Core.List.{List}
use native.Mathlib.Omega.{arith}
use native.Mathlib.Numerals.{add-one}
use native.Mathlib.Decide.{ℕ_discrete}
use lib.ListN.{length, get_or, get_or-eq_default}
use lib.Dec.{ltb, leb, eqb}
use borrow.Author.Tests.{lt-ltb, le-ltb, le-leb, lt-leb, eq-eqb, ne_eqb, ltb-true, ltb-false, leb-true, eqb-true, eqb-false, not-true}
use Rattle.basics.specs.Bools.{same_truth}
use Rattle.basics.specs.Search.{all_below}
use Rattle.basics.specs.Search.Laws.{true_or_false, and_true, and_both_true, and_false, and_false_left, and_false_right, all_below_false}
use Rattle.basics.specs.Search.Loops.{pass, stop}
use Rattle.fsbm.specs.declared.machine.Machine.{Machine}
use Rattle.fsbm.specs.declared.machine.Transition.{Transition}
use Rattle.fsbm.specs.Machine.{transition_at, good_mark, named, precedes, good_transition}
use Rattle.fsbm.specs.Machine.{max_states}

pub transition_past : (list : List ℕ) (k : ℕ) → length list ≤ k → record { from = 0; letter = 0; to = 0 } ≡ transition_at list k
transition_past list k h =
    simp (get_or-eq_default list 0 {n = k * 3} (omega arith), get_or-eq_default list 0 {n = k * 3 + 1} (omega arith), get_or-eq_default list 0 {n = k * 3 + 2} (omega arith))

pub all_next : (p : ℕ → Bool) (k : ℕ) → all_below (k + 1) p ≡ (p k && all_below k p)
unfolding all_below
all_next p k = ap (λ (n : ℕ). all_below n p) (add-one k)

-- Marks

pub larger_of : (r a b : ℕ) → r ≡ max a b → (k : ℕ) → (r ≤ k) ↔ ((a ≤ k) × (b ≤ k))
larger_of r a b e k = (λ h. (omega arith, omega arith), λ h. omega (arith, h.0, h.1))

-- state q may have the mark v
abbrev mark_fits : ℕ → ℕ → ℕ → Bool
mark_fits states q v = cond (ltb q states) (leb v 15 && not (eqb (v / 4 % 2) 1 && eqb (v / 8 % 2) 1)) (eqb v 0)

-- a mark obeys the rules, if and only if it is at most 11, and 0 where the states do not reach so far
module _ (states q v w : ℕ) (w-is : w ≡ cond (eqb v 0) 0 (q + 1)) where
  fits_to : mark_fits states q v ≡ true → (v ≤ 11) × (w ≤ states)
  fits_to e = at (true_or_false (ltb q states)) (ℕ_discrete v 0)
    where
      at : (ltb q states ≡ true) ⊎ (ltb q states ≡ false) → Dec (v ≡ 0) → (v ≤ 11) × (w ≤ states)
      at b (yes z) = let x : w ≡ 0 = w-is ∙ ap (λ (t : Bool). cond t 0 (q + 1)) (eq-eqb v 0 z) in (omega arith, omega arith)
      at (inl l) (no d) =
          let h : q < states = ltb-true q states l in
          let f : (leb v 15 && not (eqb (v / 4 % 2) 1 && eqb (v / 8 % 2) 1)) ≡ true = ap (λ (t : Bool). cond t (leb v 15 && not (eqb (v / 4 % 2) 1 && eqb (v / 8 % 2) 1)) (eqb v 0)) (sym l) ∙ e in
          let p = and_true (leb v 15) (not (eqb (v / 4 % 2) 1 && eqb (v / 8 % 2) 1)) f in
          let x : w ≡ q + 1 = w-is ∙ ap (λ (t : Bool). cond t 0 (q + 1)) (ne_eqb v 0 d) in
          (flags (leb-true v 15 p.0) (and_false (eqb (v / 4 % 2) 1) (eqb (v / 8 % 2) 1) (not-true _ p.1)), omega arith)
        where
          flags : v ≤ 15 → (eqb (v / 4 % 2) 1 ≡ false) ⊎ (eqb (v / 8 % 2) 1 ≡ false) → v ≤ 11
          flags h (inl z) = let n : v / 4 % 2 ≡ 1 → ⊥ = eqb-false _ _ z in omega arith
          flags h (inr z) = let n : v / 8 % 2 ≡ 1 → ⊥ = eqb-false _ _ z in omega arith
      at (inr l) (no d) = absurd (d (eqb-true v 0 (ap (λ (t : Bool). cond t (leb v 15 && not (eqb (v / 4 % 2) 1 && eqb (v / 8 % 2) 1)) (eqb v 0)) (sym l) ∙ e)))

  fits_of : v ≤ 11 → w ≤ states → mark_fits states q v ≡ true
  fits_of h r = at (true_or_false (ltb q states)) (ℕ_discrete v 0)
    where
      at : (ltb q states ≡ true) ⊎ (ltb q states ≡ false) → Dec (v ≡ 0) → mark_fits states q v ≡ true
      at (inl l) z =
          ap (λ (t : Bool). cond t (leb v 15 && not (eqb (v / 4 % 2) 1 && eqb (v / 8 % 2) 1)) (eqb v 0)) l
          ∙ and_both_true (leb v 15) (not (eqb (v / 4 % 2) 1 && eqb (v / 8 % 2) 1)) (le-leb v 15 (omega arith)) (ap (λ (t : Bool). not t) (flags (true_or_false (eqb (v / 8 % 2) 1))))
        where
          flags : (eqb (v / 8 % 2) 1 ≡ true) ⊎ (eqb (v / 8 % 2) 1 ≡ false) → (eqb (v / 4 % 2) 1 && eqb (v / 8 % 2) 1) ≡ false
          flags (inl y) = let m : v / 8 % 2 ≡ 1 = eqb-true _ _ y in and_false_left _ _ (ne_eqb (v / 4 % 2) 1 (λ (b : v / 4 % 2 ≡ 1). omega arith))
          flags (inr n) = and_false_right (eqb (v / 4 % 2) 1) _ n
      at (inr l) (yes z) = ap (λ (t : Bool). cond t (leb v 15 && not (eqb (v / 4 % 2) 1 && eqb (v / 8 % 2) 1)) (eqb v 0)) l ∙ eq-eqb v 0 z
      at (inr l) (no d) =
          let g : states ≤ q = ltb-false q states l in
          let x : w ≡ q + 1 = w-is ∙ ap (λ (t : Bool). cond t 0 (q + 1)) (ne_eqb v 0 d) in
          absurd (omega arith)

-- one mark more: the largest mark and the number of states needed go on
module _ (m : Machine) (q v w l l' n n' : ℕ) (inside : q < 64) (v_is : v ≡ get_or m.marks q 0) (w-is : w ≡ cond (eqb v 0) 0 (q + 1))
    (larger : (k : ℕ) → (l' ≤ k) ↔ ((l ≤ k) × (v ≤ k))) (more : (k : ℕ) → (n' ≤ k) ↔ ((n ≤ k) × (w ≤ k))) where
  mark_is : mark_fits m.states q v ≡ good_mark m q
  mark_is =
      ap (λ (x : ℕ). mark_fits m.states q x) v_is
      ∙ ap (λ (t : Bool). mark_fits m.states q (cond t (get_or m.marks q 0) 0)) (sym (lt-ltb q 64 inside))

  marks_step : (leb l' 11 && leb n' m.states) ≡ (mark_fits m.states q v && (leb l 11 && leb n m.states))
  marks_step = same_truth _ _ to from
    where
      to : (leb l' 11 && leb n' m.states) ≡ true → (mark_fits m.states q v && (leb l 11 && leb n m.states)) ≡ true
      to e =
          let p = and_true (leb l' 11) (leb n' m.states) e in
          let a = (larger 11).0 (leb-true l' 11 p.0) in
          let b = (more m.states).0 (leb-true n' m.states p.1) in
          and_both_true (mark_fits m.states q v) (leb l 11 && leb n m.states) (fits_of m.states q v w w-is a.1 b.1)
          (and_both_true (leb l 11) (leb n m.states) (le-leb l 11 a.0) (le-leb n m.states b.0))

      from : (mark_fits m.states q v && (leb l 11 && leb n m.states)) ≡ true → (leb l' 11 && leb n' m.states) ≡ true
      from e =
          let p = and_true (mark_fits m.states q v) (leb l 11 && leb n m.states) e in
          let r = and_true (leb l 11) (leb n m.states) p.1 in
          let f = fits_to m.states q v w w-is p.0 in
          and_both_true (leb l' 11) (leb n' m.states) (le-leb l' 11 ((larger 11).1 (leb-true l 11 r.0, f.0)))
          (le-leb n' m.states ((more m.states).1 (leb-true n m.states r.1, f.1)))

  pub marks_next : (leb l 11 && leb n m.states) ≡ all_below q (good_mark m) → (leb l' 11 && leb n' m.states) ≡ all_below (q + 1) (good_mark m)
  marks_next so_far =
      marks_step
      ∙ (ap (λ (t : Bool). t && (leb l 11 && leb n m.states)) mark_is
      ∙ (ap (λ (t : Bool). good_mark m q && t) so_far ∙ sym (all_next (good_mark m) q)))

pub marks_none : (m : Machine) → (leb 0 11 && leb 0 m.states) ≡ all_below 0 (good_mark m)
unfolding all_below
marks_none m = le-leb 0 m.states (omega arith)

-- all marks: a largest mark that is too large, and one that is not
module _ (m : Machine) (q l n : ℕ) (so_far : (leb l 11 && leb n m.states) ≡ all_below q (good_mark m)) (all : q ≡ 64) where
  pub marks_large : 11 < l → false ≡ all_below max_states (good_mark m)
  marks_large h = stop (leb n m.states) (lt-leb l 11 h) ∙ (so_far ∙ ap (λ (k : ℕ). all_below k (good_mark m)) all)

  pub marks_end : l ≤ 11 → leb n m.states ≡ all_below max_states (good_mark m)
  marks_end h = pass (le-leb l 11 h) refl ∙ (so_far ∙ ap (λ (k : ℕ). all_below k (good_mark m)) all)

pub states_few : (q v w : ℕ) → q < 64 → w ≡ cond (eqb v 0) 0 (q + 1) → w ≤ 64
states_few q v w h e = at (true_or_false (eqb v 0))
  where
    at : (eqb v 0 ≡ true) ⊎ (eqb v 0 ≡ false) → w ≤ 64
    at (inl z) = let x : w ≡ 0 = e ∙ ap (λ (t : Bool). cond t 0 (q + 1)) z in omega arith
    at (inr z) = let x : w ≡ q + 1 = e ∙ ap (λ (t : Bool). cond t 0 (q + 1)) z in omega arith

-- only the states and the marks count
abbrev pub marked : ℕ → List ℕ → Machine
marked states marks = record { states = states; letters = 0; transitions = 0; marks = marks }

pub marked_by : (m : Machine) (states : ℕ) (marks : List ℕ) → m.states ≡ states → m.marks ≡ marks → all_below max_states (good_mark (marked states marks)) ≡ all_below max_states (good_mark m)
marked_by m states marks e f = λ i. all_below max_states (good_mark (marked (sym e i) (sym f i)))

-- Transitions

module _ (states letters : ℕ) (t : Transition) where
  pub named_from : states ≤ t.from → false ≡ named states letters t
  named_from h = simp (le-ltb _ _ h)

  pub named_letter : t.from < states → letters < t.letter → false ≡ named states letters t
  named_letter h l = simp (lt-ltb _ _ h, lt-leb _ _ l)

  pub named_to : t.from < states → t.letter ≤ letters → ltb t.to states ≡ named states letters t
  named_to h l = simp (lt-ltb _ _ h, le-leb _ _ l)

module _ (s t : Transition) where
  pub precedes_from : (s.from ≡ t.from → ⊥) → ltb s.from t.from ≡ precedes s t
  precedes_from h = simp (ne_eqb _ _ h)

  pub precedes_letter : s.from ≡ t.from → (s.letter ≡ t.letter → ⊥) → ltb s.letter t.letter ≡ precedes s t
  precedes_letter e h = simp (eq-eqb _ _ e, ne_eqb _ _ h)

  pub precedes_to : s.from ≡ t.from → s.letter ≡ t.letter → ltb s.to t.to ≡ precedes s t
  precedes_to e h = simp (eq-eqb _ _ e, eq-eqb _ _ h)

-- the rank of a transition of 16-bit numbers
abbrev pub rank_of : Transition → ℕ
rank_of t = (t.from * 65536 + t.letter) * 65536 + t.to

abbrev pub Short : Transition → Type 0
Short t = (t.from < 65536) × (t.letter < 65536) × (t.to < 65536)

same_order : (a b c d : ℕ) → (a < b → c < d) → (c < d → a < b) → ltb a b ≡ ltb c d
same_order a b c d to from = same_truth _ _ (λ e. lt-ltb c d (to (ltb-true a b e))) (λ e. lt-ltb a b (from (ltb-true c d e)))

rank_precedes : (s t : Transition) → Short s → Short t → ltb (rank_of s) (rank_of t) ≡ precedes s t
rank_precedes s t x y = at (ℕ_discrete s.from t.from) (ℕ_discrete s.letter t.letter)
  where
    a : s.letter < 65536
    a = x.1

    b : s.to < 65536
    b = x.2

    d : t.letter < 65536
    d = y.1

    e : t.to < 65536
    e = y.2

    at : Dec (s.from ≡ t.from) → Dec (s.letter ≡ t.letter) → ltb (rank_of s) (rank_of t) ≡ precedes s t
    at (no f) l = same_order _ _ _ _ (λ (h : rank_of s < rank_of t). omega (arith, f, a, b, d, e)) (λ (h : s.from < t.from). omega (arith, a, b, d, e)) ∙ precedes_from s t f
    at (yes f) (no l) = same_order _ _ _ _ (λ (h : rank_of s < rank_of t). omega (arith, f, l, a, b, d, e)) (λ (h : s.letter < t.letter). omega (arith, f, a, b, d, e)) ∙ precedes_letter s t f l
    at (yes f) (yes l) = same_order _ _ _ _ (λ (h : rank_of s < rank_of t). omega (arith, f, l)) (λ (h : s.to < t.to). omega (arith, f, l)) ∙ precedes_to s t f l

-- the least rank that transition number k may have
abbrev pub least_at : List ℕ → ℕ → ℕ
least_at list k = cond (eqb k 0) 0 (rank_of (transition_at list (k - 1)) + 1)

pub least_next : (list : List ℕ) (k : ℕ) (t : Transition) → t ≡ transition_at list k → rank_of t + 1 ≡ least_at list (k + 1)
least_next list k t e =
    let q : k ≡ k + 1 - 1 = omega arith in
    ap (λ (x : Transition). rank_of x + 1) (e ∙ ap (λ (j : ℕ). transition_at list j) q)
    ∙ ap (λ (b : Bool). cond b 0 (rank_of (transition_at list (k + 1 - 1)) + 1)) (sym (ne_eqb (k + 1) 0 (λ (z : k + 1 ≡ 0). omega arith)))

module _ (states letters : ℕ) (list : List ℕ) (k least : ℕ) (t : Transition) (at_k : t ≡ transition_at list k) (least-is : least ≡ least_at list k)
    (fits : (i : ℕ) → get_or list i 0 < 65536) (b : Bool) (b-named : b ≡ named states letters t) where
  short : (j : ℕ) → Short (transition_at list j)
  short j = (fits (j * 3), fits (j * 3 + 1), fits (j * 3 + 2))

  pub rank_small : rank_of t < 281474976710656
  rank_small =
      let h : Short (transition_at list k) = short k in
      let a : t.from < 65536 = subst (λ (x : Transition). x.from < 65536) (sym at_k) h.0 in
      let d : t.letter < 65536 = subst (λ (x : Transition). x.letter < 65536) (sym at_k) h.1 in
      let e : t.to < 65536 = subst (λ (x : Transition). x.to < 65536) (sym at_k) h.2 in
      omega arith

  rises_is : leb least (rank_of t) ≡ (eqb k 0 || precedes (transition_at list (k - 1)) t)
  rises_is = at (ℕ_discrete k 0)
    where
      at : Dec (k ≡ 0) → leb least (rank_of t) ≡ (eqb k 0 || precedes (transition_at list (k - 1)) t)
      at (yes z) =
          let l : least ≡ 0 = least-is ∙ ap (λ (x : Bool). cond x 0 (rank_of (transition_at list (k - 1)) + 1)) (eq-eqb k 0 z) in
          le-leb least (rank_of t) (omega arith) ∙ ap (λ (x : Bool). x || precedes (transition_at list (k - 1)) t) (sym (eq-eqb k 0 z))
      at (no n) =
          let l : least ≡ rank_of (transition_at list (k - 1)) + 1 = least-is ∙ ap (λ (x : Bool). cond x 0 (rank_of (transition_at list (k - 1)) + 1)) (ne_eqb k 0 n) in
          same_truth _ _ (λ h. lt-ltb _ _ (below l (leb-true _ _ h))) (λ h. le-leb _ _ (above l (ltb-true _ _ h)))
          ∙ (rank_precedes (transition_at list (k - 1)) t (short (k - 1)) (subst Short (sym at_k) (short k))
          ∙ ap (λ (x : Bool). x || precedes (transition_at list (k - 1)) t) (sym (ne_eqb k 0 n)))
        where
          below : least ≡ rank_of (transition_at list (k - 1)) + 1 → least ≤ rank_of t → rank_of (transition_at list (k - 1)) < rank_of t
          below l h = omega arith

          above : least ≡ rank_of (transition_at list (k - 1)) + 1 → rank_of (transition_at list (k - 1)) < rank_of t → least ≤ rank_of t
          above l h = omega arith

  good_is : (b && leb least (rank_of t)) ≡ good_transition states letters list k
  good_is =
      ap (λ (z : Bool). z && leb least (rank_of t)) b-named
      ∙ (ap (λ (z : Bool). named states letters t && z) rises_is
      ∙ ap (λ (x : Transition). named states letters x && (eqb k 0 || precedes (transition_at list (k - 1)) x)) at_k)

  module _ (n : ℕ) (inside : k < n) where
    fails : good_transition states letters list k ≡ false → false ≡ all_below n (good_transition states letters list)
    fails e = sym ((all_below_false (good_transition states letters list) n).1 (k, inside, e))

    pub transitions_unnamed : b ≡ false → false ≡ all_below n (good_transition states letters list)
    transitions_unnamed h = fails (sym good_is ∙ and_false_left b (leb least (rank_of t)) h)

    pub transitions_fall : rank_of t < least → false ≡ all_below n (good_transition states letters list)
    transitions_fall h = fails (sym good_is ∙ and_false_right b (leb least (rank_of t)) (lt-leb _ _ h))

  pub transitions_next : b ≡ true → least ≤ rank_of t → all_below k (good_transition states letters list) ≡ true → all_below (k + 1) (good_transition states letters list) ≡ true
  transitions_next h l so_far =
      all_next (good_transition states letters list) k
      ∙ and_both_true (good_transition states letters list k) _ (sym good_is ∙ and_both_true b (leb least (rank_of t)) h (le-leb _ _ l)) so_far

pub transitions_none : (p : ℕ → Bool) → all_below 0 p ≡ true
unfolding all_below
transitions_none p = refl

pub transitions_done : (p : ℕ → Bool) (k n : ℕ) → all_below k p ≡ true → k ≡ n → true ≡ all_below n p
transitions_done p k n h e = sym h ∙ ap (λ (j : ℕ). all_below j p) e
