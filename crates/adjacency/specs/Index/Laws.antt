-- What the rise of the list gives, and how an index is built.
--
-- from_rises        == a later transition leaves no lower state
-- letter_rises      == a later transition of the same state has no lower letter
-- Built              == the part of an index that a loop has built; built_start, built_turn, built_index: it begins, one turn, it ends
use Rattle.std.specs.Prelude.{ℕ, zero, suc, ◌+◌, ◌*◌, ◌-◌, ◌≤◌, ◌<◌, ◌≡◌, refl, ◌↔◌, ◌⊎◌, true, false, List, length, get_or, set, replicate, eqb}
use Rattle.std.proofs.Common.{ap, ◌∙◌, subst, inl, inr, arith, length-set, get_or-set_other, ltb-true, eqb-true}
use Rattle.std.proofs.Math.Decide.{dec_lt}
use Rattle.basics.specs.Lists.Laws.{set_next, zeros_at}
use Rattle.basics.specs.Search.Laws.{true_or_false}
use Rattle.fsbm.specs.Machine.{precedes, transition_at}
use Rattle.fsbm.specs.Rules.{Rules}
use Rattle.fsbm.specs.declared.machine.Machine.{Machine}
use Rattle.fsbm.specs.declared.machine.Transition.{Transition}
use Rattle.adjacency.specs.Index.{column, Sought, Index}

-- The rise

precedes_says : (s t : Transition) → precedes s t ≡ true → (s.from ≤ t.from) × (s.from ≡ t.from → s.letter ≤ t.letter)
precedes_says s t h = at (true_or_false (eqb s.from t.from)) (true_or_false (eqb s.letter t.letter))
  where
    at : (eqb s.from t.from ≡ true) ⊎ (eqb s.from t.from ≡ false) → (eqb s.letter t.letter ≡ true) ⊎ (eqb s.letter t.letter ≡ false)
        → (s.from ≤ t.from) × (s.from ≡ t.from → s.letter ≤ t.letter)
    at (inl e) (inl l) =
        let same = eqb-true s.from t.from e in
        let letter = eqb-true s.letter t.letter l in
        (omega arith, λ z. omega arith)
    at (inl e) (inr l) =
        let same = eqb-true s.from t.from e in
        let less = ltb-true s.letter t.letter (rw (e, l) at h) in
        (omega arith, λ z. omega arith)
    at (inr n) l =
        let less = ltb-true s.from t.from (rw n at h) in
        (omega arith, λ (z : s.from ≡ t.from). absurd (omega arith))

-- the index of the states below q, where the transitions below k are those that leave a state below q
pub record Built (m : Machine) (list first : List ℕ) (k q : ℕ) : Type 0 where
  pub size : length first ≡ 65
  pub at_most : k ≤ m.transitions
  pub bound : q ≤ m.states + 1
  pub passed : (t : ℕ) → t < k → (transition_at list t).from < q
  pub within : (p : ℕ) → p < q → get_or first p 0 ≤ m.transitions
  pub below : (p t : ℕ) → p < q → t < m.transitions → (t < get_or first p 0) ↔ ((transition_at list t).from < p)
  pub past : (p : ℕ) → q ≤ p → get_or first p 0 ≡ 0

module _ (m : Machine) (list : List ℕ) (s : Rules m list) where
  rises_by : (i d : ℕ) → i + d < m.transitions
      → ((transition_at list i).from ≤ (transition_at list (i + d)).from) × ((transition_at list i).from ≡ (transition_at list (i + d)).from → (transition_at list i).letter ≤ (transition_at list (i + d)).letter)
  rises_by i zero h =
      let e : i ≡ i + 0 = omega arith in
      subst (λ (k : ℕ). ((transition_at list i).from ≤ (transition_at list k).from) × ((transition_at list i).from ≡ (transition_at list k).from → (transition_at list i).letter ≤ (transition_at list k).letter)) e (omega arith, λ z. omega arith)
  rises_by i (suc d) h =
      let (from, letter) = rises_by i d (omega arith) in
      let (more, next) = precedes_says (transition_at list (i + d)) (transition_at list (suc (i + d))) (s.rises (i + d) (omega arith)) in
      let e : suc (i + d) ≡ i + suc d = omega arith in
      subst (λ (k : ℕ). ((transition_at list i).from ≤ (transition_at list k).from) × ((transition_at list i).from ≡ (transition_at list k).from → (transition_at list i).letter ≤ (transition_at list k).letter)) e
      (omega arith, λ (z : (transition_at list i).from ≡ (transition_at list (suc (i + d))).from). let a = letter (omega arith) in let b = next (omega arith) in omega arith)

  rises_to : (i j : ℕ) → i ≤ j → j < m.transitions
      → ((transition_at list i).from ≤ (transition_at list j).from) × ((transition_at list i).from ≡ (transition_at list j).from → (transition_at list i).letter ≤ (transition_at list j).letter)
  rises_to i j le lt =
      let e : i + (j - i) ≡ j = omega arith in
      subst (λ (k : ℕ). ((transition_at list i).from ≤ (transition_at list k).from) × ((transition_at list i).from ≡ (transition_at list k).from → (transition_at list i).letter ≤ (transition_at list k).letter)) e
      (rises_by i (j - i) (omega arith))

  pub from_rises : (i j : ℕ) → i ≤ j → j < m.transitions → (transition_at list i).from ≤ (transition_at list j).from
  from_rises i j le lt = (rises_to i j le lt).0

  pub letter_rises : (i j : ℕ) → i ≤ j → j < m.transitions → (transition_at list i).from ≡ (transition_at list j).from → (transition_at list i).letter ≤ (transition_at list j).letter
  letter_rises i j le lt same = (rises_to i j le lt).1 same

  -- Building it

  pub built_start : Built m list (replicate 65 0) 0 0
  built_start =
      record {
        size = refl;
        at_most = omega arith;
        bound = omega arith;
        passed = λ t (lt : t < 0). absurd (omega arith);
        within = λ p (lt : p < 0). absurd (omega arith);
        below = λ p t (lt : p < 0) z. absurd (omega arith);
        past = λ p le. zeros_at 65 p;
      }

  from_column : (k : ℕ) → column list 0 k ≡ (transition_at list k).from
  from_column k = ap (λ (n : ℕ). get_or list n 0) (let e : k * 3 + 0 ≡ k * 3 = omega arith in e)

  pub built_turn : (first : List ℕ) (k q r : ℕ) → Built m list first k q → q ≤ m.states → Sought list 0 k m.transitions q r → Built m list (set first q r) r (q + 1)
  built_turn first k q r b le found =
      record {
        size = length-set first q r ∙ b.size;
        at_most = found.within;
        bound = omega arith;
        passed = λ (t : ℕ) (lt : t < r). let z = passes t lt in omega arith;
        within = set_next first q r 0 room (λ p x. x ≤ m.transitions) found.within b.within;
        below = λ p t lt l.
            set_next first q r 0 room (λ p x. (t < x) ↔ ((transition_at list t).from < p)) (passes t, λ h. inside t l h (dec_lt t r)) (λ p lt. b.below p t lt l) p lt;
        past = λ (p : ℕ) (le : q + 1 ≤ p). get_or-set_other first q p r 0 (λ (e : p ≡ q). absurd (omega arith)) ∙ b.past p (omega arith);
      }
    where
      room : q < length first
      room = let z = b.size in let f = s.states_fit in omega arith

      passes : (t : ℕ) → t < r → (transition_at list t).from < q
      passes t lt = at (dec_lt t k)
        where
          at : Dec (t < k) → (transition_at list t).from < q
          at (yes l) = b.passed t l
          at (no n) = let z = found.before t (omega arith) lt in let c = from_column t in omega arith

      stops : (t : ℕ) → r ≤ t → t < m.transitions → q ≤ (transition_at list t).from
      stops t ge lt = let z = found.found (omega arith) in let c = from_column r in let u = from_rises r t ge lt in omega arith

      inside : (t : ℕ) → t < m.transitions → (transition_at list t).from < q → Dec (t < r) → t < r
      inside t l h (yes y) = y
      inside t l h (no n) = let z = stops t (omega arith) l in absurd (omega arith)

  pub built_index : (first : List ℕ) (k q : ℕ) → Built m list first k q → m.states < q → Index m list first
  built_index first k q b lt =
      record {
        size = b.size;
        within = λ p le. b.within p (omega arith);
        below = λ p t le l. b.below p t (omega arith) l;
        past = λ p le. b.past p (omega arith);
      }
