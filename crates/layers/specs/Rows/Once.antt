-- That what is given of a table is given in one way only, so that a type can keep it: the transitions rise strictly, and so one with given
-- ends and letter has one number.
--
-- listed_once  == Listed holds in one way
-- row_once     == so does Row
-- given_once   == and Given
use Rattle.std.specs.Prelude.{ℕ, zero, suc, ◌+◌, ◌*◌, ◌-◌, ◌≤◌, ◌<◌, ◌≡◌, ◌⊎◌, true, false, List, eqb}
use Rattle.std.proofs.Common.{subst, inl, inr, arith, ltb-true, eqb-true}
use Rattle.std.proofs.Math.Bridge.{le_prop}
use mathlib.Core.HLevel.{is_prop→PathP}
use mathlib.Core.Bool.{Bool-set}
use native.Mathlib.Nat.{ℕ_set}
use native.Mathlib.Decide.{dec_lt}
use Rattle.basics.specs.Search.Laws.{true_or_false}
use Rattle.fsbm.specs.Machine.{precedes, transition_at}
use Rattle.fsbm.specs.Published.{Listed}
use Rattle.fsbm.specs.Rules.{Rules, rules}
use Rattle.fsbm.specs.declared.machine.Machine.{Machine}
use Rattle.fsbm.specs.declared.machine.Transition.{Transition}
use Rattle.targets.specs.Prepared.{Row}
use Rattle.layers.specs.Rows.{Given}

-- a number that is the smaller the earlier a transition comes
abbrev rank : Transition → ℕ
rank t = (t.from * 256 + t.letter) * 256 + t.to

rank_rises : (s t : Transition) → s.letter ≤ 250 → s.to < 64 → precedes s t ≡ true → rank s < rank t
rank_rises s t l o h = at (true_or_false (eqb s.from t.from)) (true_or_false (eqb s.letter t.letter))
  where
    at : (eqb s.from t.from ≡ true) ⊎ (eqb s.from t.from ≡ false) → (eqb s.letter t.letter ≡ true) ⊎ (eqb s.letter t.letter ≡ false) → rank s < rank t
    at (inl e) (inl y) =
        let same = eqb-true s.from t.from e in
        let letter = eqb-true s.letter t.letter y in
        let less = ltb-true s.to t.to (rw (e, y) at h) in
        omega arith
    at (inl e) (inr y) =
        let same = eqb-true s.from t.from e in
        let less = ltb-true s.letter t.letter (rw (e, y) at h) in
        omega arith
    at (inr n) y =
        let less = ltb-true s.from t.from (rw n at h) in
        omega arith

module _ (m : Machine) (list : List ℕ) (r : Rules m list) where
  rises_by : (i d : ℕ) → suc (i + d) < m.transitions → rank (transition_at list i) < rank (transition_at list (suc (i + d)))
  rises_by i zero h =
      let e : i ≡ i + 0 = omega arith in
      subst (λ (k : ℕ). rank (transition_at list i) < rank (transition_at list (suc k))) e (step i (omega arith))
    where
      step : (k : ℕ) → suc k < m.transitions → rank (transition_at list k) < rank (transition_at list (suc k))
      step k l = rank_rises (transition_at list k) (transition_at list (suc k)) (omega (arith, r.letter_below k (omega arith), r.letters_fit)) (omega (arith, r.to_below k (omega arith), r.states_fit)) (r.rises k l)
  rises_by i (suc d) h =
      let e : suc (i + d) ≡ i + suc d = omega arith in
      let k = suc (i + d) in
      let a = rises_by i d (omega arith) in
      let b = rank_rises (transition_at list k) (transition_at list (suc k)) (omega (arith, r.letter_below k (omega arith), r.letters_fit)) (omega (arith, r.to_below k (omega arith), r.states_fit)) (r.rises k (omega arith)) in
      subst (λ (j : ℕ). rank (transition_at list i) < rank (transition_at list (suc j))) e (omega arith)

  rises_to : (i j : ℕ) → i < j → j < m.transitions → rank (transition_at list i) < rank (transition_at list j)
  rises_to i j lt l =
      let e : suc (i + (j - i - 1)) ≡ j = omega arith in
      subst (λ (k : ℕ). rank (transition_at list i) < rank (transition_at list k)) e (rises_by i (j - i - 1) (omega arith))

  one_number : {p x q : ℕ} (δ ε : Listed list m.transitions p x q) → δ.number ≡ ε.number
  one_number δ ε = on (dec_lt δ.number ε.number) (dec_lt ε.number δ.number)
    where
      on : Dec (δ.number < ε.number) → Dec (ε.number < δ.number) → δ.number ≡ ε.number
      on (yes l) b = let z = rises_to δ.number ε.number l ε.listed in absurd (omega (arith, δ.from, δ.letter, δ.to, ε.from, ε.letter, ε.to))
      on (no n) (yes l) = let z = rises_to ε.number δ.number l δ.listed in absurd (omega (arith, δ.from, δ.letter, δ.to, ε.from, ε.letter, ε.to))
      on (no n) (no k) = omega arith

  pub listed_once : (p x q : ℕ) → IsProp (Listed list m.transitions p x q)
  listed_once p x q δ ε =
      let n = one_number δ ε in
      λ i. record {
        number = n i;
        listed = is_prop→PathP (λ j. n j < m.transitions) (λ j. le_prop) δ.listed ε.listed i;
        from = is_prop→PathP (λ j. (transition_at list (n j)).from ≡ p) (λ j. ℕ_set _ _) δ.from ε.from i;
        letter = is_prop→PathP (λ j. (transition_at list (n j)).letter ≡ x) (λ j. ℕ_set _ _) δ.letter ε.letter i;
        to = is_prop→PathP (λ j. (transition_at list (n j)).to ≡ q) (λ j. ℕ_set _ _) δ.to ε.to i;
      }

  pub row_once : (targets : List ℕ) (x : ℕ) → IsProp (Row m list targets x)
  row_once targets x = hlevel (le_prop, ℕ_set, listed_once)

pub given_once : (m : Machine) (list targets : List ℕ) (g h : ℕ) → IsProp (Given m list targets g h)
given_once m list targets g h a b = both (rules m list a.good) a b
  where
    both : Rules m list → IsProp (Given m list targets g h)
    both r = hlevel (row_once m list r targets 0, ℕ_set, Bool-set)
