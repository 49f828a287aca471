-- The rise of a table's list, what the absence of refusals says, part by part, and the parts of a state of the product.
--
-- order t                 == transition t by from, letter and to, as one number
-- rising                  == where a table obeys the rules, this number rises along its list
-- Joinable ..             == what the laws use of join_fault ≡ 0
-- joinable                == join_fault ≡ 0 says it
-- first_below, second_below == the parts of a state of the product are states of the two machines
use Prim.Native.Nat.{ℕ, zero, suc, ◌+◌, ◌*◌, ◌/◌, ◌%◌, ◌≤◌, ◌<◌}
use Rattle.std.proofs.Math.Path.{◌≡◌}
use Rattle.std.specs.Prelude.{Bool, true, false, not, List, leb, ltb, eqb}
use Rattle.std.proofs.Common.{arith, mod-lt, div-lt_iff_lt-mul, leb-true, ltb-true, eqb-true}
use Rattle.std.proofs.Math.Decide.{ℕ_discrete}
use Rattle.std.proofs.lemmas.Bool.{eqb-false, not-true}
use Rattle.basics.specs.Search.{all_below}
use Rattle.basics.specs.Search.Laws.{and_true, all_below_true}
use Rattle.fsbm.specs.Machine.{max_states, max_transitions, buffering, matching, transition_at, precedes, well_formed}
use Rattle.fsbm.specs.Rules.{Rules, rules}
use Rattle.fsbm.specs.declared.machine.Machine.{Machine}
use Rattle.fsbm.specs.declared.machine.Transition.{Transition}
use Rattle.basics.specs.Bools.{cond_elim}
use Rattle.product.specs.Product.{plain_state, plain_transition, plain, joined_count, join_fault}

abbrev pub order : Transition → ℕ
order t = (t.from * 256 + t.letter) * 64 + t.to

-- Rise

precedes_order : (s t : Transition) → s.letter < 256 → s.to < 64 → precedes s t ≡ true → order s < order t
precedes_order s t ls ts =
    cond_elim Rises (eqb s.from t.from) _ (ltb s.from t.from)
    (λ e. cond_elim Rises (eqb s.letter t.letter) (ltb s.to t.to) (ltb s.letter t.letter)
    (λ f h. let a = eqb-true s.from t.from e in let b = eqb-true s.letter t.letter f in let l = ltb-true s.to t.to h in omega arith)
    (λ f h. let a = eqb-true s.from t.from e in let l = ltb-true s.letter t.letter h in omega arith))
    (λ e h. let l = ltb-true s.from t.from h in omega arith)
  where
    Rises : Bool → Type 0
    Rises b = b ≡ true → order s < order t

module _ (m : Machine) (list : List ℕ) (r : Rules m list) where
  next : (k : ℕ) → suc k < m.transitions → order (transition_at list k) < order (transition_at list (suc k))
  next k lt =
      precedes_order (transition_at list k) (transition_at list (suc k)) (omega (arith, r.letters_fit, r.letter_below k (omega arith))) (omega (arith, r.states_fit, r.to_below k (omega arith)))
      (r.rises k lt)

  pub rising : (i k : ℕ) → i < k → k < m.transitions → order (transition_at list i) < order (transition_at list k)
  rising i zero h lt = absurd (omega arith)
  rising i (suc k) h lt = at (ℕ_discrete i k) (rising i k) (next k lt)
    where
      at : Dec (i ≡ k) → (i < k → k < m.transitions → order (transition_at list i) < order (transition_at list k))
          → order (transition_at list k) < order (transition_at list (suc k)) → order (transition_at list i) < order (transition_at list (suc k))
      at (yes e) before on = rw e on
      at (no d) before on = let b = before (omega arith) (omega arith) in omega arith

-- No refusal

pub record Joinable (m₁ : Machine) (l₁ : List ℕ) (m₂ : Machine) (l₂ : List ℕ) : Type 0 where
  pub good₁ : well_formed m₁ l₁ ≡ true
  pub good₂ : well_formed m₂ l₂ ≡ true
  pub first : Rules m₁ l₁
  pub second : Rules m₂ l₂
  pub not_buffering : (q : ℕ) → q < m₂.states → buffering m₂.marks q ≡ false
  pub not_matching : (q : ℕ) → q < m₂.states → matching m₂.marks q ≡ false
  pub not_epsilon : (k : ℕ) → k < m₂.transitions → (transition_at l₂ k).letter ≡ 0 → ⊥
  pub same_letters : m₁.letters ≡ m₂.letters
  pub few_states : m₁.states * m₂.states ≤ 64
  pub few_transitions : joined_count m₁ l₁ m₂ l₂ ≤ 4000

module _ (m₁ : Machine) (l₁ : List ℕ) (m₂ : Machine) (l₂ : List ℕ) where
  plain_says : plain m₂ l₂ ≡ true → ((q : ℕ) → q < m₂.states → plain_state m₂.marks q ≡ true) × ((k : ℕ) → k < m₂.transitions → plain_transition l₂ k ≡ true)
  unfolding plain
  plain_says h =
      let (states, moves) = and_true (all_below m₂.states (plain_state m₂.marks)) (all_below m₂.transitions (plain_transition l₂)) h in
      ((all_below_true (plain_state m₂.marks) m₂.states).0 states, (all_below_true (plain_transition l₂) m₂.transitions).0 moves)

  pub joinable : join_fault m₁ l₁ m₂ l₂ ≡ 0 → Joinable m₁ l₁ m₂ l₂
  unfolding join_fault
  joinable =
      cond_elim Fine (well_formed m₁ l₁) _ 16
      (λ a. cond_elim Fine (well_formed m₂ l₂) _ 16
      (λ b. cond_elim Fine (plain m₂ l₂) _ 10
      (λ c. cond_elim Fine (eqb m₁.letters m₂.letters) _ 11
      (λ d. cond_elim Fine (leb (m₁.states * m₂.states) max_states) _ 12
      (λ e. cond_elim Fine (leb (joined_count m₁ l₁ m₂ l₂) max_transitions) 0 13
      (λ f z. fine a b c (eqb-true m₁.letters m₂.letters d) (leb-true (m₁.states * m₂.states) max_states e) (leb-true (joined_count m₁ l₁ m₂ l₂) max_transitions f))
      (λ f (z : ◌≡◌ {A = ℕ} 13 0). absurd (omega arith)))
      (λ f (z : ◌≡◌ {A = ℕ} 12 0). absurd (omega arith)))
      (λ f (z : ◌≡◌ {A = ℕ} 11 0). absurd (omega arith)))
      (λ f (z : ◌≡◌ {A = ℕ} 10 0). absurd (omega arith)))
      (λ f (z : ◌≡◌ {A = ℕ} 16 0). absurd (omega arith)))
      (λ f (z : ◌≡◌ {A = ℕ} 16 0). absurd (omega arith))
    where
      Fine : ℕ → Type 0
      Fine z = z ≡ 0 → Joinable m₁ l₁ m₂ l₂

      fine : well_formed m₁ l₁ ≡ true → well_formed m₂ l₂ ≡ true → plain m₂ l₂ ≡ true → m₁.letters ≡ m₂.letters → m₁.states * m₂.states ≤ 64 → joined_count m₁ l₁ m₂ l₂ ≤ 4000
          → Joinable m₁ l₁ m₂ l₂
      fine a b c d e f =
          let (states, moves) = plain_says c in
          record {
            good₁ = a;
            good₂ = b;
            first = rules m₁ l₁ a;
            second = rules m₂ l₂ b;
            not_buffering = λ q lt. not-true (buffering m₂.marks q) (and_true (not (buffering m₂.marks q)) (not (matching m₂.marks q)) (states q lt)).0;
            not_matching = λ q lt. not-true (matching m₂.marks q) (and_true (not (buffering m₂.marks q)) (not (matching m₂.marks q)) (states q lt)).1;
            not_epsilon = λ k lt. eqb-false (transition_at l₂ k).letter 0 (not-true (eqb (transition_at l₂ k).letter 0) (moves k lt));
            same_letters = d;
            few_states = e;
            few_transitions = f;
          }

-- Pairs

module _ {m₁ : Machine} {l₁ : List ℕ} {m₂ : Machine} {l₂ : List ℕ} (j : Joinable m₁ l₁ m₂ l₂) (q : ℕ) where
  pub first_below : q < m₁.states * m₂.states → q / m₂.states < m₁.states
  first_below lt = (div-lt_iff_lt-mul j.second.some_state).1 lt

  pub second_below : q % m₂.states < m₂.states
  second_below = mod-lt q j.second.some_state
