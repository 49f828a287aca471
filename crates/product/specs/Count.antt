-- How many transitions the product has: document 01's formula.
--
-- letter_sum           == the number of transitions with a letter, as a sum
-- joined_count_lem         == the product has joined_count transitions
-- joined_length        == its list has three numbers for each
use Prim.Native.Nat.{ℕ, zero, suc, ◌+◌, ◌*◌, ◌<◌}
use Rattle.std.specs.Prelude.{◌≡◌, refl, Bool, true, false, ◌&&◌}
use Rattle.std.proofs.Math.Path.{sym, ap}
use Rattle.std.proofs.Common.{◌∙◌, arith, zero-add, one-mul, zero-mul, mul-one, ne_eqb}
use Rattle.std.proofs.Math.Bool.{cond}
use mathlib.Core.List.{List, [], ◌∷◌}
use Rattle.std.proofs.Math.ListN.{length}
use Rattle.std.proofs.Math.Dec.{eqb}
use Rattle.basics.specs.Search.Loops.{second}
use Rattle.fsbm.specs.Machine.{transition_at}
use Rattle.fsbm.specs.declared.machine.Machine.{Machine}
use Rattle.fsbm.specs.declared.machine.Transition.{Transition}
use Rattle.product.specs.Each.{each, sum_over}
use Rattle.product.specs.Each.Laws.{length_each}
use Rattle.product.specs.Each.Sums.{sum_same, sum_none, sum_last, sum_times, sum_const, sum_swap, sum_pick}
use Rattle.product.specs.Product.{joint, joint_moves, joined_from, joined, flat, letter_count, joined_transitions, joined_count, join_fault}
use Rattle.product.specs.Tables.{Joinable, joinable}

pub letter_sum : (list : List ℕ) (n x : ℕ) → letter_count list n x ≡ sum_over 0 n (λ k. cond (eqb (transition_at list k).letter x) 1 0)
unfolding letter_count sum_over
letter_sum list zero x = refl
letter_sum list (suc n) x =
    let before = letter_sum list n x in
    ap (λ (z : ℕ). z + cond (eqb (transition_at list n).letter x) 1 0) before
    ∙ ap (λ (k : ℕ). sum_over 0 n (λ k. cond (eqb (transition_at list k).letter x) 1 0) + cond (eqb (transition_at list k).letter x) 1 0) (sym (zero-add n))
    ∙ sym (sum_last 0 n (λ k. cond (eqb (transition_at list k).letter x) 1 0))

length_cond : {A : Type 0} (b : Bool) (l : List A) → length (cond b l []) ≡ cond b (length l) 0
length_cond true l = refl
length_cond false l = refl

cond_and : (a b : Bool) → ◌≡◌ {A = ℕ} (cond (a && b) 1 0) (cond a (cond b 1 0) 0)
cond_and true b = refl
cond_and false b = refl

cond_times : (b : Bool) (v : ℕ) → cond b v 0 ≡ cond b 1 0 * v
cond_times true v = sym (one-mul v)
cond_times false v = sym (zero-mul v)

-- the sum of conditional sums
cond_sum : (b : Bool) (n : ℕ) (f : ℕ → ℕ) → sum_over 0 n (λ r. cond b (f r) 0) ≡ cond b (sum_over 0 n f) 0
cond_sum true n f = refl
cond_sum false n f = sum_none 0 n (λ r. 0) (λ k a b. refl)

module _ (n count : ℕ) (second-list : List ℕ) (from_below : (k : ℕ) → k < count → (transition_at second-list k).from < n) where
  -- what transition t gives at all states of the second together
  moves_count : (t : Transition) → sum_over 0 n (λ r. length (joint_moves n count second-list r t)) ≡ cond (eqb t.letter 0) n (letter_count second-list count t.letter)
  unfolding joint_moves
  moves_count t = at (eqb t.letter 0)
    where
      f : ℕ → ℕ → List Transition
      f r k = cond (eqb (transition_at second-list k).from r && eqb (transition_at second-list k).letter t.letter) (joint n t.from r t.letter t.to (transition_at second-list k).to ∷ []) []

      one : (r k : ℕ) → length (f r k) ≡ cond (eqb (transition_at second-list k).from r) (cond (eqb (transition_at second-list k).letter t.letter) 1 0) 0
      one r k =
          length_cond (eqb (transition_at second-list k).from r && eqb (transition_at second-list k).letter t.letter) (joint n t.from r t.letter t.to (transition_at second-list k).to ∷ [])
          ∙ cond_and (eqb (transition_at second-list k).from r) (eqb (transition_at second-list k).letter t.letter)

      letters : sum_over 0 n (λ r. length (each 0 count (f r))) ≡ letter_count second-list count t.letter
      letters =
          sum_same 0 n (λ r. length (each 0 count (f r))) (λ r. sum_over 0 count (λ k. length (f r k))) (λ r a b. length_each 0 count (f r))
          ∙ sum_swap 0 n 0 count (λ r k. length (f r k))
          ∙ sum_same 0 count (λ k. sum_over 0 n (λ r. length (f r k))) (λ k. cond (eqb (transition_at second-list k).letter t.letter) 1 0)
          (λ k a b.
          sum_same 0 n (λ r. length (f r k)) (λ r. cond (eqb (transition_at second-list k).from r) (cond (eqb (transition_at second-list k).letter t.letter) 1 0) 0) (λ r c d. one r k)
          ∙ sum_pick 0 n (transition_at second-list k).from (λ r. cond (eqb (transition_at second-list k).letter t.letter) 1 0) (omega arith) (omega (arith, from_below k (omega arith))))
          ∙ sym (letter_sum second-list count t.letter)

      at : (b : Bool) → sum_over 0 n (λ r. length (cond b (joint n t.from r 0 t.to r ∷ []) (each 0 count (f r)))) ≡ cond b n (letter_count second-list count t.letter)
      at true = sum_const 0 n 1 ∙ mul-one n
      at false = letters

module _ {m₁ : Machine} {l₁ : List ℕ} {m₂ : Machine} {l₂ : List ℕ} (j : Joinable m₁ l₁ m₂ l₂) where
  moves : ℕ → ℕ → List Transition
  moves r i = joint_moves m₂.states m₂.transitions l₂ r (transition_at l₁ i)

  -- what a letter of a transition of the first gives
  worth : ℕ → ℕ
  worth x = cond (eqb x 0) m₂.states (letter_count l₂ m₂.transitions x)

  by_transition : length (joined m₁ l₁ m₂ l₂) ≡ sum_over 0 m₁.transitions (λ i. worth (transition_at l₁ i).letter)
  unfolding joined joined_from moves worth
  by_transition =
      length_each 0 m₁.states (λ p. each 0 m₂.states (λ r. joined_from m₁ l₁ m₂ l₂ p r))
      ∙ sum_same 0 m₁.states (λ p. length (each 0 m₂.states (λ r. joined_from m₁ l₁ m₂ l₂ p r)))
      (λ p. sum_over 0 m₁.transitions (λ i. cond (eqb (transition_at l₁ i).from p) (worth (transition_at l₁ i).letter) 0)) (λ p a b. row p)
      ∙ sum_swap 0 m₁.states 0 m₁.transitions (λ p i. cond (eqb (transition_at l₁ i).from p) (worth (transition_at l₁ i).letter) 0)
      ∙ sum_same 0 m₁.transitions (λ i. sum_over 0 m₁.states (λ p. cond (eqb (transition_at l₁ i).from p) (worth (transition_at l₁ i).letter) 0)) (λ i. worth (transition_at l₁ i).letter)
      (λ i a b. sum_pick 0 m₁.states (transition_at l₁ i).from (λ p. worth (transition_at l₁ i).letter) (omega arith) (omega (arith, j.first.from_below i (omega arith))))
    where
      part : ℕ → ℕ → ℕ → List Transition
      part p r i = cond (eqb (transition_at l₁ i).from p) (moves r i) []

      cell : (p i : ℕ) → sum_over 0 m₂.states (λ r. length (part p r i)) ≡ cond (eqb (transition_at l₁ i).from p) (worth (transition_at l₁ i).letter) 0
      cell p i =
          sum_same 0 m₂.states (λ r. length (part p r i)) (λ r. cond (eqb (transition_at l₁ i).from p) (length (moves r i)) 0) (λ r a b. length_cond (eqb (transition_at l₁ i).from p) (moves r i))
          ∙ cond_sum (eqb (transition_at l₁ i).from p) m₂.states (λ r. length (moves r i))
          ∙ ap (λ (z : ℕ). cond (eqb (transition_at l₁ i).from p) z 0) (moves_count m₂.states m₂.transitions l₂ j.second.from_below (transition_at l₁ i))

      row : (p : ℕ) → length (each 0 m₂.states (λ r. each 0 m₁.transitions (part p r))) ≡ sum_over 0 m₁.transitions (λ i. cond (eqb (transition_at l₁ i).from p) (worth (transition_at l₁ i).letter) 0)
      row p =
          length_each 0 m₂.states (λ r. each 0 m₁.transitions (part p r))
          ∙ sum_same 0 m₂.states (λ r. length (each 0 m₁.transitions (part p r))) (λ r. sum_over 0 m₁.transitions (λ i. length (part p r i))) (λ r a b. length_each 0 m₁.transitions (part p r))
          ∙ sum_swap 0 m₂.states 0 m₁.transitions (λ r i. length (part p r i))
          ∙ sum_same 0 m₁.transitions (λ i. sum_over 0 m₂.states (λ r. length (part p r i))) (λ i. cond (eqb (transition_at l₁ i).from p) (worth (transition_at l₁ i).letter) 0) (λ i a b. cell p i)

  by_letter : sum_over 0 m₁.transitions (λ i. worth (transition_at l₁ i).letter) ≡ joined_count m₁ l₁ m₂ l₂
  unfolding joined_count worth sum_over
  by_letter =
      sum_same 0 m₁.transitions (λ i. worth (transition_at l₁ i).letter) (λ i. sum_over 0 (suc m₁.letters) (λ x. cond (eqb (transition_at l₁ i).letter x) (worth x) 0))
      (λ i a b. sym (sum_pick 0 (suc m₁.letters) (transition_at l₁ i).letter worth (omega arith) (omega (arith, j.first.letter_below i (omega arith)))))
      ∙ sum_swap 0 m₁.transitions 0 (suc m₁.letters) (λ i x. cond (eqb (transition_at l₁ i).letter x) (worth x) 0)
      ∙ sum_same 0 (suc m₁.letters) (λ x. sum_over 0 m₁.transitions (λ i. cond (eqb (transition_at l₁ i).letter x) (worth x) 0)) (λ x. letter_count l₁ m₁.transitions x * worth x) (λ x a b. column x)
      ∙ ap (λ (z : ℕ). letter_count l₁ m₁.transitions 0 * m₂.states + z)
      (sum_same 1 m₁.letters (λ x. letter_count l₁ m₁.transitions x * worth x) (λ x. letter_count l₁ m₁.transitions x * letter_count l₂ m₂.transitions x)
      (λ x a b. ap (λ (z : ℕ). letter_count l₁ m₁.transitions x * z) (sym (second m₂.states (ne_eqb x 0 (λ (e : x ≡ 0). omega arith)) refl))))
    where
      column : (x : ℕ) → sum_over 0 m₁.transitions (λ i. cond (eqb (transition_at l₁ i).letter x) (worth x) 0) ≡ letter_count l₁ m₁.transitions x * worth x
      column x =
          sum_same 0 m₁.transitions (λ i. cond (eqb (transition_at l₁ i).letter x) (worth x) 0) (λ i. cond (eqb (transition_at l₁ i).letter x) 1 0 * worth x) (λ i a b. cond_times (eqb (transition_at l₁ i).letter x) (worth x))
          ∙ sum_times 0 m₁.transitions (λ i. cond (eqb (transition_at l₁ i).letter x) 1 0) (worth x)
          ∙ ap (λ (z : ℕ). z * worth x) (sym (letter_sum l₁ m₁.transitions x))

flat_length : (ts : List Transition) → length (flat ts) ≡ length ts * 3
unfolding flat
flat_length [] = refl
flat_length (t ∷ ts) = let h = flat_length ts in omega arith

module _ (m₁ : Machine) (l₁ : List ℕ) (m₂ : Machine) (l₂ : List ℕ) (fine : join_fault m₁ l₁ m₂ l₂ ≡ 0) where
  pub joined_count_lem : length (joined m₁ l₁ m₂ l₂) ≡ joined_count m₁ l₁ m₂ l₂
  joined_count_lem = let j = joinable m₁ l₁ m₂ l₂ fine in by_transition j ∙ by_letter j

  pub joined_length : length (joined_transitions m₁ l₁ m₂ l₂) ≡ joined_count m₁ l₁ m₂ l₂ * 3
  unfolding joined_transitions
  joined_length = flat_length (joined m₁ l₁ m₂ l₂) ∙ ap (λ (n : ℕ). n * 3) joined_count_lem
