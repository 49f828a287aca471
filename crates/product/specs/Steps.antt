-- Which transitions the product has.
--
-- Step n count second r t x == x is what transition t of the first gives at state r of the second
-- letter_move, letter_at_lem   == what one transition of the second gives to it
-- moves_to, moves_epsilon, moves_letter == x stands in joint_moves exactly if it is such a step
-- joined_to, joined_of_lem    == x stands in joined exactly if it stands in joint_moves of some transition of the first at some state
-- flat_at                 == transition k of the written list is element k of joined
use Rattle.std.specs.Prelude.{ℕ, zero, suc, ◌+◌, ◌*◌, ◌<◌, ◌≡◌, refl, ◌⊎◌, Bool, cond, ◌&&◌, length, get_or, eqb}
use Rattle.std.proofs.Math.Path.{sym, ap}
use Rattle.std.proofs.Common.{◌∙◌, subst, inr}
use Rattle.std.proofs.Math.Logic.{inl}
use mathlib.Core.List.Memᴰ
use mathlib.Core.List.{List, [], ◌∷◌, ◌++◌, Memᴰ}
use native.Mathlib.Omega.{arith}
use borrow.Author.Tests.{eqb-true, eqb-false, eq-eqb}
use Rattle.basics.specs.Search.Laws.{and_true, and_both_true}
use Rattle.fsbm.specs.Machine.{transition_at}
use Rattle.fsbm.specs.Published.{Listed}
use Rattle.fsbm.specs.declared.machine.Machine.{Machine}
use Rattle.fsbm.specs.declared.machine.Transition.{Transition}
use Rattle.basics.specs.Bools.{cond_elim}
use Rattle.product.specs.Each.{each}
use Rattle.product.specs.Each.Laws.{each_to, each_of}
use Rattle.product.specs.Product.{pair_state, joint, joint_moves, joined_from, joined, flat}

-- the only element of a list of one
only : {A : Type 0} {x y : A} → Memᴰ x (y ∷ []) → x ≡ y
only m = at (Memᴰ.cases_cons m)
  where
    at : {A : Type 0} {x y : A} → (x ≡ y) ⊎ Memᴰ x [] → x ≡ y
    at (inl e) = e
    at (inr n) = absurd (Memᴰ.not-nil n)

pub record Step (n count : ℕ) (second : List ℕ) (r : ℕ) (t x : Transition) : Type 0 where
  pub next : ℕ
  pub from : x.from ≡ pair_state n t.from r
  pub letter : x.letter ≡ t.letter
  pub to : x.to ≡ pair_state n t.to next
  pub moves : ((t.letter ≡ 0) × (next ≡ r)) ⊎ ((t.letter ≡ 0 → ⊥) × Listed second count r t.letter next)

module _ (n count : ℕ) (second : List ℕ) (r : ℕ) (t : Transition) where
  -- what transition k of the second gives
  abbrev pub letter_move : ℕ → List Transition
  letter_move k =
      cond (eqb (transition_at second k).from r && eqb (transition_at second k).letter t.letter)
      (joint n t.from r t.letter t.to (transition_at second k).to ∷ [])
      []

  pub letter_at_lem : {x : Transition} (k : ℕ) → Memᴰ x (letter_move k)
      → (x ≡ joint n t.from r t.letter t.to (transition_at second k).to) × ((transition_at second k).from ≡ r) × ((transition_at second k).letter ≡ t.letter)
  letter_at_lem {x} k =
      cond_elim
      (λ (l : List Transition). Memᴰ x l → (x ≡ joint n t.from r t.letter t.to (transition_at second k).to) × ((transition_at second k).from ≡ r) × ((transition_at second k).letter ≡ t.letter))
      (eqb (transition_at second k).from r && eqb (transition_at second k).letter t.letter) _ []
      (λ h m.
      let (a, b) = and_true (eqb (transition_at second k).from r) (eqb (transition_at second k).letter t.letter) h in
      (only m, eqb-true (transition_at second k).from r a, eqb-true (transition_at second k).letter t.letter b))
      (λ h m. absurd (Memᴰ.not-nil m))

  letter_to : {x : Transition} (k : ℕ) → k < count → (t.letter ≡ 0 → ⊥) → Memᴰ x (letter_move k) → Step n count second r t x
  letter_to k lt some m =
      let (e, a, b) = letter_at_lem k m in
      record {
        next = (transition_at second k).to;
        from = ap (λ (z : Transition). z.from) e;
        letter = ap (λ (z : Transition). z.letter) e;
        to = ap (λ (z : Transition). z.to) e;
        moves = inr (some, record { number = k; listed = lt; from = a; letter = b; to = refl });
      }

  pub moves_to : {x : Transition} → Memᴰ x (joint_moves n count second r t) → Step n count second r t x
  unfolding joint_moves
  moves_to {x} =
      cond_elim (λ (l : List Transition). Memᴰ x l → Step n count second r t x) (eqb t.letter 0) _ _
      (λ h m.
      let e = only m in
      let z = eqb-true t.letter 0 h in
      record {
        next = r;
        from = ap (λ (z : Transition). z.from) e;
        letter = ap (λ (z : Transition). z.letter) e ∙ sym z;
        to = ap (λ (z : Transition). z.to) e;
        moves = inl (z, refl);
      })
      (λ h m. let (k, a, b, part) = each_to 0 count letter_move m in letter_to k (omega arith) (eqb-false t.letter 0 h) part)

  pub moves_epsilon : t.letter ≡ 0 → Memᴰ (joint n t.from r 0 t.to r) (joint_moves n count second r t)
  unfolding joint_moves
  moves_epsilon e =
      cond_elim (λ (l : List Transition). Memᴰ (joint n t.from r 0 t.to r) l) (eqb t.letter 0) _ _
      (λ h. Memᴰ.head refl)
      (λ h. absurd (eqb-false t.letter 0 h e))

  pub moves_letter : (t.letter ≡ 0 → ⊥) → (k : ℕ) → k < count → (transition_at second k).from ≡ r → (transition_at second k).letter ≡ t.letter
      → Memᴰ (joint n t.from r t.letter t.to (transition_at second k).to) (joint_moves n count second r t)
  unfolding joint_moves
  moves_letter some k lt from letter =
      cond_elim (λ (l : List Transition). Memᴰ (joint n t.from r t.letter t.to (transition_at second k).to) l) (eqb t.letter 0) _ _
      (λ h. absurd (some (eqb-true t.letter 0 h)))
      (λ h. each_of 0 count letter_move k (omega arith) (omega arith)
      (subst (λ (b : Bool). Memᴰ (joint n t.from r t.letter t.to (transition_at second k).to) (cond b (joint n t.from r t.letter t.to (transition_at second k).to ∷ []) []))
      (sym (and_both_true (eqb (transition_at second k).from r) (eqb (transition_at second k).letter t.letter) (eq-eqb (transition_at second k).from r from) (eq-eqb (transition_at second k).letter t.letter letter)))
      (Memᴰ.head refl)))

module _ (m₁ : Machine) (l₁ : List ℕ) (m₂ : Machine) (l₂ : List ℕ) where
  from_move : ℕ → ℕ → ℕ → List Transition
  from_move p r i = cond (eqb (transition_at l₁ i).from p) (joint_moves m₂.states m₂.transitions l₂ r (transition_at l₁ i)) []

  pub from_to : {x : Transition} (p r : ℕ) → Memᴰ x (joined_from m₁ l₁ m₂ l₂ p r)
      → (i : ℕ) × (i < m₁.transitions) × ((transition_at l₁ i).from ≡ p) × Memᴰ x (joint_moves m₂.states m₂.transitions l₂ r (transition_at l₁ i))
  unfolding joined_from from_move
  from_to {x} p r m =
      let (i, a, b, part) = each_to 0 m₁.transitions (from_move p r) m in
      cond_elim
      (λ (l : List Transition). Memᴰ x l → (i : ℕ) × (i < m₁.transitions) × ((transition_at l₁ i).from ≡ p) × Memᴰ x (joint_moves m₂.states m₂.transitions l₂ r (transition_at l₁ i)))
      (eqb (transition_at l₁ i).from p) (joint_moves m₂.states m₂.transitions l₂ r (transition_at l₁ i)) []
      (λ h k. (i, omega arith, eqb-true (transition_at l₁ i).from p h, k))
      (λ h k. absurd (Memᴰ.not-nil k))
      part

  pub joined_to : {x : Transition} → Memᴰ x (joined m₁ l₁ m₂ l₂)
      → (i r : ℕ) × (i < m₁.transitions) × (r < m₂.states) × Memᴰ x (joint_moves m₂.states m₂.transitions l₂ r (transition_at l₁ i))
  unfolding joined
  joined_to m =
      let (p, a, b, row) = each_to 0 m₁.states (λ p. each 0 m₂.states (λ r. joined_from m₁ l₁ m₂ l₂ p r)) m in
      let (r, c, d, part) = each_to 0 m₂.states (λ r. joined_from m₁ l₁ m₂ l₂ p r) row in
      let (i, e, f, g) = from_to p r part in
      (i, r, e, omega arith, g)

  pub joined_of_lem : {x : Transition} (i r : ℕ) → i < m₁.transitions → (transition_at l₁ i).from < m₁.states → r < m₂.states
      → Memᴰ x (joint_moves m₂.states m₂.transitions l₂ r (transition_at l₁ i)) → Memᴰ x (joined m₁ l₁ m₂ l₂)
  unfolding joined joined_from from_move
  joined_of_lem {x} i r lt from below m =
      let p = (transition_at l₁ i).from in
      each_of 0 m₁.states (λ p. each 0 m₂.states (λ r. joined_from m₁ l₁ m₂ l₂ p r)) p (omega arith) (omega arith)
      (each_of 0 m₂.states (λ r. joined_from m₁ l₁ m₂ l₂ p r) r (omega arith) (omega arith)
      (each_of 0 m₁.transitions (from_move p r) i (omega arith) (omega arith)
      (subst (λ (b : Bool). Memᴰ x (cond b (joint_moves m₂.states m₂.transitions l₂ r (transition_at l₁ i)) [])) (sym (eq-eqb (transition_at l₁ i).from p refl)) m)))

pub flat_at : (ts : List Transition) (rest : List ℕ) (k : ℕ) (d : Transition) → k < length ts → transition_at (flat ts ++ rest) k ≡ get_or ts k d
unfolding flat
flat_at [] rest k d h = absurd (omega arith)
flat_at (t ∷ ts) rest zero d h = refl
flat_at (t ∷ ts) rest (suc k) d h =
    let l = t.from ∷ t.letter ∷ t.to ∷ (flat ts ++ rest) in
    let a : suc k * 3 ≡ suc (suc (suc (k * 3))) = omega arith in
    let b : suc k * 3 + 1 ≡ suc (suc (suc (k * 3 + 1))) = omega arith in
    let c : suc k * 3 + 2 ≡ suc (suc (suc (k * 3 + 2))) = omega arith in
    (λ i. record { from = get_or l (a i) 0; letter = get_or l (b i) 0; to = get_or l (c i) 0 }) ∙ flat_at ts rest k d (omega arith)
