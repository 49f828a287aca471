-- The transitions of the product rise strictly.
--
-- Rises ts             == every element of ts comes before all later ones
-- rises_each           == a list of rising parts, each before the later ones
-- rises_next           == neighbours rise
-- joined_rises         == the product's transitions rise
-- joined_bounds        == they name states and letters that are there
use Prim.Native.Nat.{ℕ, zero, suc, ◌+◌, ◌*◌, ◌≤◌, ◌<◌}
use Rattle.std.specs.Prelude.{◌≡◌, refl, ◌⊎◌, ◌&&◌, length, get_or, eqb}
use Rattle.std.proofs.Common.{sym, ap, ◌∙◌, inl, inr, arith, eqb-true}
use Rattle.std.proofs.Math.Bool.{cond}
use mathlib.Core.List.Memᴰ
use mathlib.Core.List.{List, [], ◌∷◌, ◌++◌, Memᴰ}
use Rattle.std.proofs.Math.Decide.{dec_lt}
use Rattle.fsbm.specs.Machine.{transition_at}
use Rattle.fsbm.specs.Published.{Listed}
use Rattle.fsbm.specs.declared.machine.Machine.{Machine}
use Rattle.fsbm.specs.declared.machine.Transition.{Transition}
use Rattle.basics.specs.Bools.{cond_elim}
use Rattle.product.specs.Each.{each}
use Rattle.product.specs.Each.Laws.{each_to}
use Rattle.product.specs.Product.{pair_state, joint_moves, joined_from, joined}
use Rattle.product.specs.Steps.{Step, letter_move, letter_at_lem, moves_to, from_to, joined_to}
use Rattle.basics.specs.Pairs.{pair_before, pair_below}
use Rattle.product.specs.Tables.{order, rising, Joinable}

pub data Rises : List Transition → Type 0 where
  none : Rises []
  more : {x : Transition} {l : List Transition} → ((y : Transition) → Memᴰ y l → order x < order y) → Rises l → Rises (x ∷ l)

rises_append : {a b : List Transition} → Rises a → Rises b → ((x y : Transition) → Memᴰ x a → Memᴰ y b → order x < order y) → Rises (a ++ b)
rises_append none r h = r
rises_append {b = b} (more {x = x} {l = l} before r) s h =
    more
    (λ y m. at y (Memᴰ.append_cases l m))
    (rises_append r s (λ x y i k. h x y (Memᴰ.tail i) k))
  where
    at : (y : Transition) → Memᴰ y l ⊎ Memᴰ y b → order x < order y
    at y (inl m) = before y m
    at y (inr m) = h x y (Memᴰ.head refl) m

rises_each : (i n : ℕ) (f : ℕ → List Transition) → ((k : ℕ) → i ≤ k → k < i + n → Rises (f k))
    → ((k l : ℕ) → i ≤ k → k < l → l < i + n → (x y : Transition) → Memᴰ x (f k) → Memᴰ y (f l) → order x < order y)
    → Rises (each i n f)
unfolding each
rises_each i zero f parts apart = none
rises_each i (suc n) f parts apart =
    rises_append (parts i (omega arith) (omega arith))
    (rises_each (suc i) n f (λ k a b. parts k (omega arith) (omega arith)) (λ k l a b c. apart k l (omega arith) b (omega arith)))
    (λ x y a b. let (k, low, high, m) = each_to (suc i) n f b in apart i k (omega arith) (omega arith) (omega arith) x y a m)

pub rises_next : {l : List Transition} → Rises l → (k : ℕ) (d : Transition) → suc k < length l → order (get_or l k d) < order (get_or l (suc k) d)
rises_next none k d h = absurd (omega arith)
rises_next (more {x = x} {l = l} before r) zero d h = before (get_or l 0 d) (first_in l (omega arith))
  where
    first_in : (l : List Transition) → 0 < length l → Memᴰ (get_or l 0 d) l
    first_in [] h = absurd (omega arith)
    first_in (y ∷ l) h = Memᴰ.head refl
rises_next (more {x = x} {l = l} before r) (suc k) d h = rises_next r k d (omega arith)

-- The product

module _ {m₁ : Machine} {l₁ : List ℕ} {m₂ : Machine} {l₂ : List ℕ} (j : Joinable m₁ l₁ m₂ l₂) where
  abbrev pub moves : ℕ → ℕ → List Transition
  moves r i = joint_moves m₂.states m₂.transitions l₂ r (transition_at l₁ i)

  -- a step of transition i of the first at state r of the second, with its bounds
  pub record Bounds (i r : ℕ) (x : Transition) : Type 0 where
    pub step : Step m₂.states m₂.transitions l₂ r (transition_at l₁ i) x
    pub next_below : step.next < m₂.states
    pub from_small : x.from < m₁.states * m₂.states
    pub letter_small : x.letter ≤ m₁.letters
    pub to_small : x.to < m₁.states * m₂.states

  pub bounds : {x : Transition} (i r : ℕ) → i < m₁.transitions → r < m₂.states → Memᴰ x (moves r i) → Bounds i r x
  bounds {x} i r lt lr m =
      let s = moves_to m₂.states m₂.transitions l₂ r (transition_at l₁ i) m in
      let below : s.next < m₂.states = next_below s.next s.moves in
      let from = pair_below m₁.states m₂.states (transition_at l₁ i).from r (j.first.from_below i lt) lr in
      let to = pair_below m₁.states m₂.states (transition_at l₁ i).to s.next (j.first.to_below i lt) below in
      record {
        step = s;
        next_below = below;
        from_small = omega (arith, s.from);
        letter_small = omega (arith, s.letter, j.first.letter_below i lt);
        to_small = omega (arith, s.to);
      }
    where
      next_below : (q : ℕ) → (((transition_at l₁ i).letter ≡ 0) × (q ≡ r)) ⊎ (((transition_at l₁ i).letter ≡ 0 → ⊥) × Listed l₂ m₂.transitions r (transition_at l₁ i).letter q) → q < m₂.states
      next_below q (inl (z, e)) = omega arith
      next_below q (inr (z, d)) = omega (arith, j.second.to_below d.number d.listed, d.to)

  -- order from its parts
  order_from : (x y : Transition) → x.letter ≤ 250 → x.to < 64 → x.from < y.from → order x < order y
  order_from x y a b h = omega arith

  order_letter : (x y : Transition) → x.to < 64 → x.from ≡ y.from → x.letter < y.letter → order x < order y
  order_letter x y b e h = omega arith

  order_to : (x y : Transition) → x.from ≡ y.from → x.letter ≡ y.letter → x.to < y.to → order x < order y
  order_to x y e f h = omega arith

  -- one transition of the first
  moves_rise : (i r : ℕ) → Rises (moves r i)
  unfolding joint_moves
  moves_rise i r =
      cond_elim Rises (eqb (transition_at l₁ i).letter 0) _ _
      (λ h. more (λ y m. absurd (Memᴰ.not-nil m)) none)
      (λ h. rises_each 0 m₂.transitions part (λ k a b. single k) (λ k l a b c x y mx my. apart k l b (omega arith) x y mx my))
    where
      part : ℕ → List Transition
      part = letter_move m₂.states m₂.transitions l₂ r (transition_at l₁ i)

      single : (k : ℕ) → Rises (part k)
      single k = cond_elim Rises (eqb (transition_at l₂ k).from r && eqb (transition_at l₂ k).letter (transition_at l₁ i).letter) _ [] (λ h. more (λ y m. absurd (Memᴰ.not-nil m)) none) (λ h. none)

      apart : (k l : ℕ) → k < l → l < m₂.transitions → (x y : Transition) → Memᴰ x (part k) → Memᴰ y (part l) → order x < order y
      apart k l lt ll x y mx my =
          let (ex, fx, lx) = letter_at_lem m₂.states m₂.transitions l₂ r (transition_at l₁ i) k mx in
          let (ey, fy, ly) = letter_at_lem m₂.states m₂.transitions l₂ r (transition_at l₁ i) l my in
          let up = rising m₂ l₂ j.second k l lt ll in
          let to-x = ap (λ (z : Transition). z.to) ex in
          let to-y = ap (λ (z : Transition). z.to) ey in
          order_to x y (ap (λ (z : Transition). z.from) ex ∙ sym (ap (λ (z : Transition). z.from) ey)) (ap (λ (z : Transition). z.letter) ex ∙ sym (ap (λ (z : Transition). z.letter) ey)) (omega arith)

  -- transitions of the first from one state
  from_rise : (p r : ℕ) → r < m₂.states → Rises (joined_from m₁ l₁ m₂ l₂ p r)
  unfolding joined_from
  from_rise p r lr = rises_each 0 m₁.transitions part (λ i a b. single i) (λ i k a b c x y mx my. apart i k b (omega arith) x y mx my)
    where
      part : ℕ → List Transition
      part i = cond (eqb (transition_at l₁ i).from p) (moves r i) []

      single : (i : ℕ) → Rises (part i)
      single i = cond_elim Rises (eqb (transition_at l₁ i).from p) (moves r i) [] (λ h. moves_rise i r) (λ h. none)

      in_part : (i : ℕ) (x : Transition) → i < m₁.transitions → Memᴰ x (part i) → ((transition_at l₁ i).from ≡ p) × Bounds i r x
      in_part i x lt =
          cond_elim (λ (l : List Transition). Memᴰ x l → ((transition_at l₁ i).from ≡ p) × Bounds i r x) (eqb (transition_at l₁ i).from p) (moves r i) []
          (λ h m. (eqb-true (transition_at l₁ i).from p h, bounds i r lt lr m))
          (λ h m. absurd (Memᴰ.not-nil m))

      apart : (i k : ℕ) → i < k → k < m₁.transitions → (x y : Transition) → Memᴰ x (part i) → Memᴰ y (part k) → order x < order y
      apart i k lt lk x y mx my =
          let (fx, bx) = in_part i x (omega arith) mx in
          let (fy, by) = in_part k y lk my in
          at bx by (rising m₁ l₁ j.first i k lt lk) (fx ∙ sym fy) (dec_lt (transition_at l₁ i).letter (transition_at l₁ k).letter)
        where
          at : (bx : Bounds i r x) (by : Bounds k r y) → order (transition_at l₁ i) < order (transition_at l₁ k) → (transition_at l₁ i).from ≡ (transition_at l₁ k).from
              → Dec ((transition_at l₁ i).letter < (transition_at l₁ k).letter) → order x < order y
          at bx by up same (yes l) =
              order_letter x y (omega (arith, bx.to_small, j.few_states)) (bx.step.from ∙ ap (λ (z : ℕ). pair_state m₂.states z r) same ∙ sym by.step.from) (omega (arith, bx.step.letter, by.step.letter))
          at bx by up same (no d) =
              let small = j.first.to_below i (omega arith) in
              let few = j.first.states_fit in
              let other = j.first.to_below k (omega arith) in
              let alike : (transition_at l₁ i).letter ≡ (transition_at l₁ k).letter = omega arith in
              let to = pair_before m₂.states (transition_at l₁ i).to bx.step.next (transition_at l₁ k).to by.step.next (omega arith) bx.next_below in
              order_to x y (bx.step.from ∙ ap (λ (z : ℕ). pair_state m₂.states z r) same ∙ sym by.step.from) (bx.step.letter ∙ alike ∙ sym by.step.letter) (omega (arith, bx.step.to, by.step.to))

  -- a transition from the pair (p, r)
  in_from : (p r : ℕ) (x : Transition) → r < m₂.states → Memᴰ x (joined_from m₁ l₁ m₂ l₂ p r) → (x.from ≡ pair_state m₂.states p r) × (x.letter ≤ 250) × (x.to < 64)
  in_from p r x lr m =
      let (i, lt, e, k) = from_to m₁ l₁ m₂ l₂ p r m in
      let b = bounds i r lt lr k in
      (b.step.from ∙ ap (λ (z : ℕ). pair_state m₂.states z r) e, omega (arith, b.letter_small, j.first.letters_fit), omega (arith, b.to_small, j.few_states))

  pub joined_rises : Rises (joined m₁ l₁ m₂ l₂)
  unfolding joined
  joined_rises = rises_each 0 m₁.states row (λ p a b. row_rises p) (λ p q a b c x y mx my. apart p q b x y mx my)
    where
      row : ℕ → List Transition
      row p = each 0 m₂.states (λ r. joined_from m₁ l₁ m₂ l₂ p r)

      row_rises : (p : ℕ) → Rises (row p)
      row_rises p =
          rises_each 0 m₂.states (λ r. joined_from m₁ l₁ m₂ l₂ p r) (λ r a b. from_rise p r (omega arith))
          (λ r s a b c x y mx my.
          let (ex, lx, tx) = in_from p r x (omega arith) mx in
          let (ey, ly, ty) = in_from p s y (omega arith) my in
          order_from x y lx tx (omega arith))

      apart : (p q : ℕ) → p < q → (x y : Transition) → Memᴰ x (row p) → Memᴰ y (row q) → order x < order y
      apart p q lt x y mx my =
          let (r, a, b, kx) = each_to 0 m₂.states (λ r. joined_from m₁ l₁ m₂ l₂ p r) mx in
          let (s, c, d, ky) = each_to 0 m₂.states (λ r. joined_from m₁ l₁ m₂ l₂ q r) my in
          let (ex, lx, tx) = in_from p r x (omega arith) kx in
          let (ey, ly, ty) = in_from q s y (omega arith) ky in
          let up = pair_before m₂.states p r q s lt (omega arith) in
          order_from x y lx tx (omega arith)

  pub joined_bounds : (x : Transition) → Memᴰ x (joined m₁ l₁ m₂ l₂) → (x.from < m₁.states * m₂.states) × (x.letter ≤ m₁.letters) × (x.to < m₁.states * m₂.states)
  joined_bounds x m =
      let (i, r, lt, lr, k) = joined_to m₁ l₁ m₂ l₂ m in
      let b = bounds i r lt lr k in
      (b.from_small, b.letter_small, b.to_small)
