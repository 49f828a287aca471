-- The laws of specs/Each.antt.
--
-- each_step, each_over    == the parts from i up to n: the part at i and the rest; none where n ≤ i
-- each_same, each_none    == equal parts make equal lists; empty parts none
-- each_split              == a range cut in two
-- each_block              == parts that are empty outside lo .. hi
-- each_skip               == parts from i on that are empty up to j
-- each_to, each_of        == x stands in each i n f exactly if it stands in some part
-- each_single             == element k of a list of one-element parts
-- length_each             == the length is the sum of the parts' lengths
use Prim.Native.Nat.{ℕ, zero, suc, ◌+◌, ◌-◌, ◌≤◌, ◌<◌}
use Rattle.std.specs.Prelude.{◌≡◌, ◌⊎◌, get_or}
use Rattle.std.proofs.Math.Path.{refl, sym, ap}
use Rattle.std.proofs.Common.{◌∙◌, subst, inl, inr, add-one, add-zero, zero-add}
use mathlib.Core.List.Memᴰ
use mathlib.Core.List.{List, [], ◌∷◌, ◌++◌, append_assoc, append-nil, Memᴰ}
use native.Mathlib.Omega.{arith}
use Rattle.std.proofs.Math.Decide.{ℕ_discrete}
use Rattle.std.proofs.Math.ListN.{length, length-append}
use Rattle.basics.specs.Lists.{put}
use Rattle.basics.specs.Lists.Laws.{put_none, put_length, put_put}
use Rattle.product.specs.Each.{each, sum_over}

module _ {A : Type 0} where
  pub each_step : (i n : ℕ) (f : ℕ → List A) → i < n → each i (n - i) f ≡ f i ++ each (i + 1) (n - (i + 1)) f
  unfolding each
  each_step i n f h =
      let less : n - i ≡ suc (n - (i + 1)) = omega arith in
      ap (λ (k : ℕ). each i k f) less ∙ ap (λ (k : ℕ). f i ++ each k (n - (i + 1)) f) (sym (add-one i))

  pub each_over : (i n : ℕ) (f : ℕ → List A) → n ≤ i → each i (n - i) f ≡ []
  unfolding each
  each_over i n f h = let none : n - i ≡ 0 = omega arith in ap (λ (k : ℕ). each i k f) none

  pub each_same : (i n : ℕ) (f g : ℕ → List A) → ((k : ℕ) → i ≤ k → k < i + n → f k ≡ g k) → each i n f ≡ each i n g
  unfolding each
  each_same i zero f g h = refl
  each_same i (suc n) f g h =
      ap (λ (l : List A). l ++ each (suc i) n f) (h i (omega arith) (omega arith))
      ∙ ap (λ (l : List A). g i ++ l) (each_same (suc i) n f g (λ k a b. h k (omega arith) (omega arith)))

  pub each_none : (i n : ℕ) (f : ℕ → List A) → ((k : ℕ) → i ≤ k → k < i + n → f k ≡ []) → each i n f ≡ []
  unfolding each
  each_none i zero f h = refl
  each_none i (suc n) f h =
      ap (λ (l : List A). l ++ each (suc i) n f) (h i (omega arith) (omega arith))
      ∙ each_none (suc i) n f (λ k a b. h k (omega arith) (omega arith))

  pub each_split : (i a b : ℕ) (f : ℕ → List A) → each i (a + b) f ≡ each i a f ++ each (i + a) b f
  unfolding each
  each_split i zero b f = ap (λ (k : ℕ). each i k f) (zero-add b) ∙ ap (λ (k : ℕ). each k b f) (sym (add-zero i))
  each_split i (suc a) b f =
      let more : suc a + b ≡ suc (a + b) = omega arith in
      let on : suc i + a ≡ i + suc a = omega arith in
      ap (λ (k : ℕ). each i k f) more
      ∙ ap (λ (l : List A). f i ++ l) (each_split (suc i) a b f ∙ ap (λ (k : ℕ). each (suc i) a f ++ each k b f) on)
      ∙ sym (append_assoc (f i) (each (suc i) a f) (each (i + suc a) b f))

  pub each_block : (n lo hi : ℕ) (f : ℕ → List A) → lo ≤ hi → hi ≤ n → ((k : ℕ) → k < lo → f k ≡ []) → ((k : ℕ) → hi ≤ k → k < n → f k ≡ [])
      → each 0 n f ≡ each lo (hi - lo) f
  each_block n lo hi f low high before after =
      let whole : n ≡ lo + ((hi - lo) + (n - hi)) = omega arith in
      let end : lo + (hi - lo) ≡ hi = omega arith in
      let start : 0 + lo ≡ lo = omega arith in
      ap (λ (k : ℕ). each 0 k f) whole
      ∙ each_split 0 lo ((hi - lo) + (n - hi)) f
      ∙ ap (λ (l : List A). l ++ each (0 + lo) ((hi - lo) + (n - hi)) f) (each_none 0 lo f (λ k a b. before k (omega arith)))
      ∙ ap (λ (k : ℕ). each k ((hi - lo) + (n - hi)) f) start
      ∙ each_split lo (hi - lo) (n - hi) f
      ∙ ap (λ (l : List A). each lo (hi - lo) f ++ l)
      (ap (λ (k : ℕ). each k (n - hi) f) end ∙ each_none hi (n - hi) f (λ k a b. after k a (omega arith)))
      ∙ append-nil (each lo (hi - lo) f)

  -- parts that are empty need not be looked at
  pub each_skip : (i j n : ℕ) (f : ℕ → List A) → i ≤ j → j ≤ n → ((k : ℕ) → i ≤ k → k < j → f k ≡ []) → each i (n - i) f ≡ each j (n - j) f
  each_skip i j n f low high none =
      let cut : n - i ≡ (j - i) + (n - j) = omega arith in
      let end : i + (j - i) ≡ j = omega arith in
      ap (λ (k : ℕ). each i k f) cut
      ∙ each_split i (j - i) (n - j) f
      ∙ ap (λ (l : List A). l ++ each (i + (j - i)) (n - j) f) (each_none i (j - i) f (λ k a b. none k a (omega arith)))
      ∙ ap (λ (k : ℕ). each k (n - j) f) end

  pub each_to : {x : A} (i n : ℕ) (f : ℕ → List A) → Memᴰ x (each i n f) → (k : ℕ) × (i ≤ k) × (k < i + n) × Memᴰ x (f k)
  unfolding each
  each_to i zero f m = absurd (Memᴰ.not-nil m)
  each_to {x} i (suc n) f m = at (each_to (suc i) n f) (Memᴰ.append_cases (f i) m)
    where
      at : (Memᴰ x (each (suc i) n f) → (k : ℕ) × (suc i ≤ k) × (k < suc i + n) × Memᴰ x (f k)) → Memᴰ x (f i) ⊎ Memᴰ x (each (suc i) n f)
          → (k : ℕ) × (i ≤ k) × (k < i + suc n) × Memᴰ x (f k)
      at on (inl h) = (i, omega arith, omega arith, h)
      at on (inr h) = let (k, a, b, e) = on h in (k, omega arith, omega arith, e)

  pub each_of : {x : A} (i n : ℕ) (f : ℕ → List A) (k : ℕ) → i ≤ k → k < i + n → Memᴰ x (f k) → Memᴰ x (each i n f)
  unfolding each
  each_of i zero f k a b m = absurd (omega arith)
  each_of {x} i (suc n) f k a b m = at (ℕ_discrete k i) (each_of (suc i) n f k)
    where
      at : Dec (k ≡ i) → (suc i ≤ k → k < suc i + n → Memᴰ x (f k) → Memᴰ x (each (suc i) n f)) → Memᴰ x (f i ++ each (suc i) n f)
      at (yes e) on = Memᴰ.append_left (each (suc i) n f) (subst (λ (z : ℕ). Memᴰ x (f z)) e m)
      at (no d) on = Memᴰ.append_right (f i) (on (omega arith) (omega arith) m)

  pub each_single : (i n : ℕ) (f : ℕ → A) (k : ℕ) (d : A) → k < n → get_or (each i n (λ j. f j ∷ [])) k d ≡ f (i + k)
  unfolding each
  each_single i zero f k d h = absurd (omega arith)
  each_single i (suc n) f zero d h = ap f (sym (add-zero i))
  each_single i (suc n) f (suc k) d h = let index : suc i + k ≡ i + suc k = omega arith in each_single (suc i) n f k d (omega arith) ∙ ap f index

  pub length_each : (i n : ℕ) (f : ℕ → List A) → length (each i n f) ≡ sum_over i n (λ k. length (f k))
  unfolding each sum_over
  length_each i zero f = refl
  length_each i (suc n) f = length-append (f i) (each (suc i) n f) ∙ ap (λ (k : ℕ). length (f i) + k) (length_each (suc i) n f)

-- A list that is written part by part: what is written so far, and what is still to be written at its place
pub record Putting {A : Type 0} (entry : List A) (k : ℕ) (all slice : List A) (at : ℕ) (rest : List A) : Type 0 where
  pub same : put at slice rest ≡ put k entry all
  pub place : at + length rest ≡ k + length all
  pub size : length slice ≡ length entry
  pub room : k + length all ≤ length entry

module _ {A : Type 0} {entry : List A} {k : ℕ} {all : List A} where
  pub putting_start : k + length all ≤ length entry → Putting entry k all entry k all
  putting_start h = record { same = refl; place = refl; size = refl; room = h }

  -- there is room for the next part
  pub putting_room : (a b : List A) {slice rest : List A} {at : ℕ} → Putting entry k all slice at rest → rest ≡ a ++ b → at + length a ≤ length slice
  putting_room a b p e = let both = ap length e ∙ length-append a b in omega (arith, p.place, p.size, p.room)

  pub putting_step : (a b : List A) {slice slice' rest : List A} {at : ℕ} → Putting entry k all slice at rest → rest ≡ a ++ b → slice' ≡ put at slice a
      → Putting entry k all slice' (at + length a) b
  putting_step a b {slice} {slice'} {rest} {at} p parts e =
      let both = length-append a b in
      let whole = ap length parts in
      let fits : at + length a + length b ≤ length slice = omega (arith, p.place, p.size, p.room) in
      record {
        same = ap (λ (x : List A). put (at + length a) x b) e ∙ put_put at (at + length a) slice a b refl fits ∙ ap (put at slice) (sym parts) ∙ p.same;
        place = omega (arith, p.place);
        size = ap length e ∙ put_length at slice a (omega arith) ∙ p.size;
        room = p.room;
      }

  pub putting_at : {slice rest : List A} {at at' : ℕ} → Putting entry k all slice at rest → at ≡ at' → Putting entry k all slice at' rest
  putting_at {slice} {rest} p e = subst (λ (n : ℕ). Putting entry k all slice n rest) e p

  pub putting_end : {slice rest : List A} {at : ℕ} → Putting entry k all slice at rest → rest ≡ [] → (slice ≡ put k entry all) × (at ≡ k + length all)
  putting_end {slice} {rest} {at} p e =
      (put_none at slice ∙ ap (put at slice) (sym e) ∙ p.same, sym (add-zero at) ∙ ap (λ (x : List A). at + length x) (sym e) ∙ p.place)
