-- The elements of a list that pass a test, each taken through a function. Generic; the laws stand beside the definitions.
--
-- numbers n          == n - 1, .. , 0
-- chosen p f l       == f x for each x of l with p x
-- numbers_of, numbers_to == k stands in numbers n exactly if k < n
-- chosen_of, chosen_to   == a stands in chosen p f l exactly if it is f x for some x of l with p x
use Rattle.std.specs.Prelude.{ℕ, zero, suc, ◌<◌, ◌≡◌, refl, ◌⊎◌, Bool, cond}
use Rattle.std.proofs.Common.{sym, ap, inl, inr, arith}
use Rattle.std.proofs.Math.Path.{subst}
use Rattle.std.proofs.Math.Bool.{true, false}
use mathlib.Core.List.Memᴰ
use mathlib.Core.List.{List, [], ◌∷◌, Memᴰ}
use Rattle.std.proofs.Math.Decide.{ℕ_discrete}
use Rattle.basics.specs.Bools.{cond_elim}

unfoldable pub numbers : ℕ → List ℕ
numbers zero = []
numbers (suc n) = n ∷ numbers n

pub numbers_of : (n k : ℕ) → k < n → Memᴰ k (numbers n)
unfolding numbers
numbers_of zero k h = absurd (omega arith)
numbers_of (suc n) k h = at (ℕ_discrete k n) (numbers_of n k)
  where
    at : Dec (k ≡ n) → (k < n → Memᴰ k (numbers n)) → Memᴰ k (n ∷ numbers n)
    at (yes e) below = Memᴰ.head e
    at (no d) below = Memᴰ.tail (below (omega arith))

pub numbers_to : (n : ℕ) {k : ℕ} → Memᴰ k (numbers n) → k < n
unfolding numbers
numbers_to zero m = absurd (Memᴰ.not-nil m)
numbers_to (suc n) {k} m = at (numbers_to n) (Memᴰ.cases_cons m)
  where
    at : (Memᴰ k (numbers n) → k < n) → (k ≡ n) ⊎ Memᴰ k (numbers n) → k < suc n
    at below (inl e) = omega arith
    at below (inr j) = let h = below j in omega arith

module _ {B A : Type 0} where
  -- the `let` keeps the rest from being computed twice
  unfoldable pub chosen : (B → Bool) → (B → A) → List B → List A
  chosen p f [] = []
  chosen p f (x ∷ l) = let rest = chosen p f l in cond (p x) (f x ∷ rest) rest

  pub chosen_of : (p : B → Bool) (f : B → A) {x : B} {l : List B} → Memᴰ x l → p x ≡ true → Memᴰ (f x) (chosen p f l)
  unfolding chosen
  chosen_of p f {x} (Memᴰ.head {x = y} {xs = l} d) h =
      subst (λ (b : Bool). Memᴰ (f x) (cond b (f y ∷ chosen p f l) (chosen p f l))) (sym (subst (λ (z : B). p z ≡ true) d h)) (Memᴰ.head (ap f d))
  chosen_of p f {x} (Memᴰ.tail {x = y} {xs = l} m) h = at (p y) (chosen_of p f m h)
    where
      at : (b : Bool) → Memᴰ (f x) (chosen p f l) → Memᴰ (f x) (cond b (f y ∷ chosen p f l) (chosen p f l))
      at true r = Memᴰ.tail r
      at false r = r

  pub chosen_to : (p : B → Bool) (f : B → A) {a : A} (l : List B) → Memᴰ a (chosen p f l) → (x : B) × Memᴰ x l × (p x ≡ true) × (f x ≡ a)
  unfolding chosen
  chosen_to p f [] m = absurd (Memᴰ.not-nil m)
  chosen_to p f {a} (y ∷ l) m =
      let on = chosen_to p f l in
      cond_elim (λ (k : List A). Memᴰ a k → Chosen (y ∷ l)) (p y) (f y ∷ chosen p f l) (chosen p f l) (λ t k. at t on (Memᴰ.cases_cons k)) (λ z k. raise (on k)) m
    where
      Chosen : List B → Type 0
      Chosen k = (x : B) × Memᴰ x k × (p x ≡ true) × (f x ≡ a)

      raise : Chosen l → Chosen (y ∷ l)
      raise (x, j, t, e) = (x, Memᴰ.tail j, t, e)

      at : p y ≡ true → (Memᴰ a (chosen p f l) → Chosen l) → (a ≡ f y) ⊎ Memᴰ a (chosen p f l) → Chosen (y ∷ l)
      at t on (inl e) = (y, Memᴰ.head refl, t, sym e)
      at t on (inr k) = raise (on k)
