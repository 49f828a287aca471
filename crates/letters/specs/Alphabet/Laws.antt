-- The laws of the record of letters.
--
-- letter_in_lem          == the letter of a byte value stands at its place
-- letters_at_lem, letters_list == the letter of each byte in a list of all, and the list by them
-- largest_more, lettered_more == one number more
-- largest_bound      == each of the numbers is at most the largest
-- largest_below      == what each is at most, the largest is at most
-- largest_one        == the largest is 0, or one of the numbers
-- largest_same, gapless_same, lettered_same == by the numbers alone
-- gapless_true       == without a gap: each number from 1 to the largest is one of them
-- gapless_few        == numbers without a gap are at least as many as the largest says
use Prim.Native.Nat.{ℕ, zero, suc, ◌+◌, ◌<◌, ◌≤◌}
use Rattle.std.specs.Prelude.{◌≡◌, ◌⊎◌, ◌↔◌, Bool, length, get_or, leb}
use Rattle.std.proofs.Math.Path.{refl, ap}
use Rattle.std.proofs.Common.{sym, ◌∙◌, subst, add-one, ext_get_or}
use Rattle.std.proofs.Math.Logic.{inl, inr}
use mathlib.Core.List.Memᴰ
use mathlib.Core.List.{List, [], ◌∷◌, ◌++◌, append-nil, Memᴰ}
use Rattle.std.proofs.Math.Bool.{true, false, cond}
use native.Mathlib.Omega.{arith}
use Rattle.std.proofs.Math.Dec.{eqb}
use borrow.Author.Tests.{leb-true, leb-false, lt-ltb, eqb-true, eqb-false, eq-eqb}
use Rattle.basics.specs.Bools.{same_truth}
use Rattle.basics.specs.Search.{any_below, AllBelow, none, more}
use Rattle.basics.specs.Search.Laws.{true_or_false, any_below_true, all_below_true}
use Rattle.basics.specs.Each.{each_below}
use Rattle.basics.specs.Each.Laws.{each_length, each_elem}
use Rattle.basics.specs.Counting.{Distinct, empty, new, counting}
use Rattle.letters.specs.Alphabet.{byte_values, letter_in, largest_of, gapless, lettered}

pub letter_in_lem : (l : List ℕ) (v : ℕ) → v < byte_values → letter_in l v ≡ get_or l v 0
letter_in_lem l v h = ap (λ (z : Bool). cond z (get_or l v 0) 0) (lt-ltb v byte_values h)

-- the letter of each byte in a list of all, and the list by them
pub letters_at_lem : (f : ℕ → ℕ) (v : ℕ) → v < byte_values → get_or (each_below byte_values (λ v. f v ∷ [])) v 0 ≡ f v
letters_at_lem f v h =
    ap (λ (l : List ℕ). get_or l v 0) (sym (append-nil (each_below byte_values (λ v. f v ∷ []))))
    ∙ (ap (λ (k : ℕ). get_or (each_below byte_values (λ v. f v ∷ []) ++ []) k 0) (omega arith) ∙ each_elem 1 (λ v. f v ∷ []) (λ k. refl) byte_values v 0 [] h (omega arith))

pub letters_list : (l : List ℕ) (f : ℕ → ℕ) → length l ≡ byte_values → ((v : ℕ) → v < byte_values → get_or l v 0 ≡ f v) → l ≡ each_below byte_values (λ v. f v ∷ [])
letters_list l f long h =
    ext_get_or 0 l (each_below byte_values (λ v. f v ∷ [])) (long ∙ sym many) (λ i lt. h i (omega (arith, lt, long)) ∙ sym (letters_at_lem f i (omega (arith, lt, long))))
  where
    many : length (each_below byte_values (λ v. f v ∷ [])) ≡ byte_values
    many = each_length 1 (λ v. f v ∷ []) (λ k. refl) byte_values

-- One number more

pub largest_more : (f : ℕ → ℕ) (n m r : ℕ) → m ≡ largest_of n f → r ≡ cond (leb m (f n)) (f n) m → r ≡ largest_of (n + 1) f
unfolding largest_of
largest_more f n m r e is =
    is ∙ (ap (λ (z : ℕ). cond (leb z (f n)) (f n) z) e ∙ ap (λ (k : ℕ). largest_of k f) (sym (add-one n)))

pub lettered_more : (f : ℕ → ℕ) (n m r : ℕ) → m ≡ lettered n f → r ≡ cond (eqb (f n) 0) m (suc m) → r ≡ lettered (n + 1) f
unfolding lettered
lettered_more f n m r e is =
    is ∙ (ap (λ (z : ℕ). cond (eqb (f n) 0) z (suc z)) e ∙ ap (λ (k : ℕ). lettered k f) (sym (add-one n)))

pub lettered_small : (f : ℕ → ℕ) (n : ℕ) → lettered n f ≤ n
unfolding lettered
lettered_small f zero = omega arith
lettered_small f (suc n) = at (eqb (f n) 0) (lettered_small f n)
  where
    at : (b : Bool) → lettered n f ≤ n → cond b (lettered n f) (suc (lettered n f)) ≤ suc n
    at true h = omega arith
    at false h = omega arith

-- The largest

module _ (f : ℕ → ℕ) where
  larger_of : (m x : ℕ) → (m ≤ cond (leb m x) x m) × (x ≤ cond (leb m x) x m)
  larger_of m x = at (true_or_false (leb m x))
    where
      at : (leb m x ≡ true) ⊎ (leb m x ≡ false) → (m ≤ cond (leb m x) x m) × (x ≤ cond (leb m x) x m)
      at (inl t) = rw t (leb-true m x t, omega arith)
      at (inr t) = rw t (omega arith, (let h = leb-false m x t in omega arith))

  pub largest_bound : (n i : ℕ) → i < n → f i ≤ largest_of n f
  unfolding largest_of
  largest_bound zero i h = absurd (omega arith)
  largest_bound (suc n) i h = at (true_or_false (eqb i n)) (largest_bound n i) (larger_of (largest_of n f) (f n))
    where
      apart : (j m : ℕ) → j < suc m → eqb j m ≡ false → j < m
      apart j m l t = let d = eqb-false j m t in omega arith

      at : (eqb i n ≡ true) ⊎ (eqb i n ≡ false) → (i < n → f i ≤ largest_of n f)
          → (largest_of n f ≤ cond (leb (largest_of n f) (f n)) (f n) (largest_of n f)) × (f n ≤ cond (leb (largest_of n f) (f n)) (f n) (largest_of n f))
          → f i ≤ cond (leb (largest_of n f) (f n)) (f n) (largest_of n f)
      at (inl t) below (a, b) = subst (λ (k : ℕ). f k ≤ cond (leb (largest_of n f) (f n)) (f n) (largest_of n f)) (sym (eqb-true i n t)) b
      at (inr t) below (a, b) = let g = below (apart i n h t) in omega arith

  pub largest_below : (n m : ℕ) → ((i : ℕ) → i < n → f i ≤ m) → largest_of n f ≤ m
  unfolding largest_of
  largest_below zero m h = omega arith
  largest_below (suc n) m h = at (leb (largest_of n f) (f n)) (h n (omega arith)) (largest_below n m (λ i l. h i (omega arith)))
    where
      at : (b : Bool) → f n ≤ m → largest_of n f ≤ m → cond b (f n) (largest_of n f) ≤ m
      at true a b = a
      at false a b = b

  pub largest_one : (n : ℕ) → (largest_of n f ≡ 0) ⊎ ((i : ℕ) × (i < n) × (largest_of n f ≡ f i))
  unfolding largest_of
  largest_one zero = inl refl
  largest_one (suc n) = at (true_or_false (leb (largest_of n f) (f n))) (largest_one n)
    where
      at : (leb (largest_of n f) (f n) ≡ true) ⊎ (leb (largest_of n f) (f n) ≡ false)
          → (largest_of n f ≡ 0) ⊎ ((i : ℕ) × (i < n) × (largest_of n f ≡ f i))
          → (largest_of (suc n) f ≡ 0) ⊎ ((i : ℕ) × (i < suc n) × (largest_of (suc n) f ≡ f i))
      at (inl t) below = inr (n, omega arith, ap (λ (z : Bool). cond z (f n) (largest_of n f)) t)
      at (inr t) (inl e) = inl (ap (λ (z : Bool). cond z (f n) (largest_of n f)) t ∙ e)
      at (inr t) (inr (i, l, e)) = inr (i, omega arith, ap (λ (z : Bool). cond z (f n) (largest_of n f)) t ∙ e)

-- By the numbers alone

module _ (f g : ℕ → ℕ) where
  pub largest_same : (n : ℕ) → ((i : ℕ) → i < n → f i ≡ g i) → largest_of n f ≡ largest_of n g
  unfolding largest_of
  largest_same zero h = refl
  largest_same (suc n) h =
      ap (λ (z : ℕ). cond (leb z (f n)) (f n) z) (largest_same n (λ i l. h i (omega arith)))
      ∙ ap (λ (y : ℕ). cond (leb (largest_of n g) y) y (largest_of n g)) (h n (omega arith))

  pub lettered_same : (n : ℕ) → ((i : ℕ) → i < n → f i ≡ g i) → lettered n f ≡ lettered n g
  unfolding lettered
  lettered_same zero h = refl
  lettered_same (suc n) h =
      ap (λ (z : ℕ). cond (eqb (f n) 0) z (suc z)) (lettered_same n (λ i l. h i (omega arith)))
      ∙ ap (λ (y : ℕ). cond (eqb y 0) (lettered n g) (suc (lettered n g))) (h n (omega arith))

-- Gaps

unfoldable pub Gapless : ℕ → (ℕ → ℕ) → Type 0
Gapless n f = (k : ℕ) → k < largest_of n f → (i : ℕ) × (i < n) × (f i ≡ suc k)

pub gapless_true : (n : ℕ) (f : ℕ → ℕ) → (gapless n f ≡ true) ↔ Gapless n f
unfolding gapless Gapless
gapless_true n f = (
  λ e k l. let (i, h, t) = (any_below_true (λ i. eqb (f i) (suc k)) n).0 ((all_below_true (λ k. any_below n (λ i. eqb (f i) (suc k))) (largest_of n f)).0 e k l) in (i, h, eqb-true _ _ t),
  λ h. (all_below_true (λ k. any_below n (λ i. eqb (f i) (suc k))) (largest_of n f)).1
      (λ k l. let (i, b, e) = h k l in (any_below_true (λ i. eqb (f i) (suc k)) n).1 (i, b, eq-eqb _ _ e)),
)

-- numbers f 0, .., f (n - 1) and g 0, .., g (m - 1) with the same largest and each number above 0 of either among the other
pub gapless_both : (n m : ℕ) (f g : ℕ → ℕ) → largest_of n f ≡ largest_of m g
    → ((i : ℕ) → i < n → 0 < f i → (j : ℕ) × (j < m) × (g j ≡ f i))
    → ((j : ℕ) → j < m → 0 < g j → (i : ℕ) × (i < n) × (f i ≡ g j))
    → gapless n f ≡ gapless m g
unfolding Gapless
gapless_both n m f g same to from =
    same_truth (gapless n f) (gapless m g)
    (λ t. (gapless_true m g).1
    (λ k l. let (i, h, e) = (gapless_true n f).0 t k (subst (λ (z : ℕ). k < z) (sym same) l) in let (j, b, q) = to i h (omega arith) in (j, b, q ∙ e)))
    (λ t. (gapless_true n f).1
    (λ k l. let (j, h, e) = (gapless_true m g).0 t k (subst (λ (z : ℕ). k < z) same l) in let (i, b, q) = from j h (omega arith) in (i, b, q ∙ e)))

pub gapless_same : (f g : ℕ → ℕ) (n : ℕ) → ((i : ℕ) → i < n → f i ≡ g i) → gapless n f ≡ gapless n g
gapless_same f g n h =
    gapless_both n n f g (largest_same f g n h) (λ i l p. (i, l, sym (h i l))) (λ i l p. (i, l, h i l))

-- the places of the numbers k, .., 1, each below n
module _ (n : ℕ) (f : ℕ → ℕ) (found : Gapless n f) where
  record Places (k : ℕ) : Type 0 where
    places : List ℕ
    long : length places ≡ k
    distinct : Distinct places
    below : AllBelow n places
    small : (i : ℕ) → Memᴰ i places → f i ≤ k

  places_to : (k : ℕ) → k ≤ largest_of n f → Places k
  unfolding Gapless
  places_to zero h = record { places = []; long = refl; distinct = empty; below = none; small = λ i m. absurd (Memᴰ.not-nil m) }
  places_to (suc k) h =
      let p = places_to k (omega arith) in
      let (i, l, e) = found k h in
      record {
        places = i ∷ p.places;
        long = ap suc p.long;
        distinct = new (λ m. let s = p.small i m in omega arith) p.distinct;
        below = more {x = i} l p.below;
        small = λ j m. among k i j e p.places p.small (Memᴰ.cases_cons m);
      }
    where
      among : (k i j : ℕ) → f i ≡ suc k → (ps : List ℕ) → ((x : ℕ) → Memᴰ x ps → f x ≤ k) → (j ≡ i) ⊎ Memᴰ j ps → f j ≤ suc k
      among k i j e ps s (inl q) = let z : f j ≡ f i = ap f q in omega arith
      among k i j e ps s (inr m) = let z = s j m in omega arith

  pub gapless_few : largest_of n f ≤ n
  gapless_few =
      let p = places_to (largest_of n f) (omega arith) in
      let h = counting n p.places p.distinct p.below in
      let l = p.long in
      omega arith
