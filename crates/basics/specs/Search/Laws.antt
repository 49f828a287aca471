-- The laws of specs/Search.antt: what `≡ true` and `≡ false` say of each test. Assumes nothing.
--
-- or_true, or_false, and_true, and_false          == what a Bool `||`, `&&` that is true, false says of its parts
-- or_true_left, or_true_right, or_both_false,
-- and_both_true, and_false_left, and_false_right  == the way back
-- true_or_false b                                 == b is true or false, as a sum
-- not_both                                        == no Bool is both
-- any_below_true, any_below_false                   == some k < n has p; every k < n fails p
-- all_below_true, all_below_false                   == every k < n has p; some k < n fails p
-- any_in_true, any_in_false, all_in_true, all_in_false == the same for the elements of a list (List.Memᴰ)
-- all_in_at                                        == every element that has an index has p
-- AllBelow-head, AllBelow-tail                    == the parts of AllBelow
-- exists_list_true                                 == some such list has p
use Rattle.std.specs.Prelude.{◌≡◌, ◌↔◌, ◌⊎◌, Bool, ◌||◌, ◌&&◌, length, get_or}
use Rattle.std.proofs.Math.Path.{refl}
use Rattle.std.proofs.Common.{sym, ◌∙◌, inl, inr, true≢false}
use Rattle.std.proofs.Math.Bool.{true, false}
use Rattle.std.proofs.lemmas.Bool.{false≢true}
use mathlib.Core.List.{List, [], ◌∷◌, Memᴰ}
use Prim.Native.Nat.{ℕ, zero, suc, ◌<◌, ◌≤◌}
use native.Mathlib.Omega.{arith}
use Rattle.std.proofs.Math.Decide.{ℕ_discrete}
use Rattle.basics.specs.Search.{any_below, all_below, any_in, all_in, AllBelow, none, more, exists_list}

-- Bools

pub true_or_false : (b : Bool) → (b ≡ true) ⊎ (b ≡ false)
true_or_false true = inl refl
true_or_false false = inr refl

pub not_both : {b : Bool} → b ≡ true → b ≡ false → ⊥
not_both t f = true≢false (sym t ∙ f)

pub or_true : (a b : Bool) → (a || b) ≡ true → (a ≡ true) ⊎ (b ≡ true)
or_true true b e = inl refl
or_true false b e = inr e

pub or_true_left : (a b : Bool) → a ≡ true → (a || b) ≡ true
or_true_left true b e = refl
or_true_left false b e = absurd (false≢true e)

pub or_true_right : (a b : Bool) → b ≡ true → (a || b) ≡ true
or_true_right true b e = refl
or_true_right false b e = e

pub or_false : (a b : Bool) → (a || b) ≡ false → (a ≡ false) × (b ≡ false)
or_false true b e = absurd (true≢false e)
or_false false b e = (refl, e)

pub or_both_false : (a b : Bool) → a ≡ false → b ≡ false → (a || b) ≡ false
or_both_false true b e f = absurd (true≢false e)
or_both_false false b e f = f

pub and_true : (a b : Bool) → (a && b) ≡ true → (a ≡ true) × (b ≡ true)
and_true true b e = (refl, e)
and_true false b e = absurd (false≢true e)

pub and_both_true : (a b : Bool) → a ≡ true → b ≡ true → (a && b) ≡ true
and_both_true true b e f = f
and_both_true false b e f = absurd (false≢true e)

pub and_false : (a b : Bool) → (a && b) ≡ false → (a ≡ false) ⊎ (b ≡ false)
and_false true b e = inr e
and_false false b e = inl refl

pub and_false_left : (a b : Bool) → a ≡ false → (a && b) ≡ false
and_false_left true b e = absurd (true≢false e)
and_false_left false b e = refl

pub and_false_right : (a b : Bool) → b ≡ false → (a && b) ≡ false
and_false_right true b e = e
and_false_right false b e = refl

-- Numbers below a bound

-- below suc n: n itself, or below n
below_cases : {n k : ℕ} → k < suc n → (k ≡ n) ⊎ (k < n)
below_cases {n} {k} h = at (ℕ_discrete k n)
  where
    at : Dec (k ≡ n) → (k ≡ n) ⊎ (k < n)
    at (yes e) = inl e
    at (no d) = inr (omega arith)

module _ (p : ℕ → Bool) where
  any_below_to : (n : ℕ) → any_below n p ≡ true → (k : ℕ) × (k < n) × (p k ≡ true)
  unfolding any_below
  any_below_to zero e = absurd (false≢true e)
  any_below_to (suc n) e = at (or_true (p n) (any_below n p) e) (any_below_to n)
    where
      at : (p n ≡ true) ⊎ (any_below n p ≡ true) → (any_below n p ≡ true → (k : ℕ) × (k < n) × (p k ≡ true)) → (k : ℕ) × (k < suc n) × (p k ≡ true)
      at (inl t) below = (n, omega arith, t)
      at (inr t) below = let (k, h, pk) = below t in (k, omega arith, pk)

  any_below_of : (n k : ℕ) → k < n → p k ≡ true → any_below n p ≡ true
  unfolding any_below
  any_below_of zero k h e = absurd (omega arith)
  any_below_of (suc n) k h e = at (below_cases h) (any_below_of n k)
    where
      at : (k ≡ n) ⊎ (k < n) → (k < n → p k ≡ true → any_below n p ≡ true) → (p n || any_below n p) ≡ true
      at (inl d) below = or_true_left (p n) (any_below n p) (rw d at e)
      at (inr l) below = or_true_right (p n) (any_below n p) (below l e)

  all_below_to : (n : ℕ) → all_below n p ≡ true → (k : ℕ) → k < n → p k ≡ true
  unfolding all_below
  all_below_to zero e k h = absurd (omega arith)
  all_below_to (suc n) e k h = at (below_cases h) (all_below_to n (and_true (p n) (all_below n p) e).1 k)
    where
      at : (k ≡ n) ⊎ (k < n) → (k < n → p k ≡ true) → p k ≡ true
      at (inl d) below = rw d (and_true (p n) (all_below n p) e).0
      at (inr l) below = below l

  all_below_of : (n : ℕ) → ((k : ℕ) → k < n → p k ≡ true) → all_below n p ≡ true
  unfolding all_below
  all_below_of zero h = refl
  all_below_of (suc n) h = and_both_true (p n) (all_below n p) (h n (omega arith)) (all_below_of n (λ k l. h k (omega arith)))

  any_below_none : (n : ℕ) → ((k : ℕ) → k < n → p k ≡ false) → any_below n p ≡ false
  unfolding any_below
  any_below_none zero h = refl
  any_below_none (suc n) h = or_both_false (p n) (any_below n p) (h n (omega arith)) (any_below_none n (λ k l. h k (omega arith)))

  all_below_fails : (n : ℕ) → all_below n p ≡ false → (k : ℕ) × (k < n) × (p k ≡ false)
  unfolding all_below
  all_below_fails zero e = absurd (true≢false e)
  all_below_fails (suc n) e = at (and_false (p n) (all_below n p) e) (all_below_fails n)
    where
      at : (p n ≡ false) ⊎ (all_below n p ≡ false) → (all_below n p ≡ false → (k : ℕ) × (k < n) × (p k ≡ false)) → (k : ℕ) × (k < suc n) × (p k ≡ false)
      at (inl t) below = (n, omega arith, t)
      at (inr t) below = let (k, h, pk) = below t in (k, omega arith, pk)

  pub any_below_true : (n : ℕ) → (any_below n p ≡ true) ↔ ((k : ℕ) × (k < n) × (p k ≡ true))
  any_below_true n = (any_below_to n, λ s. any_below_of n s.0 s.1 s.2)

  pub any_below_false : (n : ℕ) → (any_below n p ≡ false) ↔ ((k : ℕ) → k < n → p k ≡ false)
  any_below_false n = (each, any_below_none n)
    where
      each : any_below n p ≡ false → (k : ℕ) → k < n → p k ≡ false
      each e k h = at (true_or_false (p k))
        where
          at : (p k ≡ true) ⊎ (p k ≡ false) → p k ≡ false
          at (inl t) = absurd (not_both (any_below_of n k h t) e)
          at (inr f) = f

  pub all_below_true : (n : ℕ) → (all_below n p ≡ true) ↔ ((k : ℕ) → k < n → p k ≡ true)
  all_below_true n = (all_below_to n, all_below_of n)

  pub all_below_false : (n : ℕ) → (all_below n p ≡ false) ↔ ((k : ℕ) × (k < n) × (p k ≡ false))
  all_below_false n = (all_below_fails n, λ s. back s (true_or_false (all_below n p)))
    where
      back : (k : ℕ) × (k < n) × (p k ≡ false) → (all_below n p ≡ true) ⊎ (all_below n p ≡ false) → all_below n p ≡ false
      back s (inl t) = absurd (not_both (all_below_to n t s.0 s.1) s.2)
      back s (inr f) = f

-- Elements of a list

module _ {A : Type 0} (p : A → Bool) where
  any_in_to : (l : List A) → any_in p l ≡ true → (x : A) × Memᴰ x l × (p x ≡ true)
  unfolding any_in
  any_in_to [] e = absurd (false≢true e)
  any_in_to (y ∷ l) e = at (or_true (p y) (any_in p l) e) (any_in_to l)
    where
      at : (p y ≡ true) ⊎ (any_in p l ≡ true) → (any_in p l ≡ true → (x : A) × Memᴰ x l × (p x ≡ true)) → (x : A) × Memᴰ x (y ∷ l) × (p x ≡ true)
      at (inl t) below = (y, Memᴰ.head refl, t)
      at (inr t) below = let (x, m, px) = below t in (x, Memᴰ.tail m, px)

  any_in_of : {x : A} (l : List A) → Memᴰ x l → p x ≡ true → any_in p l ≡ true
  unfolding any_in
  any_in_of l (Memᴰ.head {x = y} {xs = r} d) e = or_true_left (p y) (any_in p r) (rw d at e)
  any_in_of l (Memᴰ.tail {x = y} {xs = r} m) e = or_true_right (p y) (any_in p r) (any_in_of r m e)

  all_in_to : {x : A} (l : List A) → all_in p l ≡ true → Memᴰ x l → p x ≡ true
  unfolding all_in
  all_in_to l e (Memᴰ.head {x = y} {xs = r} d) = rw d (and_true (p y) (all_in p r) e).0
  all_in_to l e (Memᴰ.tail {x = y} {xs = r} m) = all_in_to r (and_true (p y) (all_in p r) e).1 m

  all_in_of : (l : List A) → ((x : A) → Memᴰ x l → p x ≡ true) → all_in p l ≡ true
  unfolding all_in
  all_in_of [] h = refl
  all_in_of (y ∷ l) h = and_both_true (p y) (all_in p l) (h y (Memᴰ.head refl)) (all_in_of l (λ x m. h x (Memᴰ.tail m)))

  pub all_in_at : (l : List A) → all_in p l ≡ true → (i : ℕ) (d : A) → i < length l → p (get_or l i d) ≡ true
  unfolding all_in
  all_in_at [] e i d h = absurd (omega arith)
  all_in_at (y ∷ l) e zero d h = (and_true (p y) (all_in p l) e).0
  all_in_at (y ∷ l) e (suc i) d h = all_in_at l (and_true (p y) (all_in p l) e).1 i d (omega arith)

  any_in_none : (l : List A) → ((x : A) → Memᴰ x l → p x ≡ false) → any_in p l ≡ false
  unfolding any_in
  any_in_none [] h = refl
  any_in_none (y ∷ l) h = or_both_false (p y) (any_in p l) (h y (Memᴰ.head refl)) (any_in_none l (λ x m. h x (Memᴰ.tail m)))

  all_in_fails : (l : List A) → all_in p l ≡ false → (x : A) × Memᴰ x l × (p x ≡ false)
  unfolding all_in
  all_in_fails [] e = absurd (true≢false e)
  all_in_fails (y ∷ l) e = at (and_false (p y) (all_in p l) e) (all_in_fails l)
    where
      at : (p y ≡ false) ⊎ (all_in p l ≡ false) → (all_in p l ≡ false → (x : A) × Memᴰ x l × (p x ≡ false)) → (x : A) × Memᴰ x (y ∷ l) × (p x ≡ false)
      at (inl t) below = (y, Memᴰ.head refl, t)
      at (inr t) below = let (x, m, px) = below t in (x, Memᴰ.tail m, px)

  pub any_in_true : (l : List A) → (any_in p l ≡ true) ↔ ((x : A) × Memᴰ x l × (p x ≡ true))
  any_in_true l = (any_in_to l, λ s. any_in_of l s.1 s.2)

  pub any_in_false : (l : List A) → (any_in p l ≡ false) ↔ ((x : A) → Memᴰ x l → p x ≡ false)
  any_in_false l = (each, any_in_none l)
    where
      each : any_in p l ≡ false → (x : A) → Memᴰ x l → p x ≡ false
      each e x m = at (true_or_false (p x))
        where
          at : (p x ≡ true) ⊎ (p x ≡ false) → p x ≡ false
          at (inl t) = absurd (not_both (any_in_of l m t) e)
          at (inr f) = f

  pub all_in_true : (l : List A) → (all_in p l ≡ true) ↔ ((x : A) → Memᴰ x l → p x ≡ true)
  all_in_true l = (λ e x m. all_in_to l e m, all_in_of l)

  pub all_in_false : (l : List A) → (all_in p l ≡ false) ↔ ((x : A) × Memᴰ x l × (p x ≡ false))
  all_in_false l = (all_in_fails l, λ s. back s (true_or_false (all_in p l)))
    where
      back : (x : A) × Memᴰ x l × (p x ≡ false) → (all_in p l ≡ true) ⊎ (all_in p l ≡ false) → all_in p l ≡ false
      back s (inl t) = absurd (not_both (all_in_to l t s.1) s.2)
      back s (inr f) = f

-- Lists of numbers below a bound

pub AllBelow-head : {n x : ℕ} {l : List ℕ} → AllBelow n (x ∷ l) → x < n
AllBelow-head (more h b) = h

pub AllBelow-tail : {n x : ℕ} {l : List ℕ} → AllBelow n (x ∷ l) → AllBelow n l
AllBelow-tail (more h b) = b

module _ (n : ℕ) where
  exists_list_to : (len : ℕ) (p : List ℕ → Bool) → exists_list n len p ≡ true → (l : List ℕ) × (length l ≤ len) × AllBelow n l × (p l ≡ true)
  unfolding exists_list
  exists_list_to zero p e = ([], omega arith, none, e)
  exists_list_to (suc len) p e = at (or_true (p []) _ e) (λ (x : ℕ). exists_list_to len (λ l. p (x ∷ l)))
    where
      at : (p [] ≡ true) ⊎ (any_below n (λ x. exists_list n len (λ l. p (x ∷ l))) ≡ true)
          → ((x : ℕ) → exists_list n len (λ l. p (x ∷ l)) ≡ true → (l : List ℕ) × (length l ≤ len) × AllBelow n l × (p (x ∷ l) ≡ true))
          → (l : List ℕ) × (length l ≤ suc len) × AllBelow n l × (p l ≡ true)
      at (inl t) below = ([], omega arith, none, t)
      at (inr t) below =
          let (x, h, q) = any_below_to (λ x. exists_list n len (λ l. p (x ∷ l))) n t in
          let (l, s, b, pl) = below x q in
          (x ∷ l, omega arith, more h b, pl)

  exists_list_of : (len : ℕ) (p : List ℕ → Bool) (l : List ℕ) → length l ≤ len → AllBelow n l → p l ≡ true → exists_list n len p ≡ true
  unfolding exists_list
  exists_list_of zero p [] s b e = e
  exists_list_of zero p (x ∷ l) s b e = absurd (omega arith)
  exists_list_of (suc len) p [] s b e = or_true_left (p []) _ e
  exists_list_of (suc len) p (x ∷ l) s b e =
      or_true_right (p []) _
      (any_below_of (λ x. exists_list n len (λ l. p (x ∷ l))) n x (AllBelow-head b)
      (exists_list_of len (λ l. p (x ∷ l)) l (omega arith) (AllBelow-tail b) e))

  pub exists_list_true : (len : ℕ) (p : List ℕ → Bool) → (exists_list n len p ≡ true) ↔ ((l : List ℕ) × (length l ≤ len) × AllBelow n l × (p l ≡ true))
  exists_list_true len p = (exists_list_to len p, λ s. exists_list_of len p s.0 s.1 s.2 s.3)
