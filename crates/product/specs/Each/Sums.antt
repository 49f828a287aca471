-- Sums over a range. Generic.
--
-- sum_same, sum_none   == equal terms make equal sums; terms 0 make 0
-- sum_last             == the last term taken off
-- sum_plus, sum_times  == a sum of sums, and of multiples
-- sum_const            == n times the same term
-- sum_swap             == the order of two sums does not matter
-- sum_pick             == the one term at a
use Rattle.std.specs.Prelude.{ℕ, zero, suc, ◌+◌, ◌*◌, ◌≤◌, ◌<◌, ◌≡◌, refl, cond, eqb}
use Rattle.std.proofs.Common.{sym, ap, ◌∙◌, arith, add-zero, suc-mul, add-mul, zero-mul, eq-eqb, ne_eqb}
use Rattle.std.proofs.Math.Decide.{ℕ_discrete}
use Rattle.basics.specs.Search.Loops.{first, second}
use Rattle.product.specs.Each.{sum_over}

pub sum_same : (i n : ℕ) (f g : ℕ → ℕ) → ((k : ℕ) → i ≤ k → k < i + n → f k ≡ g k) → sum_over i n f ≡ sum_over i n g
unfolding sum_over
sum_same i zero f g h = refl
sum_same i (suc n) f g h =
    let here = h i (omega arith) (omega arith) in
    let there = sum_same (suc i) n f g (λ k a b. h k (omega arith) (omega arith)) in
    omega arith

pub sum_none : (i n : ℕ) (f : ℕ → ℕ) → ((k : ℕ) → i ≤ k → k < i + n → f k ≡ 0) → sum_over i n f ≡ 0
unfolding sum_over
sum_none i zero f h = refl
sum_none i (suc n) f h =
    let here = h i (omega arith) (omega arith) in
    let there = sum_none (suc i) n f (λ k a b. h k (omega arith) (omega arith)) in
    omega arith

pub sum_last : (i n : ℕ) (f : ℕ → ℕ) → sum_over i (suc n) f ≡ sum_over i n f + f (i + n)
unfolding sum_over
sum_last i zero f = let at = ap f (add-zero i) in omega arith
sum_last i (suc n) f =
    let there = sum_last (suc i) n f in
    let index : suc i + n ≡ i + suc n = omega arith in
    let at = ap f index in
    omega arith

pub sum_plus : (i n : ℕ) (f g : ℕ → ℕ) → sum_over i n (λ k. f k + g k) ≡ sum_over i n f + sum_over i n g
unfolding sum_over
sum_plus i zero f g = refl
sum_plus i (suc n) f g = let there = sum_plus (suc i) n f g in omega arith

pub sum_times : (i n : ℕ) (f : ℕ → ℕ) (c : ℕ) → sum_over i n (λ k. f k * c) ≡ sum_over i n f * c
unfolding sum_over
sum_times i zero f c = sym (zero-mul c)
sum_times i (suc n) f c = let there = sum_times (suc i) n f c in let both = add-mul (f i) (sum_over (suc i) n f) c in omega arith

pub sum_const : (i n v : ℕ) → sum_over i n (λ k. v) ≡ n * v
unfolding sum_over
sum_const i zero v = sym (zero-mul v)
sum_const i (suc n) v = let there = sum_const (suc i) n v in let more = suc-mul n v in omega arith

pub sum_swap : (i n j m : ℕ) (f : ℕ → ℕ → ℕ) → sum_over i n (λ k. sum_over j m (λ l. f k l)) ≡ sum_over j m (λ l. sum_over i n (λ k. f k l))
unfolding sum_over
sum_swap i zero j m f = sym (sum_none j m (λ l. 0) (λ k a b. refl))
sum_swap i (suc n) j m f =
    ap (λ (z : ℕ). sum_over j m (f i) + z) (sum_swap (suc i) n j m f)
    ∙ sym (sum_plus j m (f i) (λ l. sum_over (suc i) n (λ k. f k l)))

pub sum_pick : (i n a : ℕ) (g : ℕ → ℕ) → i ≤ a → a < i + n → sum_over i n (λ k. cond (eqb a k) (g k) 0) ≡ g a
unfolding sum_over
sum_pick i zero a g low high = absurd (omega arith)
sum_pick i (suc n) a g low high = at (ℕ_discrete a i) (sum_pick (suc i) n a g)
  where
    at : Dec (a ≡ i) → (suc i ≤ a → a < suc i + n → sum_over (suc i) n (λ k. cond (eqb a k) (g k) 0) ≡ g a)
        → cond (eqb a i) (g i) 0 + sum_over (suc i) n (λ k. cond (eqb a k) (g k) 0) ≡ g a
    at (yes e) on =
        let here : g i ≡ cond (eqb a i) (g i) 0 = first 0 (eq-eqb a i e) refl in
        let rest = sum_none (suc i) n (λ k. cond (eqb a k) (g k) 0) (λ k l u. sym (second (g k) (ne_eqb a k (λ (z : a ≡ k). omega arith)) refl)) in
        let same = ap g e in
        omega arith
    at (no d) on =
        let here : 0 ≡ cond (eqb a i) (g i) 0 = second (g i) (ne_eqb a i d) refl in
        let rest = on (omega arith) (omega arith) in
        omega arith
