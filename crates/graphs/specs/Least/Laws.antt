-- The laws of specs/Least.antt. Assumes nothing.
--
-- least_bound          == it is at most the bound
-- least_has            == where it is below the bound it has the property
-- least_first          == no number below it has the property
use Rattle.std.specs.Prelude.{◌≡◌, ◌⊎◌, Bool, true, false, cond, ℕ, zero, suc, ◌≤◌, ◌<◌}
use Rattle.std.proofs.Common.{inl, inr, arith}
use Rattle.basics.specs.Search.Laws.{true_or_false, not_both}
use Rattle.graphs.specs.Least.{least_below}

pub least_bound : (n : ℕ) (p : ℕ → Bool) → least_below n p ≤ n
unfolding least_below
least_bound zero p = omega arith
least_bound (suc n) p = at (true_or_false (p zero)) (least_bound n (λ k. p (suc k)))
  where
    at : (p zero ≡ true) ⊎ (p zero ≡ false) → least_below n (λ k. p (suc k)) ≤ n → cond (p zero) zero (suc (least_below n (λ k. p (suc k)))) ≤ suc n
    at (inl t) l = rw t (omega arith)
    at (inr f) l = rw f (omega arith)

pub least_has : (n : ℕ) (p : ℕ → Bool) → least_below n p < n → p (least_below n p) ≡ true
unfolding least_below
least_has zero p h = absurd (omega arith)
least_has (suc n) p h = at (true_or_false (p zero)) (least_has n (λ k. p (suc k))) h
  where
    at : (p zero ≡ true) ⊎ (p zero ≡ false) → (least_below n (λ k. p (suc k)) < n → p (suc (least_below n (λ k. p (suc k)))) ≡ true)
        → cond (p zero) zero (suc (least_below n (λ k. p (suc k)))) < suc n → p (cond (p zero) zero (suc (least_below n (λ k. p (suc k))))) ≡ true
    at (inl t) rest = rw t (λ l. t)
    at (inr f) rest = rw f (λ (l : suc (least_below n (λ k. p (suc k))) < suc n). rest (omega arith))

pub least_first : (n : ℕ) (p : ℕ → Bool) (k : ℕ) → p k ≡ true → k < n → least_below n p ≤ k
unfolding least_below
least_first zero p k h l = absurd (omega arith)
least_first (suc n) p k h l = at (true_or_false (p zero)) k h l (least_first n (λ k. p (suc k)))
  where
    at : (p zero ≡ true) ⊎ (p zero ≡ false) → (k : ℕ) → p k ≡ true → k < suc n → ((k : ℕ) → p (suc k) ≡ true → k < n → least_below n (λ k. p (suc k)) ≤ k)
        → cond (p zero) zero (suc (least_below n (λ k. p (suc k)))) ≤ k
    at (inl t) k h l rest = rw t (omega arith)
    at (inr f) zero h l rest = absurd (not_both h f)
    at (inr f) (suc k) h l rest = rw f (let z = rest k h (omega arith) in omega arith)
