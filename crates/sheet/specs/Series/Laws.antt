-- The laws of specs/Series.antt, in the form that loops and sheets want.
--
-- or_none, or_fault     == or_else where the first is no fault, where it is one
-- or_zero               == no fault, if and only if neither is one
-- first_at              == the first fault is the one at k, where none stands below k
-- first_next            == no fault below k and none at k: none below k + 1
-- first_zero            == no fault below n, if and only if none at any k < n
use Rattle.std.specs.Prelude.{ℕ, zero, suc, ◌+◌, ◌<◌, ◌≡◌, refl, ◌↔◌}
use Rattle.std.proofs.Common.{sym, ap, ◌∙◌, arith, add-one}
use Rattle.std.proofs.Math.Decide.{ℕ_discrete}
use Rattle.sheet.specs.Series.{or_else, first_of}

-- Faults

pub or_none : (a b : ℕ) → a ≡ 0 → or_else a b ≡ b
unfolding or_else
or_none a b h = ap (λ (z : ℕ). or_else z b) h

pub or_fault : (a b : ℕ) → (a ≡ 0 → ⊥) → or_else a b ≡ a
unfolding or_else
or_fault zero b h = absurd (h refl)
or_fault (suc a) b h = refl

pub or_zero : (a b : ℕ) → (or_else a b ≡ 0) ↔ ((a ≡ 0) × (b ≡ 0))
or_zero a b = (to a, λ h. or_none a b h.0 ∙ h.1)
  where
    to : (x : ℕ) → or_else x b ≡ 0 → (x ≡ 0) × (b ≡ 0)
    to x h = at (ℕ_discrete x 0)
      where
        at : Dec (x ≡ 0) → (x ≡ 0) × (b ≡ 0)
        at (yes e) = (e, sym (or_none x b e) ∙ h)
        at (no n) = absurd (n (sym (or_fault x b n) ∙ h))

pub first_next : (k : ℕ) (f : ℕ → ℕ) → first_of k f ≡ 0 → f k ≡ 0 → first_of (k + 1) f ≡ 0
unfolding first_of
first_next k f h e = ap (λ (n : ℕ). first_of n f) (add-one k) ∙ (or_none (first_of k f) (f k) h ∙ e)

-- the fault v stays the first one
first_stays : (n : ℕ) (f : ℕ → ℕ) (k v : ℕ) → (v ≡ 0 → ⊥) → first_of k f ≡ 0 → f k ≡ v → k < n → first_of n f ≡ v
unfolding first_of
first_stays zero f k v z h e l = absurd (omega arith)
first_stays (suc n) f k v z h e l = at (ℕ_discrete k n) (first_stays n f k v z h e)
  where
    at : Dec (k ≡ n) → (k < n → first_of n f ≡ v) → or_else (first_of n f) (f n) ≡ v
    at (yes d) below = or_none (first_of n f) (f n) (ap (λ (m : ℕ). first_of m f) (sym d) ∙ h) ∙ (ap f (sym d) ∙ e)
    at (no d) below =
        let b : first_of n f ≡ v = below (omega arith) in
        or_fault (first_of n f) (f n) (λ (q : first_of n f ≡ 0). z (sym b ∙ q)) ∙ b

pub first_at : (n : ℕ) (f : ℕ → ℕ) (k v : ℕ) → (v ≡ 0 → ⊥) → first_of k f ≡ 0 → f k ≡ v → k < n → v ≡ first_of n f
first_at n f k v z h e l = sym (first_stays n f k v z h e l)

first_none : (n : ℕ) (f : ℕ → ℕ) → first_of n f ≡ 0 → (k : ℕ) → k < n → f k ≡ 0
unfolding first_of
first_none zero f h k l = absurd (omega arith)
first_none (suc n) f h k l = at (ℕ_discrete k n) (first_none n f ((or_zero (first_of n f) (f n)).0 h).0 k)
  where
    at : Dec (k ≡ n) → (k < n → f k ≡ 0) → f k ≡ 0
    at (yes d) below = ap f d ∙ ((or_zero (first_of n f) (f n)).0 h).1
    at (no d) below = below (omega arith)

first_all : (n : ℕ) (f : ℕ → ℕ) → ((k : ℕ) → k < n → f k ≡ 0) → first_of n f ≡ 0
unfolding first_of
first_all zero f h = refl
first_all (suc n) f h = or_none (first_of n f) (f n) (first_all n f (λ k l. h k (omega arith))) ∙ h n (omega arith)

pub first_zero : (n : ℕ) (f : ℕ → ℕ) → (first_of n f ≡ 0) ↔ ((k : ℕ) → k < n → f k ≡ 0)
first_zero n f = (first_none n f, first_all n f)
