-- Counting: a list of pairwise distinct numbers below n has at most n elements. Assumes nothing.
--
-- Distinct l                     == no number stands twice in the list l
-- Distinct-head, Distinct-tail   == its parts
-- mem? k l                       == k stands in l, or it does not
-- counting                       == a distinct list of numbers below n has at most n elements
use Rattle.std.specs.Prelude.{◌≡◌, ◌⊎◌, ℕ, zero, suc, ◌<◌, ◌≤◌, length}
use Rattle.std.proofs.Common.{inl, inr, arith}
use mathlib.Core.List.Memᴰ
use mathlib.Core.List.{List, [], ◌∷◌, Memᴰ}
use Rattle.std.proofs.Math.Decide.{ℕ_discrete}
use Rattle.basics.specs.Search.{AllBelow, none, more}
use Rattle.basics.specs.Search.Laws.{AllBelow-head, AllBelow-tail}

pub data Distinct : List ℕ → Type 0 where
  empty : Distinct []
  new : {x : ℕ} {l : List ℕ} → ¬ Memᴰ x l → Distinct l → Distinct (x ∷ l)

pub Distinct-tail : {x : ℕ} {l : List ℕ} → Distinct (x ∷ l) → Distinct l
Distinct-tail (new f d) = d

pub Distinct-head : {x : ℕ} {l : List ℕ} → Distinct (x ∷ l) → ¬ Memᴰ x l
Distinct-head (new f d) = f

pub mem? : (k : ℕ) (l : List ℕ) → Dec (Memᴰ k l)
mem? k [] = no Memᴰ.not-nil
mem? k (x ∷ l) = at (ℕ_discrete k x) (mem? k l)
  where
    apart : ¬ (k ≡ x) → ¬ Memᴰ k l → (k ≡ x) ⊎ Memᴰ k l → ⊥
    apart d f (inl e) = d e
    apart d f (inr m) = f m

    at : Dec (k ≡ x) → Dec (Memᴰ k l) → Dec (Memᴰ k (x ∷ l))
    at (yes e) rest = yes (Memᴰ.head e)
    at (no d) (yes m) = yes (Memᴰ.tail m)
    at (no d) (no f) = no (λ m. apart d f (Memᴰ.cases_cons m))

-- a list below suc n without n is below n
lower : {n : ℕ} {l : List ℕ} → AllBelow (suc n) l → ¬ Memᴰ n l → AllBelow n l
lower none f = none
lower {n} (more {x = x} h b) f = more (at (ℕ_discrete n x)) (lower b (λ m. f (Memᴰ.tail m)))
  where
    at : Dec (n ≡ x) → x < n
    at (yes e) = absurd (f (Memᴰ.head e))
    at (no d) = omega arith

-- what is left of l when n is taken out: at most one element less
record Without (n : ℕ) (l : List ℕ) : Type 0 where
  rest : List ℕ
  distinct : Distinct rest
  below : AllBelow n rest
  short : length l ≤ suc (length rest)
  part : (k : ℕ) → Memᴰ k rest → Memᴰ k l

without : {n : ℕ} (l : List ℕ) → Distinct l → AllBelow (suc n) l → Without n l
without [] d b = record { rest = []; distinct = empty; below = none; short = omega arith; part = λ k m. m }
without {n} (x ∷ l) d b = at (ℕ_discrete n x) (without l (Distinct-tail d) (AllBelow-tail b))
  where
    at : Dec (n ≡ x) → Without n l → Without n (x ∷ l)
    at (yes e) w =
        record {
          rest = l;
          distinct = Distinct-tail d;
          below = lower (AllBelow-tail b) (λ m. Distinct-head d (rw e at m));
          short = omega arith;
          part = λ k m. Memᴰ.tail m;
        }
    at (no f) w =
        record {
          rest = x ∷ w.rest;
          distinct = new (λ m. Distinct-head d (w.part x m)) w.distinct;
          below = more {x = x} (let h = AllBelow-head b in omega arith) w.below;
          short = let h = w.short in omega arith;
          part = λ k m. among (Memᴰ.cases_cons m);
        }
      where
        among : {k : ℕ} → (k ≡ x) ⊎ Memᴰ k w.rest → Memᴰ k (x ∷ l)
        among (inl e) = Memᴰ.head e
        among {k} (inr m) = Memᴰ.tail (w.part k m)

pub counting : (n : ℕ) (l : List ℕ) → Distinct l → AllBelow n l → length l ≤ n
counting zero [] d b = omega arith
counting zero (x ∷ l) d b = let h = AllBelow-head b in absurd (omega arith)
counting (suc n) l d b =
    let w = without l d b in
    let h = counting n w.rest w.distinct w.below in
    let s = w.short in
    omega arith
