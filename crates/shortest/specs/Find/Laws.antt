-- The laws of specs/Find.antt: the loop of a finder, over any test.
--
-- Finding n list z Passed k == each transition into z before k has Passed, and k is one of those into z, or past the last
-- finding_start, finding_next, finding_none == the loop
-- finds_by               == what a finder has found, from what its test says
use Rattle.std.specs.Prelude.{ℕ, ◌+◌, ◌≤◌, ◌<◌, ◌≡◌, Bool, true, false, List, Option, MatchOption}
use Rattle.std.proofs.Common.{sym, subst, arith, Some, None}
use Rattle.std.proofs.Math.Decide.{dec_lt, ℕ_discrete}
use Rattle.fsbm.specs.Machine.{transition_at}
use Rattle.shortest.specs.Into.{NextLink, Enters}
use Rattle.shortest.specs.Find.{Finds, FindsInto}

pub record Finding (n : ℕ) (list : List ℕ) (z : ℕ) (Passed : ℕ → Type 0) (k : ℕ) : Type 0 where
  pub passed : (j : ℕ) → j < k → j < n → Enters list z j → Passed j
  pub here : k < n → Enters list z k

module _ (n : ℕ) (list : List ℕ) (z : ℕ) (Passed : ℕ → Type 0) where
  pub finding_start : (k : ℕ) → NextLink (Enters list z) n 0 k → Finding n list z Passed k
  finding_start k x = record { passed = λ j l b e. absurd (x.skipped j (omega arith) l b e); here = x.found }

  module _ (k : ℕ) (f : Finding n list z Passed k) where
    pub finding_next : (r : ℕ) → k < n → Passed k → NextLink (Enters list (transition_at list k).to) n (k + 1) r → Finding n list z Passed r
    finding_next r inside bad x =
        let y : NextLink (Enters list z) n (k + 1) r = subst (λ (q : ℕ). NextLink (Enters list q) n (k + 1) r) (f.here inside) x in
        record { passed = λ j l b e. at y j l b e (dec_lt j k) (ℕ_discrete j k); here = y.found }
      where
        at : NextLink (Enters list z) n (k + 1) r → (j : ℕ) → j < r → j < n → Enters list z j → Dec (j < k) → Dec (j ≡ k) → Passed j
        at y j l b e (yes less) d = f.passed j less b e
        at y j l b e (no more) (yes same) = subst Passed (sym same) bad
        at y j l b e (no more) (no other) = absurd (y.skipped j (omega arith) l b e)

    pub finding_none : n ≤ k → (j : ℕ) → j < n → Enters list z j → Passed j
    finding_none past j b e = f.passed j (omega arith) b e

-- what a finder has found, from what its test says
pub finds_by : (n : ℕ) (list : List ℕ) (z : ℕ) (Gives : ℕ → Bool → Type 0) (Q : ℕ → Type 0) (r : Option ℕ) → FindsInto n list z Gives r → ((k : ℕ) → k < n → Gives k true → Q k)
    → ((k : ℕ) → k < n → Gives k false → Q k → ⊥) → Finds n (λ k. Enters list z k × Q k) r
finds_by n list z Gives Q r f good bad = on r f.finds
  where
    on : (r : Option ℕ) → MatchOption r ((k : ℕ) → k < n → Enters list z k → Gives k false) (λ k. (k < n) × Enters list z k × Gives k true) → Finds n (λ k. Enters list z k × Q k) r
    on None f = λ k l p. bad k l (f k l p.0) p.1
    on (Some k) f = (f.0, (f.1, good k f.0 f.2))
