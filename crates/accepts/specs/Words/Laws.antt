-- The laws of specs/Words.antt.
--
-- answers_count == there is an answer for each end
-- answers_at    == answer number k is the answer to word number k
-- good_ends_lem     == the ends are good, if and only if each is at or past the start of its word and not past the letters
use Prim.Native.Nat.{ℕ, zero, suc, ◌≤◌, ◌<◌}
use Rattle.std.specs.Prelude.{◌≡◌, true, ◌↔◌, length, get_or, leb}
use Rattle.std.proofs.Math.Path.{refl}
use mathlib.Core.List.{List, [], ◌∷◌}
use native.Mathlib.Omega.{arith}
use Rattle.std.proofs.Common.{le-leb, leb-true}
use Rattle.basics.specs.Search.Laws.{and_true, and_both_true}
use Rattle.fsbm.specs.declared.machine.Machine.{Machine}
use Rattle.accepts.specs.Decision.{decision}
use Rattle.accepts.specs.Words.{stretch, start_of, word_at, good_ends, answer_byte, answers_from}

module _ (m : Machine) (list letters : List ℕ) where
  pub answers_count : (from : ℕ) (ends : List ℕ) → length (answers_from m list letters from ends) ≡ length ends
  unfolding answers_from
  answers_count from [] = refl
  answers_count from (e ∷ l) = let z = answers_count e l in omega arith

  -- the first word begins at from
  answers_from_lem : (from : ℕ) (ends : List ℕ) (k : ℕ) → k < length ends
      → get_or (answers_from m list letters from ends) k 0 ≡ answer_byte (decision m list (stretch letters (get_or (from ∷ ends) k 0) (get_or ends k 0)))
  unfolding answers_from
  answers_from_lem from [] k h = absurd (omega arith)
  answers_from_lem from (e ∷ l) zero h = refl
  answers_from_lem from (e ∷ l) (suc k) h = answers_from_lem e l k (omega arith)

  pub answers_at : (ends : List ℕ) (k : ℕ) → k < length ends → get_or (answers_from m list letters 0 ends) k 0 ≡ answer_byte (decision m list (word_at letters ends k))
  answers_at ends k h = answers_from_lem 0 ends k h

-- every end from the first on, where the first word begins at from
abbrev EachEnd : ℕ → ℕ → List ℕ → Type 0
EachEnd n from ends = (k : ℕ) → k < length ends → (get_or (from ∷ ends) k 0 ≤ get_or ends k 0) × (get_or ends k 0 ≤ n)

good_to : (n from : ℕ) (ends : List ℕ) → good_ends n from ends ≡ true → EachEnd n from ends
unfolding good_ends
good_to n from [] g k h = absurd (omega arith)
good_to n from (e ∷ l) g zero h =
    let (a, b) = and_true (leb from e) _ g in
    let (c, d) = and_true (leb e n) _ b in
    (leb-true _ _ a, leb-true _ _ c)
good_to n from (e ∷ l) g (suc k) h =
    let (a, b) = and_true (leb from e) _ g in
    let (c, d) = and_true (leb e n) _ b in
    good_to n e l d k (omega arith)

good_of : (n from : ℕ) (ends : List ℕ) → EachEnd n from ends → good_ends n from ends ≡ true
unfolding good_ends
good_of n from [] each = refl
good_of n from (e ∷ l) each =
    let (a, b) = each 0 (omega arith) in
    and_both_true (leb from e) _ (le-leb _ _ a) (and_both_true (leb e n) _ (le-leb _ _ b) (good_of n e l (λ k h. each (suc k) (omega arith))))

pub good_ends_lem : (n : ℕ) (ends : List ℕ) → (good_ends n 0 ends ≡ true) ↔ ((k : ℕ) → k < length ends → (start_of ends k ≤ get_or ends k 0) × (get_or ends k 0 ≤ n))
good_ends_lem n ends = (good_to n 0 ends, good_of n 0 ends)
