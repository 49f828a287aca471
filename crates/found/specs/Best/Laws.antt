-- The laws of specs/Best.antt.
--
-- best_none            == before any state is looked at
-- best_keeps, best_takes == a state more: it is not final or has no lesser number; it is final and has a lesser one
-- best_final, best_low  == once all states are looked at: the number is the least of all final states, and below `nothing`
-- best_nothing         == and where there is none, no final state has one
use Rattle.std.specs.Prelude.{ℕ, ◌+◌, ◌/◌, ◌%◌, ◌≤◌, ◌<◌, ◌≡◌, Bool, true, false, cond, List, get_or, ltb, eqb, Option, Some, None, MatchOption, ⊤}
use Rattle.std.proofs.Common.{sym, ap, ◌∙◌, arith, le-ltb, eqb-true, below_more}
use Rattle.std.proofs.Math.Decide.{dec_lt}
use Rattle.basics.specs.Search.Laws.{not_both}
use Rattle.fsbm.specs.Machine.{final}
use Rattle.pieces.specs.Blocks.{nothing, cost_of}
use Rattle.found.specs.Best.{best_cost, Best}

-- only a state below 64 is final
final_below : (marks : List ℕ) (g : ℕ) → final marks g ≡ true → g < 64
final_below marks g f = at (dec_lt g 64)
  where
    at : Dec (g < 64) → g < 64
    at (yes lt) = lt
    at (no ge) =
        let past : ltb g 64 ≡ false = le-ltb g 64 (omega arith) in
        let is : final marks g ≡ eqb 0 1 = ap (λ (b : Bool). eqb (cond b (get_or marks g 0) 0 / 2 % 2) 1) past in
        absurd (let e = eqb-true 0 1 (sym is ∙ f) in omega arith)

module _ (marks d : List ℕ) where
  pub best_none : Best marks d 0 None
  best_none = record { known = tt; least = λ g h f. absurd (omega arith) }

  module _ (k : ℕ) (b : Option ℕ) (h : Best marks d k b) where
    pub best_passes : final marks k ≡ false → Best marks d (k + 1) b
    best_passes f = record { known = h.known; least = below_more _ k h.least (λ is. absurd (not_both is f)) }

    pub best_keeps : best_cost d b ≤ cost_of d k → Best marks d (k + 1) b
    best_keeps le = record { known = h.known; least = below_more _ k h.least (λ is. le) }

    pub best_takes : k < 64 → final marks k ≡ true → cost_of d k < best_cost d b → Best marks d (k + 1) (Some k)
    best_takes small f lt =
        let top = best_top b h.known in
        record {
          known = (small, f, omega arith);
          least = below_more _ k (λ g below is. let z = h.least g below is in omega arith) (λ is. omega arith);
        }
      where
        -- the number of the best so far is at most `nothing`
        best_top : (b : Option ℕ) → MatchOption b ⊤ (λ f. (f < 64) × (final marks f ≡ true) × (cost_of d f < nothing)) → best_cost d b ≤ nothing
        best_top None known = omega arith
        best_top (Some f) known = let z = known.2 in omega arith

  pub best_final : (b : ℕ) → Best marks d 64 (Some b) → (b < 64) × (final marks b ≡ true) × ((g : ℕ) → final marks g ≡ true → cost_of d b ≤ cost_of d g)
  best_final b h = let k = h.known in (k.0, k.1, λ g f. h.least g (final_below marks g f) f)

  pub best_low : (b : ℕ) → Best marks d 64 (Some b) → cost_of d b < nothing
  best_low b h = h.known.2

  pub best_nothing : Best marks d 64 None → (g : ℕ) → final marks g ≡ true → nothing ≤ cost_of d g
  best_nothing h g f = h.least g (final_below marks g f) f
