-- The ways through the functions of src/halves.rt.
--
-- matched_by           == the return of halves_match
-- Counted              == what the loop of count_shared has done
use Prim.Native.Nat.{ℕ, ◌+◌, ◌≤◌, ◌<◌}
use mathlib.Core.Path.{◌≡◌, sym, ap, ◌∙◌}
use mathlib.Core.Bool.{Bool, false≢true}
use Rattle.std.specs.Bool.{Decides}
use mathlib.Core.List.{List}
use native.Mathlib.Omega.{arith}
use lib.ListN.{length, get_or}
use Rattle.std.proofs.Common.{take, drop, get_or-drop, get_or-take, ext_get_or, length-drop, length-take-le}
use Rattle.tables.specs.Halves.{Halves, Matched, Shared}

-- n letters from i on
stretch_at : (w : List ℕ) (n i k : ℕ) → k < n → get_or (take n (drop i w)) k 0 ≡ get_or w (i + k) 0
stretch_at w n i k l = get_or-take n (drop i w) k 0 l ∙ get_or-drop i w k 0

stretch_length : (w : List ℕ) (n i : ℕ) → i + n ≤ length w → length (take n (drop i w)) ≡ n
stretch_length w n i le = length-take-le n (drop i w) (omega (arith, length-drop i w))

-- what a comparison of the halves says
pub matched_by : (w : List ℕ) (i d n k : ℕ) {r : Bool} → i + d + d ≤ length w → n ≡ d → k ≡ d → Decides r (take n (drop i w) ≡ take k (drop (i + d) w)) → Matched w i d r
matched_by w i d n k le nd kd h =
    record {
      equal = λ t j lt. sym (stretch_at w n i j (omega arith)) ∙ ap (λ (v : List ℕ). get_or v j 0) (h.0 t) ∙ stretch_at w k (i + d) j (omega arith);
      unequal = λ f same. false≢true (sym f ∙ h.1 (stretches same));
    }
  where
    stretches : Halves w i d → take n (drop i w) ≡ take k (drop (i + d) w)
    stretches same =
        let a = stretch_length w n i (omega arith) in
        let b = stretch_length w k (i + d) (omega arith) in
        ext_get_or 0 (take n (drop i w)) (take k (drop (i + d) w)) (omega arith)
        (λ j (l : j < length (take n (drop i w))). stretch_at w n i j (omega arith) ∙ same j (omega arith) ∙ sym (stretch_at w k (i + d) j (omega arith)))

-- what the loop of count_shared has done: the distances below d are at position i, the others still at i + 1
pub record Counted (w : List ℕ) (i d : ℕ) (counts : List ℕ) : Type 0 where
  pub some : 0 < d
  pub size : length counts ≡ 128
  pub here : (k : ℕ) → 0 < k → k < d → k < 128 → Shared w i k (get_or counts k 0)
  pub later : (k : ℕ) → d ≤ k → k < 128 → Shared w (i + 1) k (get_or counts k 0)
