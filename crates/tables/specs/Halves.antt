-- Stretches of a word that stand a second time after themselves. The laws stand in specs/Halves/Laws.antt.
--
-- Halves w i d         == the d letters from i on stand a second time after themselves
-- Matched w i d r      == r says whether Halves holds
-- Shared w i d r       == from i on r letters, and no more, are those that stand d later
-- SharedFrom w i counts == counts says this of every distance below 128
use Rattle.std.specs.Prelude.{ℕ, ◌+◌, ◌≤◌, ◌<◌, ◌≡◌, Bool, true, false, List, length, get_or}
pub mod Laws

abbrev pub Halves : List ℕ → ℕ → ℕ → Type 0
Halves w i d = (k : ℕ) → k < d → get_or w (i + k) 0 ≡ get_or w (i + d + k) 0

pub record Matched (w : List ℕ) (i d : ℕ) (r : Bool) : Type 0 where
  pub equal : r ≡ true → Halves w i d
  pub unequal : r ≡ false → Halves w i d → ⊥

-- from i on r letters, and no more, are those that stand d later
pub record Shared (w : List ℕ) (i d r : ℕ) : Type 0 where
  pub equal : (k : ℕ) → k < r → get_or w (i + k) 0 ≡ get_or w (i + d + k) 0
  pub stops : i + d + r < length w → get_or w (i + r) 0 ≡ get_or w (i + d + r) 0 → ⊥
  pub inside : r + i ≤ length w
  pub outside : length w ≤ i + d → r ≡ 0

pub record SharedFrom (w : List ℕ) (i : ℕ) (counts : List ℕ) : Type 0 where
  pub size : length counts ≡ 128
  pub each : (d : ℕ) → 0 < d → d < 128 → Shared w i d (get_or counts d 0)
