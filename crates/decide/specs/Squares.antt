-- Stretches of a word that stand twice in a row, told by the positions up to which letters repeat.
--
-- Repeats w d q r          == each letter from q up to r is the one d positions before it
-- RunEnd w d q stop r      == the letters repeat from q up to r, and where r is before stop the one at r does not
-- RepeatEnds w ends at           == for each distance d where ends has a position from at d on, the letters repeat up to there; none is above 255
-- RepeatEndsAt w ends d q        == ends is right of some such positions, and that of the distance d is q
-- Keeps w a b d q          == b is right of all such positions that a is right of
-- Ended, Squared           == what the functions say that look up a position, and a square by it
-- Turning h w a b i j s r  == r is the part of s with which storing ends, where the letters from i up to j stand once more
use Rattle.std.specs.Prelude.{ℕ, ◌-◌, ◌≤◌, ◌<◌, ◌≡◌, ◌↔◌, Bool, true, List, length, get_or}
use Rattle.stateset.specs.Set.{In}
use Rattle.images.specs.Graph.{Members}
use Rattle.decide.specs.Reach.{Square}

pub record Repeats (w : List ℕ) (d q r : ℕ) : Type 0 where
  pub within : r ≤ length w
  pub same : (k : ℕ) → q ≤ k → k < r → get_or w k 0 ≡ get_or w (k - d) 0

pub record RunEnd (w : List ℕ) (d q stop r : ℕ) : Type 0 where
  pub from : q ≤ r
  pub repeats : Repeats w d q r
  pub differs : r < stop → get_or w r 0 ≡ get_or w (r - d) 0 → ⊥

pub record RepeatEnds (w ends : List ℕ) (at : ℕ → ℕ) : Type 0 where
  pub size : length ends ≡ 256
  pub small : (d : ℕ) → get_or ends d 0 ≤ 255
  pub each : (d : ℕ) → 0 < d → at d ≤ get_or ends d 0 → Repeats w d (at d) (get_or ends d 0)

abbrev pub RepeatEndsAt : List ℕ → List ℕ → ℕ → ℕ → Type 0
RepeatEndsAt w ends d q = (at : ℕ → ℕ) × (at d ≡ q) × RepeatEnds w ends at

abbrev pub Keeps : List ℕ → List ℕ → List ℕ → ℕ → ℕ → Type 0
Keeps w a b d q = (at : ℕ → ℕ) → at d ≡ q → RepeatEnds w a at → RepeatEnds w b at

pub record Ended (w a b : List ℕ) (d q stop r : ℕ) : Type 0 where
  pub kept : Keeps w a b d q
  pub run : RunEnd w d q stop r

pub record Squared (w a b : List ℕ) (i j : ℕ) (r : Bool) : Type 0 where
  pub kept : Keeps w a b (j - i) j
  pub says : (r ≡ true) ↔ Square w i j

pub record Turning (h : ℕ) (w a b : List ℕ) (i j s r : ℕ) : Type 0 where
  pub kept : Keeps w a b (j - i) j
  pub members : Members r (λ q. Square w i j × (In s q × In h q))
