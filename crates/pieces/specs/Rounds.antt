-- The turns of the search for the least weights from a start: numbers that are lowered along normal moves and along whole copies until
-- nothing waits. The laws stand in specs/Rounds/Laws.antt.
--
-- Rounds M top Fresh Started D == D is 0 at the initial states; a number below top is the weight of some route from one; no normal move out
--                         of a state that is not Fresh, and no copy out of a state that is not Started, of less than top in all, would
--                         lower it
use Rattle.std.specs.Prelude.{ℕ, ◌+◌, ◌≤◌, ◌<◌, ◌≡◌}
use Rattle.graphs.specs.Cost.{Route, Realised}
use Rattle.graphs.specs.Back.{Back}
use Rattle.fsbm.specs.Published.{FSBM}
use Rattle.pieces.specs.Pairs.{Pair, both, PairMove, NormalMove, Piece}

pub record Rounds (M : FSBM) (top : ℕ) (Fresh Started : ℕ → Type 0) (D : ℕ → ℕ) : Type 0 where
  pub at_start : (q : ℕ) → M.I q → D q ≡ 0
  pub realised : Realised (Back (Piece M)) M.I top D
  pub normal : (p q w : ℕ) → NormalMove M p q w → (Fresh p → ⊥) → w + D p < top → D q ≤ w + D p
  pub copies : (g h z n : ℕ) → M.G g → M.H h → M.H z → Route Pair (PairMove M) (both g h) (both h z) n → (Started g → ⊥) → 3 + n + D g < top → D z ≤ 3 + n + D g
