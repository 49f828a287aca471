-- The two graphs of the search for a shortest word. The weight of a run is (its letters) × 2³² + (its moves), so the least weight has the
-- fewest letters first and the fewest moves second. The laws stand in specs/Pairs/Laws.antt.
--
-- unit                 == 2³², the weight of a letter
-- halves               == 2: a copy reads each of its letters twice, once as it stores and once as it matches
-- weigh a              == the weight of a move by a: that of a letter, or of epsilon
-- Pair, both s t       == the two halves of a copy side by side: the storing half in state s, the matching half in state t
-- PairMove M u v w     == one half moves by epsilon, or both by one letter; the weight is w
-- NormalMove M p q w   == a normal move from p to q, of weight w
-- Piece M p q w        == a normal move, or a whole copy: it begins in g, storing ends and matching begins in h, and it ends in z; its two
--                         halves walk side by side from (g, h) to (h, z), and the changes of mode weigh 3
use Rattle.std.specs.Prelude.{ℕ, zero, suc, ◌+◌, ◌*◌}
use Rattle.graphs.specs.Cost.{Route}
use Rattle.fsbm.specs.Published.{FSBM}

abbrev pub unit : ℕ
unit = 4294967296

abbrev pub halves : ℕ
halves = 2

abbrev pub weigh : ℕ → ℕ
weigh zero = 1
weigh (suc a) = unit + 1

pub record Pair : Type 0 where
  pub storing : ℕ
  pub matching : ℕ

abbrev pub both : ℕ → ℕ → Pair
both s t = record { storing = s; matching = t }

pub data PairMove (M : FSBM) : Pair → Pair → ℕ → Type 0 where
  stores_none : {s s' t : ℕ} → M.δ s 0 s' → (M.H s × M.H s' → ⊥) → (M.G s' → ⊥) → PairMove M (both s t) (both s' t) 1
  matches_none : {s t t' : ℕ} → M.δ t 0 t' → M.H t → M.H t' → PairMove M (both s t) (both s t') 1
  letter : {s s' t t' a : ℕ} → M.δ s (suc a) s' → (M.H s × M.H s' → ⊥) → (M.G s' → ⊥) → M.δ t (suc a) t' → M.H t → M.H t'
      → PairMove M (both s t) (both s' t') (halves * (unit + 1))

pub data NormalMove (M : FSBM) : ℕ → ℕ → ℕ → Type 0 where
  moves : {p a q : ℕ} → M.δ p a q → (M.H p × M.H q → ⊥) → (M.G p → ⊥) → NormalMove M p q (weigh a)

pub data Piece (M : FSBM) : ℕ → ℕ → ℕ → Type 0 where
  moved : {p q w : ℕ} → NormalMove M p q w → Piece M p q w
  copied : {g h z n : ℕ} → M.G g → M.H h → M.H z → Route Pair (PairMove M) (both g h) (both h z) n → Piece M g z (3 + n)
