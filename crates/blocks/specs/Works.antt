-- A block while it is computed, and what one row of it does. The laws stand in specs/Works/Laws.antt.
--
-- Ready m list index h     == a well-formed machine with its index and the set of its matching states
-- Kind test set            == the set of the states of a kind
-- Storable m s may         == the states that a storing move from s may enter
-- Works m list top h set D Waits b == Working below top over the edges of a block (crate pieces), for the guess h and copies that begin in a state of the set
-- Waiting d                == the marked pairs wait
-- Busy d s set             == and so do the pairs of row s with a member of the set
-- Early m list k e         == the storing half of the move of pairs e, if it moves, takes a transition below k
-- Looked m list top s set k b d == no early move from such a pair, unless it is marked, of less than top in all, would lower a number
-- Still m b b'             == past the machine's last state the numbers are as they were
-- RowSo m list top s set k b₀ d₀ b d == the row s, of which the transitions below k are done: numbers lowered along moves from the pairs of the set, and Looked
-- RowOn m list top s set k b d k' b' d' == the transitions from k up to k' are done too
-- RowDone m list top s set b d b' d' == all are done
-- Moves list index top stride x may b s set == by letter 0 Stay, by another letter From those that are in `may`
use Rattle.std.specs.Prelude.{ℕ, ◌+◌, ◌*◌, ◌≤◌, ◌<◌, ◌≡◌, ◌⊎◌, ◌↔◌, Bool, true, List}
use Rattle.graphs.specs.Working.{Working}
use Rattle.stateset.specs.Set.{In}
use Rattle.fsbm.specs.Machine.{well_formed, buffering, matching}
use Rattle.fsbm.specs.Published.{fsbm_of}
use Rattle.fsbm.specs.declared.machine.Machine.{Machine}
use Rattle.pieces.specs.Pairs.{unit, halves, Pair, PairMove, stores_none, matches_none, letter}
use Rattle.pieces.specs.Blocks.{cell, cost_of, Node, outside, inside, BlockEdge, block_of}
use Rattle.blocks.specs.Numbers.{HasMark, Steps}
use Rattle.blocks.specs.Gathered.{From, Stay}
use Rattle.blocks.specs.Stretches.{Stretches}
pub mod Laws

abbrev pub Kind : (ℕ → Bool) → ℕ → Type 0
Kind test set = (q : ℕ) → In set q ↔ (test q ≡ true)

pub record Ready (m : Machine) (list index : List ℕ) (h : ℕ) : Type 0 where
  pub good : well_formed m list ≡ true
  pub starts : Stretches m list index
  pub matches : Kind (matching m.marks) h

pub record Storable (m : Machine) (s may : ℕ) : Type 0 where
  pub only : (q : ℕ) → In may q → (buffering m.marks q ≡ true → ⊥) × ((matching m.marks s ≡ true) × (matching m.marks q ≡ true) → ⊥)
  pub all : (q : ℕ) → q < 64 → (buffering m.marks q ≡ true → ⊥) → ((matching m.marks s ≡ true) × (matching m.marks q ≡ true) → ⊥) → In may q

abbrev pub Works : Machine → List ℕ → ℕ → ℕ → ℕ → List ℕ → (Node → Type 0) → List ℕ → Type 0
Works m list top h set D Waits b = Working (BlockEdge (fsbm_of m list) h (cost_of D) (In set)) (λ u. u ≡ outside) top Waits (block_of b)

abbrev pub Waiting : List ℕ → Node → Type 0
Waiting d outside = ⊥
Waiting d (inside u) = HasMark d u.storing u.matching

abbrev pub Busy : List ℕ → ℕ → ℕ → Node → Type 0
Busy d s set outside = ⊥
Busy d s set (inside u) = HasMark d u.storing u.matching ⊎ ((u.storing ≡ s) × In set u.matching)

abbrev pub Early : (m : Machine) (list : List ℕ) → ℕ → {u v : Pair} {w : ℕ} → PairMove (fsbm_of m list) u v w → Type 0
Early m list k (stores_none e a b) = e.number < k
Early m list k (matches_none e a b) = Unit {0}
Early m list k (letter e a b f c g) = e.number < k

abbrev pub Looked : Machine → List ℕ → ℕ → ℕ → ℕ → ℕ → List ℕ → List ℕ → Type 0
Looked m list top s set k b d =
    (u v : Pair) (w : ℕ) (e : PairMove (fsbm_of m list) u v w) → u.storing ≡ s → In set u.matching → (HasMark d s u.matching → ⊥) → Early m list k e
    → w + cell b s u.matching < top → cell b v.storing v.matching ≤ w + cell b s u.matching

abbrev pub Still : Machine → List ℕ → List ℕ → Type 0
Still m b b' = (s t : ℕ) → m.states ≤ s → cell b' s t ≡ cell b s t

pub record RowSo (m : Machine) (list : List ℕ) (top s set k : ℕ) (b₀ d₀ b d : List ℕ) : Type 0 where
  pub steps : Steps b₀ d₀ b d
  pub still : Still m b₀ b
  pub works : (h x : ℕ) (D : List ℕ) → Works m list top h x D (Busy d₀ s set) b₀ → Works m list top h x D (Busy d s set) b
  pub looked : Looked m list top s set k b d

pub record RowOn (m : Machine) (list : List ℕ) (top s set k : ℕ) (b d : List ℕ) (k' : ℕ) (b' d' : List ℕ) : Type 0 where
  pub steps : Steps b d b' d'
  pub on : (b₀ d₀ : List ℕ) → RowSo m list top s set k b₀ d₀ b d → RowSo m list top s set k' b₀ d₀ b' d'

pub record RowDone (m : Machine) (list : List ℕ) (top s set : ℕ) (b d b' d' : List ℕ) : Type 0 where
  pub steps : Steps b d b' d'
  pub still : Still m b b'
  pub works : (h x : ℕ) (D : List ℕ) → Works m list top h x D (Busy d s set) b → Works m list top h x D (Waiting d') b'

pub data Moves (list index : List ℕ) (top stride x may : ℕ) (b : List ℕ) (s set t v : ℕ) : Type 0 where
  by_none : x ≡ 0 → Stay top b s (In set) t v → Moves list index top stride x may b s set t v
  by_letter : 0 < x → From list index top stride x (halves * (unit + 1)) may b s (λ q. In set q × In may q) t v → Moves list index top stride x may b s set t v
