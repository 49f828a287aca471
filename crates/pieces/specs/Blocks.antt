-- A block: for one guess of the state where storing ends and matching begins, the least weights of the copies that have begun, as far as
-- each pair of states. The laws stand in specs/Blocks/Laws.antt.
--
-- most_states           == the most states of a machine that is searched: a block has as many rows, and each row as many numbers
-- nothing              == 2⁶²: a number of this size and above says that nothing leads there
-- cost_of d q           == the number of state q in a list of numbers, one a state; past the last it is `nothing`
-- Node, outside, inside u == before the copy; in the copy at the pair u
-- BlockEdge M h D S    == the edges of the block with the guess h, turned round: from (g, h) out of the copy, where it may begin in g,
--                         of weight D g + 1; from the end of a move of the pair to its start
-- block_of b            == the number of a node in a block that is written row by row
-- Settles m list h set d b == b has the least weights of the copies with the guess h that begin in a state of the set, where d has the
--                         least weights at which they begin
use Rattle.std.specs.Prelude.{ℕ, ◌+◌, ◌*◌, ◌≡◌, cond, ◌&&◌, List, get_or, ltb}
use Rattle.graphs.specs.Cost.{Settled}
use Rattle.stateset.specs.Set.{In}
use Rattle.fsbm.specs.Published.{FSBM, fsbm_of}
use Rattle.fsbm.specs.declared.machine.Machine.{Machine}
use Rattle.pieces.specs.Pairs.{Pair, both, PairMove}

abbrev pub most_states : ℕ
most_states = 64

abbrev pub nothing : ℕ
nothing = 4611686018427387904

unfoldable pub cost_of : List ℕ → ℕ → ℕ
cost_of d q = cond (ltb q most_states) (get_or d q 0) nothing

pub data Node : Type 0 where
  outside : Node
  inside : Pair → Node

pub data BlockEdge (M : FSBM) (h : ℕ) (D : ℕ → ℕ) (S : ℕ → Type 0) : Node → Node → ℕ → Type 0 where
  begins : {g : ℕ} → S g → M.G g → BlockEdge M h D S (inside (both g h)) outside (D g + 1)
  goes_on : {u v : Pair} {w : ℕ} → PairMove M u v w → BlockEdge M h D S (inside v) (inside u) w

unfoldable pub cell : List ℕ → ℕ → ℕ → ℕ
cell b s t = cond (ltb s most_states && ltb t most_states) (get_or b (s * most_states + t) 0) nothing

unfoldable pub block_of : List ℕ → Node → ℕ
block_of b outside = 0
block_of b (inside u) = cell b u.storing u.matching

abbrev pub Settles : Machine → List ℕ → ℕ → ℕ → List ℕ → List ℕ → Type 0
Settles m list h set d b = Settled (BlockEdge (fsbm_of m list) h (cost_of d) (In set)) (λ u. u ≡ outside) nothing (block_of b)
