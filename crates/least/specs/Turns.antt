-- The turns of the search for the least weights from a start (crate pieces, Rounds). The laws stand in specs/Turns/Laws.antt.
--
-- Entered m list ends       == the matching states that some transition from another kind of state enters: storing can end in no others
-- EnteredBelow, EnteredBy   == the same for the first transitions of a list, and for one of them
-- RoundsOf top m list Fresh Started d == Rounds of a machine and its list as far as top, with the numbers of a list
-- NormalSo ..               == a turn of normal moves, not yet done: the states that were taken from `fresh` are in `started`
-- NormalTurn m list d fresh d' started == a turn of normal moves: none waits any more; the states that were lowered are in `started`
-- Made m list set d z v     == v is the number of a state of the set and the weight of a copy from there to z
-- Bound m list limit set d P z v == the same, less than the limit, for a copy with a guess of P
-- Tops limit h d top        == top is at least the number of each member of h, or the limit
-- Guessed m list limit h guess set d got d' got' b == a block, settled as far as it can lower a number, and the numbers lowered by it
-- CopyTurn m list limit₀ set d d' fresh limit == a turn of copies from the states of the set: the limit is lowered on the way, and the turn is
--                              whole as far as the limit that is left
-- first_of b                 == 0 where b is true, else `nothing`
-- First initial d           == 0 at the initial states, `nothing` elsewhere
-- Limit marks d top         == numbers of top and above need not be known: some final state has a smaller one, or top is `nothing`
-- Lowered marks d limit r   == r is a limit too, and no larger
-- Costs m list d            == the least weights from a start, as far as such a limit
use Rattle.std.specs.Prelude.{ℕ, ◌+◌, ◌*◌, ◌^◌, ◌≤◌, ◌<◌, ◌≡◌, ◌⊎◌, Bool, true, false, List, length}
use Rattle.std.specs.Int.Count.{ones}
use Rattle.graphs.specs.Cost.{Route, Settled}
use Rattle.graphs.specs.Back.{Back}
use Rattle.stateset.specs.Set.{width, In}
use Rattle.fsbm.specs.Machine.{transition_at, buffering, matching, final}
use Rattle.fsbm.specs.Published.{Listed, fsbm_of}
use Rattle.fsbm.specs.declared.machine.Machine.{Machine}
use Rattle.pieces.specs.Pairs.{Pair, both, PairMove, Piece}
use Rattle.pieces.specs.Blocks.{nothing, cost_of}
use Rattle.pieces.specs.Rounds.{Rounds}
use Rattle.blocks.specs.Numbers.{total}
use Rattle.blocks.specs.Settling.{BlockTo}
use Rattle.least.specs.Falls.{Falls, CopyEnds}
pub mod Laws

pub record Entered (m : Machine) (list : List ℕ) (ends : ℕ) : Type 0 where
  pub fits : ends < 2 ^ width
  pub all : (p a q : ℕ) → Listed list m.transitions p a q → matching m.marks q ≡ true → (matching m.marks p ≡ true → ⊥) → In ends q
  pub only : (q : ℕ) → In ends q → matching m.marks q ≡ true

-- those that the first n transitions enter
pub record EnteredBelow (m : Machine) (list : List ℕ) (n ends : ℕ) : Type 0 where
  pub fits : ends < 2 ^ width
  pub all : (k : ℕ) → k < n → matching m.marks (transition_at list k).to ≡ true → (matching m.marks (transition_at list k).from ≡ true → ⊥) → In ends (transition_at list k).to
  pub only : (q : ℕ) → In ends q → matching m.marks q ≡ true

-- a set with the one that transition k enters, where there is one
pub record EnteredBy (list : List ℕ) (k h set r : ℕ) : Type 0 where
  pub fits : r < 2 ^ width
  pub stays : (q : ℕ) → In set q → In r q
  pub this : In h (transition_at list k).to → (In h (transition_at list k).from → ⊥) → In r (transition_at list k).to
  pub only : (q : ℕ) → In r q → In set q ⊎ In h q

abbrev pub RoundsOf : ℕ → Machine → List ℕ → (ℕ → Type 0) → (ℕ → Type 0) → List ℕ → Type 0
RoundsOf top m list Fresh Started d = Rounds (fsbm_of m list) top Fresh Started (cost_of d)

pub record NormalSo (m : Machine) (list d₀ : List ℕ) (fresh₀ : ℕ) (d : List ℕ) (fresh started : ℕ) : Type 0 where
  pub size : length d ≡ length d₀
  pub fits : fresh < 2 ^ width
  pub down : (q : ℕ) → cost_of d q ≤ cost_of d₀ q
  pub rounds : (top : ℕ) → top ≤ nothing → RoundsOf top m list (In fresh₀) (In fresh₀) d₀ → RoundsOf top m list (In fresh) (λ q. In started q ⊎ In fresh q) d
  pub less : 3 * total d + 2 * ones fresh + ones started ≤ 3 * total d₀ + 2 * ones fresh₀

pub record NormalTurn (m : Machine) (list d : List ℕ) (fresh : ℕ) (d' : List ℕ) (started : ℕ) : Type 0 where
  pub size : length d' ≡ length d
  pub down : (q : ℕ) → cost_of d' q ≤ cost_of d q
  pub rounds : (top : ℕ) → top ≤ nothing → RoundsOf top m list (In fresh) (In fresh) d → RoundsOf top m list (λ q. ⊥) (In started) d'
  pub less : 3 * total d' + ones started ≤ 3 * total d + 2 * ones fresh

pub record Made (m : Machine) (list : List ℕ) (set : ℕ) (d : List ℕ) (z v : ℕ) : Type 0 where
  pub ends : matching m.marks z ≡ true
  pub first : ℕ
  pub weight : ℕ
  pub member : In set first
  pub piece : Piece (fsbm_of m list) first z weight
  pub value : v ≡ weight + cost_of d first

pub record Bound (m : Machine) (list : List ℕ) (limit set : ℕ) (d : List ℕ) (P : ℕ → Type 0) (z v : ℕ) : Type 0 where
  pub first : ℕ
  pub guess : ℕ
  pub weight : ℕ
  pub member : In set first
  pub buffers : buffering m.marks first ≡ true
  pub holds : P guess
  pub turns : matching m.marks guess ≡ true
  pub ends : matching m.marks z ≡ true
  pub route : Route Pair (PairMove (fsbm_of m list)) (both first guess) (both guess z) weight
  pub value : v ≡ 3 + weight + cost_of d first
  pub small : v < limit

pub record Tops (limit h : ℕ) (d : List ℕ) (top : ℕ) : Type 0 where
  pub small : top ≤ nothing
  pub bounds : (z : ℕ) → In h z → (cost_of d z ≤ top) ⊎ (limit ≤ top)

pub record Guessed (m : Machine) (list : List ℕ) (limit h guess set : ℕ) (d : List ℕ) (got : ℕ) (d' : List ℕ) (got' : ℕ) (b : List ℕ) : Type 0 where
  pub top : ℕ
  pub tops : Tops limit h d top
  pub block : BlockTo m list top guess set d b
  pub falls : Falls (CopyEnds top b guess (In h)) (CopyEnds top b guess (In h)) d got d' got'

-- a limit of the numbers: `nothing`, or more than some final state has
pub record Limit (marks d : List ℕ) (top : ℕ) : Type 0 where
  pub small : top ≤ nothing
  pub reached : (top ≡ nothing) ⊎ ((f : ℕ) × (final marks f ≡ true) × (cost_of d f < top))

-- a limit that is no larger
pub record Lowered (marks d : List ℕ) (limit r : ℕ) : Type 0 where
  pub keeps : Limit marks d limit → Limit marks d r
  pub less : r ≤ limit

-- the copies that begin in a started state begin in one of the set
pub record CopyTurn (m : Machine) (list : List ℕ) (limit₀ set : ℕ) (d d' : List ℕ) (fresh limit : ℕ) : Type 0 where
  pub no_larger : limit ≤ limit₀
  pub keeps : Limit m.marks d limit₀ → Limit m.marks d' limit
  pub size : length d' ≡ length d
  pub down : (q : ℕ) → cost_of d' q ≤ cost_of d q
  pub rounds : (started : ℕ) → ((q : ℕ) → In started q → buffering m.marks q ≡ true → In set q) → RoundsOf limit m list (λ q. ⊥) (In started) d → RoundsOf limit m list (In fresh) (In fresh) d'
  pub less : 3 * total d' + 2 * ones fresh ≤ 3 * total d

unfoldable pub first_of : Bool → ℕ
first_of true = 0
first_of false = nothing

pub record First (initial : ℕ) (d : List ℕ) : Type 0 where
  pub size : length d ≡ 64
  pub zero_there : (q : ℕ) → In initial q → cost_of d q ≡ 0
  pub none_elsewhere : (q : ℕ) → (In initial q → ⊥) → nothing ≤ cost_of d q

pub record Costs (m : Machine) (list d : List ℕ) : Type 0 where
  pub size : length d ≡ 64
  pub top : ℕ
  pub limit : Limit m.marks d top
  pub settled : Settled (Back (Piece (fsbm_of m list))) (fsbm_of m list).I top (cost_of d)
