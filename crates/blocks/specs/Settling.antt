-- A block from its first numbers to its last. The laws stand in specs/Settling/Laws.antt.
--
-- Scanned d k n r            == r is a row below n that has a mark; or there is none, and no row from k up to n has one
-- Cleared n b b'             == b' is b with `nothing` at the first n places
-- Past m b                   == past the machine's last state the block says nothing
-- blank_block, Blank b        == a block in which nothing stands
-- Begin top g guess v        == the candidate v + 1 at (g, guess), if v is less than top
-- Begins top guess P D       == a copy that begins in a state g with P: the candidate at (g, guess) is the number of g, if it is less than top, and 1 more
-- WorkOn m list top b d b' d' == what works for b and its marks works for b' and its marks
-- SettlesTo m list top h set D b == Settles (crate pieces), below top
-- Worked m list top b d b'   == and settled, where no pair is marked any more
-- BlockTo m list top guess set D b == the block of a guess and of the copies that begin in a state of the set (crate pieces), settled below top
-- Block m list guess set D b == the settled block
use Rattle.std.specs.Prelude.{ℕ, ◌+◌, ◌≤◌, ◌<◌, ◌≡◌, List, length, get_or, replicate, Option, MatchOption}
use Rattle.graphs.specs.Cost.{Settled}
use Rattle.stateset.specs.Set.{In}
use Rattle.fsbm.specs.Published.{fsbm_of}
use Rattle.fsbm.specs.declared.machine.Machine.{Machine}
use Rattle.pieces.specs.Blocks.{nothing, cell, cost_of, outside, BlockEdge, block_of}
use Rattle.blocks.specs.Numbers.{One}
use Rattle.blocks.specs.Works.{Works, Waiting, Still}
pub mod Laws

abbrev pub Scanned : List ℕ → ℕ → ℕ → Option ℕ → Type 0
Scanned d k n r = MatchOption r ((q : ℕ) → k ≤ q → q < n → get_or d q 0 ≡ 0) (λ s. (s < n) × (get_or d s 0 ≡ 0 → ⊥))

pub record Cleared (n : ℕ) (b b' : List ℕ) : Type 0 where
  pub size : length b' ≡ length b
  pub done : (i : ℕ) → i < n → get_or b' i 0 ≡ nothing
  pub rest : (i : ℕ) → n ≤ i → get_or b' i 0 ≡ get_or b i 0

abbrev pub Past : Machine → List ℕ → Type 0
Past m b = (s t : ℕ) → m.states ≤ s → nothing ≤ cell b s t

unfoldable pub blank_block : List ℕ
blank_block = replicate 4096 nothing

pub record Blank (b : List ℕ) : Type 0 where
  pub size : length b ≡ 4096
  pub past : (m : Machine) → Past m b

pub record Begin (top g guess v s t v' : ℕ) : Type 0 where
  pub known : v < top
  pub one : One g guess (v + 1) s t v'

pub record Begins (top guess : ℕ) (P : ℕ → Type 0) (D : List ℕ) (s t v : ℕ) : Type 0 where
  pub holds : P s
  pub column : t ≡ guess
  pub known : cost_of D s < top
  pub value : v ≡ cost_of D s + 1

pub record WorkOn (m : Machine) (list : List ℕ) (top : ℕ) (b d b' d' : List ℕ) : Type 0 where
  pub size : length b' ≡ length b
  pub still : Still m b b'
  pub on : (h x : ℕ) (D : List ℕ) → Works m list top h x D (Waiting d) b → Works m list top h x D (Waiting d') b'

abbrev pub SettlesTo : Machine → List ℕ → ℕ → ℕ → ℕ → List ℕ → List ℕ → Type 0
SettlesTo m list top h set D b = Settled (BlockEdge (fsbm_of m list) h (cost_of D) (In set)) (λ u. u ≡ outside) top (block_of b)

pub record Worked (m : Machine) (list : List ℕ) (top : ℕ) (b d b' : List ℕ) : Type 0 where
  pub size : length b' ≡ length b
  pub still : Still m b b'
  pub ends : (h x : ℕ) (D : List ℕ) → Works m list top h x D (Waiting d) b → SettlesTo m list top h x D b'

pub record BlockTo (m : Machine) (list : List ℕ) (top guess set : ℕ) (D b : List ℕ) : Type 0 where
  pub size : length b ≡ 4096
  pub past : Past m b
  pub settles : SettlesTo m list top guess set D b

abbrev pub Block : Machine → List ℕ → ℕ → ℕ → List ℕ → List ℕ → Type 0
Block m list guess set D b = BlockTo m list nothing guess set D b
