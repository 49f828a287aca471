-- A shortest word and its run, written from the end. The laws stand in specs/Write/Laws.antt.
--
-- Read ..                == what read ensures: the transition's entry and its letter stand in front
-- Least top m list d     == d has the least weights from a start, of those below top
-- Searching ..           == what a search for a guess asks: the least weights, room for a block, and a number at q
-- CopyThere m list d q   == the number of q is reached along some copy
-- TriedGuess, Guessed    == whether the number of q is reached along a copy with the guess h, and the block of h
-- StepReady, StepDone    == what step asks and ensures
-- Aim m list d f n e     == f can be reached, n is the fewest letters of a word on the way to f, and n and e are what the number of f says: a word of
--                           n letters and a run of e entries, the start counted
-- Writing ..             == the word and the run are written from a place on
-- Shortest m list f word run == the run starts in an initial state, and its entries lead from there to f and read the word
use Rattle.std.specs.Prelude.{ℕ, suc, ◌+◌, ◌*◌, ◌-◌, ◌≤◌, ◌<◌, ◌%◌, ◌≡◌, Bool, true, false, List, length, get_or, drop}
use Rattle.graphs.specs.Cost.{Settled}
use Rattle.graphs.specs.Back.{Back}
use Rattle.fsbm.specs.Machine.{transition_at, matching}
use Rattle.fsbm.specs.Published.{fsbm_of}
use Rattle.fsbm.specs.declared.machine.Machine.{Machine}
use Rattle.pieces.specs.Pieces.{Leads}
use Rattle.pieces.specs.Pairs.{unit, Piece}
use Rattle.pieces.specs.Blocks.{nothing, cost_of, cell}
use Rattle.pieces.proofs.Tight.{TightCopy}
use Rattle.pieces.specs.Written.{LeadsBy}
use Rattle.blocks.specs.Settling.{Past, Block}
use Rattle.shortest.specs.Put.{Put}
use Rattle.shortest.specs.Copy.{Fits, Stepped}
use Rattle.shortest.specs.declared.copy.Progress.{Progress}
pub mod Laws

pub record Read (list : List ℕ) (k : ℕ) (word : List ℕ) (i : ℕ) (run : List ℕ) (r : ℕ) (word' run' : List ℕ) (p : Progress) : Type 0 where
  pub put : Put list k word i run r word' p.letter run'
  pub state : p.state ≡ (transition_at list k).from
  pub entry : p.entry ≡ r - 1

abbrev pub Least : ℕ → Machine → List ℕ → List ℕ → Type 0
Least top m list d = Settled (Back (Piece (fsbm_of m list))) (fsbm_of m list).I top (cost_of d)

pub record Searching (m : Machine) (list d b : List ℕ) (q : ℕ) : Type 0 where
  pub top : ℕ
  pub top_small : top ≤ nothing
  pub settled : Least top m list d
  pub past : Past m b
  pub low : cost_of d q < top

abbrev pub CopyThere : Machine → List ℕ → List ℕ → ℕ → Type 0
CopyThere m list d q = TightCopy (fsbm_of m list) (cost_of d) q

pub record TriedGuess (m : Machine) (list : List ℕ) (starts : ℕ) (d b' : List ℕ) (q h : ℕ) (r : Bool) : Type 0 where
  pub searching : Searching m list d b' q
  pub turns : r ≡ true → matching m.marks h ≡ true
  pub block : r ≡ true → Block m list h starts d b'
  pub tight : r ≡ true → cell b' h q + 2 ≡ cost_of d q
  pub bad : r ≡ false → (t : CopyThere m list d q) → t.middle ≡ h → ⊥

pub record Guessed (m : Machine) (list : List ℕ) (starts : ℕ) (d b' : List ℕ) (q h : ℕ) : Type 0 where
  pub searching : Searching m list d b' q
  pub turns : matching m.marks h ≡ true
  pub ends_there : matching m.marks q ≡ true
  pub block : Block m list h starts d b'
  pub tight : cell b' h q + 2 ≡ cost_of d q

-- the guesses before number k were tried
pub record Guessing (m : Machine) (list d b : List ℕ) (q first k : ℕ) : Type 0 where
  pub searching : Searching m list d b q
  pub tried : (j : ℕ) → j < k → (t : CopyThere m list d q) → t.middle ≡ (first + j) % 64 → ⊥

pub record StepReady (m : Machine) (list d b : List ℕ) (q : ℕ) (word : List ℕ) (i : ℕ) (run : List ℕ) (r : ℕ) : Type 0 where
  pub searching : Searching m list d b q
  pub positive : 0 < cost_of d q
  pub fits : Fits m list d q i r
  pub word_fits : i ≤ length word
  pub run_fits : r ≤ length run

-- a piece is written, and what a further step asks of the room to work in is there
pub record StepDone (m : Machine) (list d b' : List ℕ) (q : ℕ) (word : List ℕ) (i : ℕ) (run : List ℕ) (r : ℕ) (word' run' : List ℕ) (p : Progress) : Type 0 where
  pub stepped : Stepped m list d q word i run r word' run' p
  pub past : Past m b'

pub record Aim (m : Machine) (list d : List ℕ) (f n e : ℕ) : Type 0 where
  pub top : ℕ
  pub top_small : top ≤ nothing
  pub settled : Least top m list d
  pub low : cost_of d f < top
  pub fewest : (p : ℕ) (w : List ℕ) (k : ℕ) → (fsbm_of m list).I p → Leads (fsbm_of m list) p w f k → n ≤ length w
  pub weight : suc (cost_of d f) ≡ n * unit + e
  pub some : 0 < e
  pub small : e < unit

pub record Writing (m : Machine) (list d : List ℕ) (f : ℕ) (word₀ run₀ word run : List ℕ) (p : Progress) : Type 0 where
  pub leads : LeadsBy m list p.state (drop p.letter word) (drop p.entry run) f
  pub sum : cost_of d p.state + (length (drop p.letter word) * unit + length (drop p.entry run)) ≡ cost_of d f
  pub word_size : length word ≡ length word₀
  pub run_size : length run ≡ length run₀
  pub word_fits : p.letter ≤ length word
  pub run_fits : p.entry ≤ length run

pub record Shortest (m : Machine) (list : List ℕ) (f : ℕ) (word run : List ℕ) : Type 0 where
  pub start : (fsbm_of m list).I (get_or run 0 0)
  pub leads : LeadsBy m list (get_or run 0 0) word (drop 1 run) f
