-- The walk that writes a run: at each configuration the smallest entry whose next configuration has one move less to go. The laws
-- stand in specs/Walk/Laws.antt.
--
-- BestFrom m list sets w c d  == d is the fewest moves from the configuration c to acceptance
-- Ready m list sets w t emptied stored c == the tables have the rows that the cost of c, and of what a transition leads to from c, is read from;
--                               what is stored begins where a copy does
-- Second m list sets w emptied c  == the same of a second half, for c in emptying mode
-- change_entry t              == the entry that changes the mode t
-- Tried m list sets w c d k r     == r says whether entry k leads to a configuration with d moves to go
-- Scanned m list sets w c d r     == the first transition that does; None where none does
-- Entered m list sets w c d e     == entry e is allowed and leads to a configuration with d moves to go
-- Fresh .. c e               == what is known of c after entry e, before its tables are made ready
-- Refreshed                  == the tables were made ready
-- Started m row k b          == b is an initial state with the least number of those below k; None where there is none
-- Written m list w r run run' == what write_run ensures
use Rattle.std.specs.Prelude.{Option, Some, unwrap_or, ℕ, ◌+◌, ◌-◌, ◌≤◌, ◌<◌, ◌≡◌, Bool, true, false, List, ◌++◌, length, take, drop}
use Rattle.std.proofs.Math.Seq.{slice}
use Rattle.fsbm.specs.Machine.{initial}
use Rattle.fsbm.specs.Moves.{move, accepting, begin_buffering, begin_emptying, back_to_normal}
use Rattle.fsbm.specs.declared.machine.Machine.{Machine}
use Rattle.fsbm.specs.declared.config.Config.{Config}
use Rattle.fsbm.specs.declared.config.Mode.{Mode}
use Rattle.fsbm.specs.declared.config.Mode.TheVariants.{Normal, Buffering, Emptying}
use Rattle.language.specs.Agreement.{published}
use Rattle.layers.specs.Costs.{at, Best}
use Rattle.layers.specs.Layers.{Begins}
use Rattle.tables.specs.Tables.{near_of, row_at, PositionRows, EmptyRow, BufferRow, Sized}
pub mod Laws

abbrev pub end_of : Config → ℕ
end_of c = c.position + (c.end - c.start)

abbrev pub BestFrom : Machine → List ℕ → List ℕ → List ℕ → Config → ℕ → Type 0
BestFrom m list sets w c d = Best m list (near_of m w sets) (published w c) d

pub record Second (m : Machine) (list sets w : List ℕ) (emptied : List (List ℕ)) (c : Config) : Type 0 where
  pub inside : end_of c ≤ length w
  pub equal : slice c.start c.end w ≡ slice c.position (end_of c) w
  pub rows : (r : ℕ) → r ≤ c.end - c.start → EmptyRow m list sets w (end_of c) r (row_at emptied r)

pub record Ready (m : Machine) (list sets w : List ℕ) (t emptied stored : List (List ℕ)) (c : Config) : Type 0 where
  pub positions : (p : ℕ) → p ≤ length w → PositionRows m list sets w t p
  pub sized : Sized w t emptied stored
  pub begun : c.mode ≡ Buffering → Begins m (near_of m w sets) (drop c.start w)
  pub storing : c.mode ≡ Buffering → (d : ℕ) → 0 < d → c.start + d + d ≤ length w → BufferRow m list sets w c.start d (row_at stored d)
  pub matching : c.mode ≡ Emptying → Second m list sets w emptied c

abbrev pub change_entry : Mode → ℕ
change_entry Normal = begin_buffering
change_entry Buffering = begin_emptying
change_entry Emptying = back_to_normal

pub record Tried (m : Machine) (list sets w : List ℕ) (c : Config) (d k : ℕ) (r : Bool) : Type 0 where
  pub good : r ≡ true → ((move m list w c k).allowed ≡ true) × Best m list (near_of m w sets) (published w (move m list w c k).config) d
  pub bad : r ≡ false → (move m list w c k).allowed ≡ true → (g : ℕ) × Best m list (near_of m w sets) (published w (move m list w c k).config) g × (g ≡ d → ⊥)

pub record Scanned (m : Machine) (list sets w : List ℕ) (c : Config) (d : ℕ) (r : Option ℕ) : Type 0 where
  pub found : (k : ℕ) → r ≡ Some k → (k < m.transitions) × ((move m list w c k).allowed ≡ true) × Best m list (near_of m w sets) (published w (move m list w c k).config) d
  pub before : (k : ℕ) → k < unwrap_or r m.transitions → (move m list w c k).allowed ≡ true → (g : ℕ) × Best m list (near_of m w sets) (published w (move m list w c k).config) g × (g ≡ d → ⊥)

pub record Entered (m : Machine) (list sets w : List ℕ) (c : Config) (d e : ℕ) : Type 0 where
  pub allowed : (move m list w c e).allowed ≡ true
  pub best : Best m list (near_of m w sets) (published w (move m list w c e).config) d

pub record Fresh (m : Machine) (list sets w : List ℕ) (t emptied stored : List (List ℕ)) (c : Config) (e : ℕ) : Type 0 where
  pub positions : (p : ℕ) → p ≤ length w → PositionRows m list sets w t p
  pub sized : Sized w t emptied stored
  pub kept : e < begin_buffering → Ready m list sets w t emptied stored c
  pub storing : e ≡ begin_buffering → (c.mode ≡ Buffering) × Begins m (near_of m w sets) (drop c.start w)
  pub matching : e ≡ begin_emptying → (c.mode ≡ Emptying) × (end_of c ≤ length w) × (slice c.start c.end w ≡ slice c.position (end_of c) w)
  pub normal : e ≡ back_to_normal → c.mode ≡ Normal
  pub placed : (c.start ≤ c.end) × (c.end ≤ c.position) × (c.position ≤ length w)

pub record Refreshed (m : Machine) (list sets w : List ℕ) (t emptied emptied' stored stored' : List (List ℕ)) (c : Config) : Type 0 where
  pub emptied_size : length emptied' ≡ length emptied
  pub stored_size : length stored' ≡ length stored
  pub ready : Ready m list sets w t emptied' stored' c

-- b is an initial state with the least number of all below k; None where there is none
pub record Started (m : Machine) (row : List ℕ) (k : ℕ) (b : Option ℕ) : Type 0 where
  pub is_initial : (q : ℕ) → b ≡ Some q → (q < m.states) × (initial m.marks q ≡ true)
  pub least : (p : ℕ) → p < k → initial m.marks p ≡ true → (q : ℕ) × (b ≡ Some q) × (at row q ≤ at row p)

-- the run stands at the front of the slice, what comes after it is as it was, and no accepting run has fewer entries
pub record Written (m : Machine) (list w : List ℕ) (r : ℕ) (run run' : List ℕ) : Type 0 where
  pub fits : r ≤ length run
  pub front : run' ≡ take r run' ++ drop r run
  pub accepts : accepting m list w (take r run') ≡ true
  pub fewest : (other : List ℕ) → accepting m list w other ≡ true → r ≤ length other
