-- Cost to go in moves, and rows of such numbers: one for each state, at one rest of the input, one buffer and one mode. Only
-- configurations that are kept are gone on from: in normal mode, where k letters are left, those in the states of N k, in the other
-- modes all. The laws stand in
-- specs/Costs/Laws.antt.
--
-- none                       == the number that says "no run accepts from here": the largest 32-bit number
-- Step m list N C C'         == a published move from C to C', where C is kept; Near N u q says that normal mode at the input u in state q is
-- Go m list N C n            == n such moves lead from C to acceptance
-- Best m list N C d          == d is the fewest such moves from C to acceptance, or none where there is no way of fewer than none
-- at row q                   == the number of state q in a row
-- RowReal m list N u v t row == each number of the row that is not none is that of some way: input u, buffer v, mode t
-- RowBest m list N u v t row == each number of the row is Best
-- Leads m list t x k         == transition k reads x, and the marks let it be taken in mode t
-- Bounded m list S t x row next == no such transition from a state of which S holds into the row `next` would lower a number of the row
-- ChangeBound S row next          == nor would a change of mode at such a state
use Rattle.std.specs.Prelude.{ℕ, suc, ◌≤◌, ◌<◌, ◌≡◌, true, List, [], length, get_or}
use Rattle.stateset.specs.Set.{In}
use Rattle.graphs.specs.Paths.{Path}
use Rattle.fsbm.specs.Machine.{transition_at}
use Rattle.fsbm.specs.Moves.{passes}
use Rattle.fsbm.specs.Published.{fsbm_of, Configuration, config, Yields}
use Rattle.fsbm.specs.declared.machine.Machine.{Machine}
use Rattle.fsbm.specs.declared.config.Mode.{Mode}
use Rattle.fsbm.specs.declared.config.Mode.TheVariants.{Normal}
pub mod Laws

abbrev pub none : ℕ
none = 4294967295

-- the state q is one of those kept where the input u is left
abbrev pub Near : (ℕ → ℕ) → List ℕ → ℕ → Type 0
Near N u q = In (N (length u)) q

pub record Step (m : Machine) (list : List ℕ) (N : ℕ → ℕ) (C C' : Configuration) : Type 0 where
  pub move : Yields (fsbm_of m list) C C'
  pub kept : C.mode ≡ Normal → Near N C.input C.state

pub record Go (m : Machine) (list : List ℕ) (N : ℕ → ℕ) (C : Configuration) (n : ℕ) : Type 0 where
  pub last : ℕ
  pub last_final : (fsbm_of m list).F last
  pub path : Path Configuration (Step m list N) C (config [] last [] Normal) n

pub record Best (m : Machine) (list : List ℕ) (N : ℕ → ℕ) (C : Configuration) (d : ℕ) : Type 0 where
  pub realised : d < none → Go m list N C d
  pub least : (n : ℕ) → Go m list N C n → d ≤ n

abbrev pub at : List ℕ → ℕ → ℕ
at row q = get_or row q 0

abbrev pub RowReal : Machine → List ℕ → (ℕ → ℕ) → List ℕ → List ℕ → Mode → List ℕ → Type 0
RowReal m list N u v t row = (q : ℕ) → q < m.states → at row q < none → Go m list N (config u q v t) (at row q)

abbrev pub RowBest : Machine → List ℕ → (ℕ → ℕ) → List ℕ → List ℕ → Mode → List ℕ → Type 0
RowBest m list N u v t row = (q : ℕ) → q < m.states → Best m list N (config u q v t) (at row q)

pub record Leads (m : Machine) (list : List ℕ) (t : Mode) (x k : ℕ) : Type 0 where
  pub listed : k < m.transitions
  pub letter : (transition_at list k).letter ≡ x
  pub allowed : passes m.marks (transition_at list k) t ≡ true

abbrev pub Bounded : Machine → List ℕ → (ℕ → Type 0) → Mode → ℕ → List ℕ → List ℕ → Type 0
Bounded m list S t x row next =
    (k : ℕ) → Leads m list t x k → S (transition_at list k).from → at row (transition_at list k).from ≤ suc (at next (transition_at list k).to)

abbrev pub ChangeBound : (ℕ → Type 0) → List ℕ → List ℕ → Type 0
ChangeBound S row next = (q : ℕ) → S q → at row q ≤ suc (at next q)
