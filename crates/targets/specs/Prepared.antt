-- A prepared table of where transitions lead: for each letter and each state a set of states. Its first set has the states with
-- epsilon transitions, its second the states whose closures it has; behind them stand the row of closures and the rows of the letters
-- in order, letter 0 first, each with one set for each state of the machine. Its laws stand in specs/Prepared/Laws.antt.
--
-- Row m list targets x      == the table has the row of the letter x
-- Prepared m list w targets == the table has the rows of letter 0 and of the letters of w, the states with epsilon transitions, and the closures of the
--                              states of its second set
-- Lettered letters w        == each letter of w is one of so many
-- Whole m list targets      == the table is prepared for every word of the machine's letters
-- Wanted wanted x           == the letter x is letter 0 or one that is marked as wanted
-- Inside m list k           == transition number k is in the list, and names states and a letter of the machine
-- Filled m list wanted targets k == the rows of the wanted letters have the first k transitions, the others are empty; no closures
-- Made m list wanted targets == the table has the rows of the wanted letters, and the states with epsilon transitions; no closures
-- Sources targets states n set == the set has each state below n whose set in the row of letter 0 is not empty
-- Closing states g h before now p == the table has the closures of the states below p, and else what it had before
-- WithClosures states g h before after == the table has the closures of all states, and says so; its first set and its rows are as before
use Rattle.std.specs.Prelude.{ℕ, ◌+◌, ◌*◌, ◌≤◌, ◌<◌, ◌≡◌, ◌↔◌, ◌⊎◌, Bool, true, false, List, length, get_or}
use Rattle.stateset.specs.Set.{In}
use Rattle.fsbm.specs.Machine.{transition_at}
use Rattle.fsbm.specs.Published.{Listed}
use Rattle.fsbm.specs.declared.machine.Machine.{Machine}
use Rattle.images.specs.Graph.{Members, Star, Turn, graph, closure_of, set_of, Closed, KindsOf}
use Rattle.images.specs.declared.Kinds.{Kinds}
pub mod Laws

pub record Row (m : Machine) (list targets : List ℕ) (x : ℕ) : Type 0 where
  pub room : set_of m.states x m.states ≤ length targets
  pub listed : (p q : ℕ) → p < m.states → In (get_or targets (set_of m.states x p) 0) q ↔ Listed list m.transitions p x q

pub record Prepared (m : Machine) (list w targets : List ℕ) : Type 0 where
  pub epsilon : Row m list targets 0
  pub letters : (i : ℕ) → i < length w → Row m list targets (get_or w i 0)
  pub sources : (p q : ℕ) → Listed list m.transitions p 0 q → In (get_or targets 0 0) p
  pub closed : (k : Kinds) → KindsOf m.marks m.states k → (p : ℕ) → In (get_or targets 1 0) p → Closed targets m.states k.buffering k.matching p

abbrev pub Lettered : ℕ → List ℕ → Type 0
Lettered letters w = (i : ℕ) → i < length w → get_or w i 0 ≤ letters

abbrev pub Whole : Machine → List ℕ → List ℕ → Type 0
Whole m list targets = (w : List ℕ) → Lettered m.letters w → Prepared m list w targets

abbrev pub Wanted : List Bool → ℕ → Type 0
Wanted wanted x = (x ≡ 0) ⊎ (get_or wanted x false ≡ true)

pub record Inside (m : Machine) (list : List ℕ) (k : ℕ) : Type 0 where
  pub fits : k * 3 + 3 ≤ length list
  pub few : m.states ≤ 64
  pub from : (transition_at list k).from < m.states
  pub letter : (transition_at list k).letter ≤ m.letters
  pub letters : m.letters ≤ 250
  pub to : (transition_at list k).to < m.states

pub record Filled (m : Machine) (list : List ℕ) (wanted : List Bool) (targets : List ℕ) (k : ℕ) : Type 0 where
  pub room : set_of m.states m.letters m.states ≤ length targets
  pub members : (x p q : ℕ) → x ≤ m.letters → p < m.states → In (get_or targets (set_of m.states x p) 0) q ↔ (Wanted wanted x × Listed list k p x q)
  pub none_closed : get_or targets 1 0 ≡ 0

pub record Made (m : Machine) (list : List ℕ) (wanted : List Bool) (targets : List ℕ) : Type 0 where
  pub rows : (x : ℕ) → x ≤ m.letters → Wanted wanted x → Row m list targets x
  pub sources : (p q : ℕ) → Listed list m.transitions p 0 q → In (get_or targets 0 0) p
  pub none_closed : get_or targets 1 0 ≡ 0

abbrev pub Sources : List ℕ → ℕ → ℕ → ℕ → Type 0
Sources targets states n set = (p q : ℕ) → p < n → In (get_or targets (2 + states + p) 0) q → In set p

pub record Closing (states g h : ℕ) (before now : List ℕ) (p : ℕ) : Type 0 where
  pub size : length now ≡ length before
  pub others : (i : ℕ) → (i < 2) ⊎ (2 + states ≤ i) → get_or now i 0 ≡ get_or before i 0
  pub done : (q : ℕ) → q < p → Members (get_or now (closure_of q) 0) (Star (Turn (graph before states g h)) q)

pub record WithClosures (states g h : ℕ) (before after : List ℕ) : Type 0 where
  pub size : length after ≡ length before
  pub epsilons : get_or after 0 0 ≡ get_or before 0 0
  pub rows : (i : ℕ) → 2 + states ≤ i → get_or after i 0 ≡ get_or before i 0
  pub all : (p : ℕ) → p < states → In (get_or after 1 0) p
  pub closed : (p : ℕ) → In (get_or after 1 0) p → Closed after states g h p
