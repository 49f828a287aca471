-- What the functions on sets of states compute: images and closures of a set under the transitions that a mode may take.
--
-- Members r P            == r is a set of states whose members are the states of which P holds
-- Fitting n sets         == a list of n sets of states
-- From set R q           == q is R-related to some member of the set
-- Star R p q             == q is reached from p by any number of R-steps
-- closure_of p            == where a table of where transitions lead has the closure of the state p: behind its first two sets, in the order of the states
-- set_of states x p       == where it has the set of the letter x and the state p: behind the closures the rows of the letters in order, letter 0 first,
--                           with one set for each state
-- Graph                  == such a table, the number of states, the set of buffering states, the set of matching states
-- May g h T p q          == mode T may take a transition from p to q (document 01, "How a run moves")
-- Edge G T x p q         == the table has q for letter x and the state p, and mode T may take a transition from p to q
-- Free G T p q           == q is reached from p in mode T by epsilon moves
-- Advance G T x p q      == q is reached from p in mode T by a move that reads x and then epsilon moves
-- EmptyCopy G p q        == from p in normal mode to q in normal mode by a copy of nothing, in epsilon moves
-- Turn G p q             == an epsilon move in normal mode, or an empty copy
-- Room targets states x  == the table has room for the row of the letter x
-- Closed targets states g h p == the table has the closure of the state p: what p reaches at a position by epsilon moves and empty copies
-- Good targets states g h == the table has room for the row of letter 0, each state with an epsilon transition is in the table's first set, and the
--                           closure of each state of its second set is there
-- Kind marks states b set == the set of the states below a number whose mark has the bit of value b
-- KindsOf marks states k == the four sets of states by their marks
use Rattle.std.specs.Prelude.{ℕ, ◌+◌, ◌*◌, ◌/◌, ◌%◌, ◌^◌, ◌≤◌, ◌<◌, ◌≡◌, ◌↔◌, ◌⊎◌, List, length, get_or}
use Rattle.stateset.specs.Set.{width, In}
use Rattle.fsbm.specs.Machine.{mark_of}
use Rattle.fsbm.specs.declared.config.Mode.{Mode}
use Rattle.fsbm.specs.declared.config.Mode.TheVariants.{Normal, Buffering, Emptying}
use Rattle.images.specs.declared.Kinds.{Kinds}

pub record Members (r : ℕ) (P : ℕ → Type 0) : Type 0 where
  pub fits : r < 2 ^ width
  pub members : (q : ℕ) → In r q ↔ P q

-- n sets of states
pub record Fitting (n : ℕ) (sets : List ℕ) : Type 0 where
  pub size : length sets ≡ n
  pub each : (k : ℕ) → get_or sets k 0 < 2 ^ width

abbrev pub From : ℕ → (ℕ → ℕ → Type 0) → ℕ → Type 0
From set R q = (p : ℕ) × In set p × R p q

pub data Star (R : ℕ → ℕ → Type 0) : ℕ → ℕ → Type 0 where
  here : {p : ℕ} → Star R p p
  more : {p q r : ℕ} → Star R p q → R q r → Star R p r

abbrev pub closure_of : ℕ → ℕ
closure_of p = 2 + p

abbrev pub set_of : ℕ → ℕ → ℕ → ℕ
set_of states x p = 2 + states + x * states + p

pub record Graph : Type 0 where
  pub targets : List ℕ
  pub states : ℕ
  pub buffering : ℕ
  pub matching : ℕ

abbrev pub graph : List ℕ → ℕ → ℕ → ℕ → Graph
graph targets states g h = record { targets = targets; states = states; buffering = g; matching = h }

-- normal: not both ends matching, and not from a buffering state; buffering: not both matching, and not into a buffering state;
-- emptying: both matching
abbrev pub May : ℕ → ℕ → Mode → ℕ → ℕ → Type 0
May g h Normal p q = (In h p × In h q → ⊥) × (In g p → ⊥)
May g h Buffering p q = (In h p × In h q → ⊥) × (In g q → ⊥)
May g h Emptying p q = In h p × In h q

pub record Edge (G : Graph) (T : Mode) (x p q : ℕ) : Type 0 where
  pub state : p < G.states
  pub target : In (get_or G.targets (set_of G.states x p) 0) q
  pub may : May G.buffering G.matching T p q

abbrev pub Free : Graph → Mode → ℕ → ℕ → Type 0
Free G T = Star (Edge G T 0)

pub record Advance (G : Graph) (T : Mode) (x p q : ℕ) : Type 0 where
  pub letter : 0 < x
  pub middle : ℕ
  pub edge : Edge G T x p middle
  pub free : Free G T middle q

pub record EmptyCopy (G : Graph) (p q : ℕ) : Type 0 where
  pub begins : In G.buffering p
  pub middle : ℕ
  pub storing : Free G Buffering p middle
  pub turns : In G.matching middle
  pub emptying : Free G Emptying middle q

abbrev pub Turn : Graph → ℕ → ℕ → Type 0
Turn G p q = Edge G Normal 0 p q ⊎ EmptyCopy G p q

abbrev pub Room : List ℕ → ℕ → ℕ → Type 0
Room targets states x = set_of states x states ≤ length targets

pub record Closed (targets : List ℕ) (states g h p : ℕ) : Type 0 where
  pub state : p < states
  pub closure : Members (get_or targets (closure_of p) 0) (Star (Turn (graph targets states g h)) p)

pub record Good (targets : List ℕ) (states g h : ℕ) : Type 0 where
  pub few : states ≤ width
  pub row : Room targets states 0
  pub epsilons : (p q : ℕ) → p < states → In (get_or targets (set_of states 0 p) 0) q → In (get_or targets 0 0) p
  pub closed : (p : ℕ) → In (get_or targets 1 0) p → Closed targets states g h p

abbrev pub Kind : List ℕ → ℕ → ℕ → ℕ → Type 0
Kind marks states b set = Members set (λ q. (q < states) × (mark_of marks q / b % 2 ≡ 1))

pub record KindsOf (marks : List ℕ) (states : ℕ) (k : Kinds) : Type 0 where
  pub initial : Kind marks states 1 k.initial
  pub finals : Kind marks states 2 k.finals
  pub buffering : Kind marks states 4 k.buffering
  pub matching : Kind marks states 8 k.matching
