-- What the loops over a row do to it: they lower its numbers to candidates. The laws stand in specs/Rows/Laws.antt.
--
-- Given m list targets g h   == the table of target sets with its row of epsilon, and the sets of the buffering and the matching states
-- weight row                 == the sum of its numbers
-- Lowered row a v row' r     == row' is row with v + 1 at state a, where that is less; r says whether it is
-- Lowering C row row' r      == row' is row, lowered to candidates as far as any of them is less; C q v says that v is a candidate for state q;
--                               r says whether any number is less now
-- Through m list t x next q v == v is one more than the number in `next` at the end of some transition that leads from q
-- Reads m list t x next q v  == the same, where x is a letter
-- Beside next q v            == v is one more than the number of q in `next`
-- Only C a q v               == a candidate of state a
-- Within C set q v           == a candidate of a state of the set
-- Swept C set rest q v       == a candidate of a state of the set that is not among the rest
-- Apart h a b r              == r has those states of b that are not matching where a is
-- Cut g h t a b r            == r has those states of b that mode t lets a transition from a lead to
-- Glance row k s             == s says of the states below k which have a number in the row, the least number, and which have it
-- Seen row t s               == s says of the states of t the least number, and which have it
-- LeastOf row t r            == r is the least number of the states of t in the row
-- Closed m list S t row row' == row' is row, lowered along transitions that read nothing, from states of which S holds, until none of them
--                               would lower it further
use Rattle.std.specs.Prelude.{ℕ, suc, ◌+◌, ◌≤◌, ◌<◌, ◌≡◌, ◌⊎◌, ◌↔◌, Bool, true, false, cond, List, [], ◌∷◌, length, get_or, set, ltb}
use Rattle.stateset.specs.Set.{In}
use Rattle.fsbm.specs.Machine.{well_formed, transition_at, buffering, matching}
use Rattle.fsbm.specs.Published.{Listed}
use Rattle.fsbm.specs.declared.machine.Machine.{Machine}
use Rattle.fsbm.specs.declared.config.Mode.{Mode}
use Rattle.fsbm.specs.declared.config.Mode.TheVariants.{Normal}
use Rattle.targets.specs.Prepared.{Row}
use Rattle.images.specs.Graph.{May}
use Rattle.layers.specs.declared.row.Sum.{Sum}
use Rattle.layers.specs.Costs.{none, at, Near, Leads, Bounded, RowReal}
pub mod Laws
pub mod Once

pub record Given (m : Machine) (list targets : List ℕ) (g h : ℕ) : Type 0 where
  pub good : well_formed m list ≡ true
  pub epsilon : Row m list targets 0
  pub sources : (p q : ℕ) → Listed list m.transitions p 0 q → In (get_or targets 0 0) p
  pub bufferings : (q : ℕ) → In g q ↔ (buffering m.marks q ≡ true)
  pub matchings : (q : ℕ) → In h q ↔ (matching m.marks q ≡ true)

unfoldable pub weight : List ℕ → ℕ
weight [] = 0
weight (x ∷ l) = x + weight l

unfoldable pub lowered : List ℕ → ℕ → ℕ → Bool → List ℕ
lowered row a v b = cond b (set row a (suc v)) row

pub record Lowered (row : List ℕ) (a v : ℕ) (row' : List ℕ) (r : Bool) : Type 0 where
  pub told : r ≡ ltb (suc v) (at row a)
  pub is : row' ≡ lowered row a v r
  pub small : at row a ≤ none

pub record Lowering (C : ℕ → ℕ → Type 0) (row row' : List ℕ) (r : Bool) : Type 0 where
  pub size : length row' ≡ length row
  pub origin : (q : ℕ) → (at row' q ≡ at row q) ⊎ C q (at row' q)
  pub settled : (q v : ℕ) → C q v → at row' q ≤ v
  pub lower : (q : ℕ) → at row' q ≤ at row q
  pub fewer : weight row' ≤ weight row
  pub same : r ≡ false → row' ≡ row
  pub less : r ≡ true → weight row' < weight row

pub record Through (m : Machine) (list : List ℕ) (t : Mode) (x : ℕ) (next : List ℕ) (q v : ℕ) : Type 0 where
  pub number : ℕ
  pub leads : Leads m list t x number
  pub from : (transition_at list number).from ≡ q
  pub value : v ≡ suc (at next (transition_at list number).to)

-- the same, where x is a letter
pub record Reads (m : Machine) (list : List ℕ) (t : Mode) (x : ℕ) (next : List ℕ) (q v : ℕ) : Type 0 where
  pub some : 0 < x
  pub through : Through m list t x next q v

pub record Beside (next : List ℕ) (q v : ℕ) : Type 0 where
  pub value : v ≡ suc (at next q)

pub record Only (C : ℕ → ℕ → Type 0) (a q v : ℕ) : Type 0 where
  pub here : q ≡ a
  pub is : C q v

pub record Within (C : ℕ → ℕ → Type 0) (set q v : ℕ) : Type 0 where
  pub inside : In set q
  pub is : C q v

pub record Swept (C : ℕ → ℕ → Type 0) (set rest q v : ℕ) : Type 0 where
  pub inside : In set q
  pub done : In rest q → ⊥
  pub is : C q v

abbrev pub Apart : ℕ → ℕ → ℕ → ℕ → Type 0
Apart h a b r = (q : ℕ) → In r q ↔ (In b q × (In h a × In h q → ⊥))

abbrev pub Cut : ℕ → ℕ → Mode → ℕ → ℕ → ℕ → Type 0
Cut g h t a b r = (q : ℕ) → In r q ↔ (In b q × May g h t a q)

pub record Glance (row : List ℕ) (k : ℕ) (s : Sum) : Type 0 where
  pub live : (q : ℕ) → q < k → at row q < none → In s.live q
  pub least : (q : ℕ) → q < k → s.least ≤ at row q
  pub lows : (q : ℕ) → In s.lows q → at row q ≡ s.least

pub record Seen (row : List ℕ) (t : ℕ) (s : Sum) : Type 0 where
  pub small : s.least ≤ none
  pub least : (q : ℕ) → In t q → s.least ≤ at row q
  pub lows : (q : ℕ) → In s.lows q → at row q ≡ s.least

pub record LeastOf (row : List ℕ) (t r : ℕ) : Type 0 where
  pub small : r ≤ none
  pub below : (q : ℕ) → In t q → r ≤ at row q
  pub real : r < none → (q : ℕ) × In t q × (r ≡ at row q)

pub record Closed (m : Machine) (list : List ℕ) (S : ℕ → Type 0) (t : Mode) (row row' : List ℕ) : Type 0 where
  pub real : (N : ℕ → ℕ) (u v : List ℕ) → (t ≡ Normal → v ≡ []) → (t ≡ Normal → (q : ℕ) → S q → Near N u q) → RowReal m list N u v t row → RowReal m list N u v t row'
  pub bounded : Bounded m list S t 0 row' row'
  pub lower : (q : ℕ) → at row' q ≤ at row q
  pub fewer : weight row' ≤ weight row
