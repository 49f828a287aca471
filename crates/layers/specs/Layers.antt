-- Whole layers: rows whose numbers are Best, from the rows of the layers after them. The laws stand in specs/Layers/Laws.antt.
--
-- head_of u, tail_of u   == the first letter of a string, 0 where it is empty; the rest of it
-- blank_row             == none everywhere
-- row_of r              == the row that is there, else a blank one
-- NoneBelow n row      == none at the states below n
-- Seeded m k row       == 0 at the final states below k, none elsewhere
-- FirstRow m last row  == 0 at the final states at the end of the word, none elsewhere
-- EmptyingLayer, BufferingLayer == the row of one mode, from those of the layers after it
-- Begins m N u         == a copy begins at the input u: some state that is kept in normal mode there is buffering
-- PositionBest m list N u n b e == the three rows of a position with an empty buffer; that of buffering mode only where a copy begins
-- Sets m N u near starts h == at the input u normal mode is kept in the states of near; starts has the buffering ones among them, h all
--                         matching states
-- Storing starts n r   == r has the states below n that a copy may be stored in
-- Settled m list near starts h n b e == no move within a position that reads nothing would lower a number of its three rows
-- ClosedPlace .. n b e n' b' e' == the three rows, lowered until they are Settled
-- PositionLayer           == the three rows of a position, from those of the layers after it
use Rattle.std.specs.Prelude.{Option, None, Some, ℕ, ◌+◌, ◌≤◌, ◌<◌, ◌≡◌, ◌↔◌, Bool, true, false, cond, List, [], ◌∷◌, ◌++◌, length, replicate}
use Rattle.stateset.specs.Set.{In}
use Rattle.fsbm.specs.Machine.{final, buffering, matching}
use Rattle.fsbm.specs.declared.machine.Machine.{Machine}
use Rattle.fsbm.specs.declared.config.Mode.TheVariants.{Normal, Buffering, Emptying}
use Rattle.layers.specs.Costs.{none, at, Near, RowReal, RowBest, Bounded, ChangeBound}
use Rattle.layers.specs.Rows.{weight}
pub mod Laws

unfoldable pub head_of : List ℕ → ℕ
head_of [] = 0
head_of (x ∷ u) = x

unfoldable pub tail_of : List ℕ → List ℕ
tail_of [] = []
tail_of (x ∷ u) = u

unfoldable pub blank_row : List ℕ
blank_row = replicate 64 none

-- no row is a blank one
abbrev pub row_of : Option (List ℕ) → List ℕ
row_of None = blank_row
row_of (Some row) = row

abbrev pub NoneBelow : ℕ → List ℕ → Type 0
NoneBelow n row = (q : ℕ) → q < n → none ≤ at row q

-- 0 at the final states below k, none elsewhere
pub record Seeded (m : Machine) (k : ℕ) (row : List ℕ) : Type 0 where
  pub size : length row ≡ 64
  pub done : (q : ℕ) → q < k → at row q ≡ cond (final m.marks q) 0 none
  pub rest : (q : ℕ) → k ≤ q → q < 64 → at row q ≡ none

-- the row that normal mode starts from: the goals are at the end of the word
pub record FirstRow (m : Machine) (last : Bool) (row : List ℕ) : Type 0 where
  pub at_end : last ≡ true → Seeded m m.states row
  pub before : last ≡ false → row ≡ blank_row

pub record EmptyingLayer (m : Machine) (list : List ℕ) (x : ℕ) (next row : List ℕ) : Type 0 where
  pub best : (N : ℕ → ℕ) (u v : List ℕ) → RowBest m list N u v Emptying next → RowBest m list N (x ∷ u) (x ∷ v) Emptying row

-- x is the first letter of the input, 0 where there is none; `emptied` is the row after the change of mode
pub record BufferingLayer (m : Machine) (list : List ℕ) (x : ℕ) (next emptied row : List ℕ) : Type 0 where
  pub best : (N : ℕ → ℕ) (u v : List ℕ) → x ≡ head_of u → (0 < x → RowBest m list N (tail_of u) (v ++ (x ∷ [])) Buffering next)
      → RowBest m list N u v Emptying emptied → RowBest m list N u v Buffering row

pub record Begins (m : Machine) (N : ℕ → ℕ) (u : List ℕ) : Type 0 where
  pub state : ℕ
  pub kept : Near N u state
  pub is : buffering m.marks state ≡ true

pub record PositionReal (m : Machine) (list : List ℕ) (N : ℕ → ℕ) (u n b e : List ℕ) : Type 0 where
  pub normal : RowReal m list N u [] Normal n
  pub buffering : RowReal m list N u [] Buffering b
  pub emptying : RowReal m list N u [] Emptying e

-- where no copy begins, nothing is said of the row of buffering mode
pub record Settled (m : Machine) (list : List ℕ) (near starts h : ℕ) (n b e : List ℕ) : Type 0 where
  pub in_normal : Bounded m list (In near) Normal 0 n n
  pub in_buffering : 0 < starts → Bounded m list (λ q. q < m.states) Buffering 0 b b
  pub in_emptying : Bounded m list (λ q. q < m.states) Emptying 0 e e
  pub begin_buffering : ChangeBound (In starts) n b
  pub begin_emptying : 0 < starts → ChangeBound (In h) b e
  pub back_to_normal : ChangeBound (In h) e n

pub record Sets (m : Machine) (N : ℕ → ℕ) (u : List ℕ) (near starts h : ℕ) : Type 0 where
  pub nears : (q : ℕ) → Near N u q ↔ In near q
  pub begins : (q : ℕ) → In starts q ↔ (In near q × (buffering m.marks q ≡ true))
  pub matches : (q : ℕ) → In h q ↔ (matching m.marks q ≡ true)

-- r has all states below n where there are starts, else none
pub record Storing (starts n r : ℕ) : Type 0 where
  pub inside : (q : ℕ) → In r q → (q < n) × (0 < starts)
  pub all : 0 < starts → (q : ℕ) → q < n → q < 64 → In r q

pub record LowerPlace (m : Machine) (list : List ℕ) (near starts h : ℕ) (n b e n' b' e' : List ℕ) : Type 0 where
  pub real : (N : ℕ → ℕ) (u : List ℕ) → Sets m N u near starts h → PositionReal m list N u n b e → PositionReal m list N u n' b' e'
  pub normal : (q : ℕ) → at n' q ≤ at n q
  pub buffering : (q : ℕ) → at b' q ≤ at b q
  pub emptying : (q : ℕ) → at e' q ≤ at e q

-- one round of lowering: r says whether a change of mode lowered anything
pub record Round (m : Machine) (list : List ℕ) (near starts h : ℕ) (n b e n' b' e' : List ℕ) (r : Bool) : Type 0 where
  pub lower : LowerPlace m list near starts h n b e n' b' e'
  pub settled : r ≡ false → Settled m list near starts h n' b' e'
  pub less : r ≡ true → weight n' + weight b' + weight e' < weight n + weight b + weight e

pub record ClosedPlace (m : Machine) (list : List ℕ) (near starts h : ℕ) (n b e n' b' e' : List ℕ) : Type 0 where
  pub lower : LowerPlace m list near starts h n b e n' b' e'
  pub settled : Settled m list near starts h n' b' e'

pub record PositionBest (m : Machine) (list : List ℕ) (N : ℕ → ℕ) (u n b e : List ℕ) : Type 0 where
  pub normal : RowBest m list N u [] Normal n
  pub buffering : Begins m N u → RowBest m list N u [] Buffering b
  pub emptying : RowBest m list N u [] Emptying e

-- x is the first letter of the input, 0 where there is none; `last` says that the input is empty; normal mode is kept in the states of near
pub record PositionLayer (m : Machine) (list : List ℕ) (near : ℕ) (last : Bool) (x : ℕ) (next-n next-b n b e : List ℕ) : Type 0 where
  pub best : (N : ℕ → ℕ) (u : List ℕ) → ((q : ℕ) → Near N u q ↔ In near q) → (last ≡ true) ↔ (u ≡ []) → x ≡ head_of u → (0 < x → RowBest m list N (tail_of u) [] Normal next-n)
      → (Begins m N u → 0 < x → RowBest m list N (tail_of u) (x ∷ []) Buffering next-b) → PositionBest m list N u n b e
