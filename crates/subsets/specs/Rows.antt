-- What is kept of the subset construction, and what holds of it. The laws stand in specs/Rows/Laws.antt.
--
-- slots, most_columns            == how many slots there are; the most columns of a mode
-- cell_of columns r T c          == where the steps have the number of row r for mode T and column c
-- Begun G T p q                 == column 0: in normal mode from p to q at one position; else p begins the mode, and leads to q by epsilon moves
-- Reads G T x p q               == a letter's column: a move that reads x from p to q in normal mode; else with epsilon moves after it
-- Image G T c p q               == the column c: one of these
-- HasRow rows set r             == r is the number of a row, and that is the row of the set
-- Leads rows r to               == r and to are numbers of rows that are taken
-- Sized columns rows steps      == the rows that are taken have room, their steps lead to such rows, and other rows have no steps
-- Right G columns rows steps    == each step that is kept leads to the set that its row's set leads to
-- Kept G columns rows steps     == both
-- Found columns rows steps T c set row r == row is the row of the set, and its step by mode T and column c is r, which is not 0
-- Rowed columns rows steps rows' steps' set r == r is none or the row of the set in what is kept then; what was right is right
-- Noted columns rows steps steps' T c set to == what was right is right with one step more, if by mode T and column c the set leads to the set to
use Rattle.std.specs.Prelude.{ℕ, suc, ◌+◌, ◌*◌, ◌≤◌, ◌<◌, ◌≡◌, ◌⊎◌, List, length, get_or, Option, IfSome}
use Rattle.stateset.specs.Set.{In}
use Rattle.fsbm.specs.Moves.{mode_number}
use Rattle.fsbm.specs.declared.config.Mode.{Mode}
use Rattle.fsbm.specs.declared.config.Mode.TheVariants.{Normal, Buffering, Emptying}
use Rattle.images.specs.Graph.{Members, From, Star, Graph, Edge, Free, Advance, Turn}
pub mod Laws

abbrev pub slots : ℕ
slots = 1021

abbrev pub most_columns : ℕ
most_columns = 257

abbrev pub cell_of : ℕ → ℕ → Mode → ℕ → ℕ
cell_of columns r T c = slots + (r * 3 + mode_number T) * columns + c

abbrev pub Begun : Graph → Mode → ℕ → ℕ → Type 0
Begun G Normal p q = Star (Turn G) p q
Begun G Buffering p q = In G.buffering p × Free G Buffering p q
Begun G Emptying p q = In G.matching p × Free G Emptying p q

abbrev pub Reads : Graph → Mode → ℕ → ℕ → ℕ → Type 0
Reads G Normal x p q = (0 < x) × Edge G Normal x p q
Reads G Buffering x p q = Advance G Buffering x p q
Reads G Emptying x p q = Advance G Emptying x p q

pub data Image (G : Graph) (T : Mode) (c p q : ℕ) : Type 0 where
  begun : c ≡ 0 → Begun G T p q → Image G T c p q
  reads : (x : ℕ) → c ≡ suc x → Reads G T x p q → Image G T c p q

pub record HasRow (rows : List ℕ) (set r : ℕ) : Type 0 where
  pub some : 0 < r
  pub taken : r < get_or rows 0 0
  pub own : get_or rows r 0 ≡ set

pub record Leads (rows : List ℕ) (r to : ℕ) : Type 0 where
  pub some : 0 < r
  pub from_taken : r < get_or rows 0 0
  pub to_taken : to < get_or rows 0 0

pub record Sized (columns : ℕ) (rows steps : List ℕ) : Type 0 where
  pub few : columns ≤ most_columns
  pub some : 0 < length rows
  pub counted : get_or rows 0 0 ≤ length rows
  pub numbered : get_or rows 0 0 ≤ 65535
  pub room : (r : ℕ) → 0 < r → r < get_or rows 0 0 → slots + (r * 3 + 3) * columns ≤ length steps
  pub steps_lead : (r : ℕ) (T : Mode) (c : ℕ) → c < columns → (get_or steps (cell_of columns r T c) 0 ≡ 0) ⊎ Leads rows r (get_or steps (cell_of columns r T c) 0)

abbrev pub Right : Graph → ℕ → List ℕ → List ℕ → Type 0
Right G columns rows steps =
    (r : ℕ) (T : Mode) (c : ℕ) → c < columns → 0 < get_or steps (cell_of columns r T c) 0 → Members (get_or rows (get_or steps (cell_of columns r T c) 0) 0) (From (get_or rows r 0) (Image G T c))

pub record Kept (G : Graph) (columns : ℕ) (rows steps : List ℕ) : Type 0 where
  pub sized : Sized columns rows steps
  pub right : Right G columns rows steps

pub record Found (columns : ℕ) (rows steps : List ℕ) (T : Mode) (c set row r : ℕ) : Type 0 where
  pub column : c < columns
  pub some : 0 < r
  pub own : HasRow rows set row
  pub step : r ≡ get_or steps (cell_of columns row T c) 0

pub record Rowed (columns : ℕ) (rows steps rows' steps' : List ℕ) (set : ℕ) (r : Option ℕ) : Type 0 where
  pub row : IfSome r (HasRow rows' set)
  pub sized : Sized columns rows' steps'
  pub right : (G : Graph) → Right G columns rows steps → Right G columns rows' steps'

pub record Noted (columns : ℕ) (rows steps steps' : List ℕ) (T : Mode) (c set to : ℕ) : Type 0 where
  pub sized : Sized columns rows steps'
  pub right : (G : Graph) → Right G columns rows steps → Members to (From set (Image G T c)) → Right G columns rows steps'
