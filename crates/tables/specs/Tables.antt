-- The tables of rows that a run is written from. The laws stand in specs/Tables/Laws.antt.
--
-- near_of m w sets k           == the states that are kept in normal mode where k letters are left: those of the reached sets
-- Known m list targets g h w  == what the functions below are given: the table of target sets with the rows of the word's letters, and
--                                the sets of the buffering and the matching states
-- row_at rows i                == row i of a table
-- PositionRows m list sets w t p      == the rows p × 3, p × 3 + 1, p × 3 + 2 of t are those of position p: normal, buffering, emptying, the buffer empty
-- EmptyRow m list sets w e r row   == the row of emptying mode at e - r, with the r letters that stand before e still in the buffer
-- BufferRow m list sets w i d row  == the row of buffering mode at i + d, with the d letters from i on in the buffer
-- ChangeLayer m list sets w i d layer == the row of emptying mode at i + d, with the d letters from i on in the buffer; a layer that is None
--                                is a blank row
-- EmptyingRows, BufferingRows == all rows of a copy: of its second half, of its first half
-- BlankFrom m list sets w e k      == the rows of the copies that end at e are blank from k letters on
-- Extended m list sets w e d tail row == the row of the copies that end at e with d letters left, or from where on their rows are blank
-- EndRow m list sets w e row left  == row is that of the copies that end at e with as many letters left as are kept, or from so many letters on they are blank
-- EndRows m list sets w p ends left   == ends and left say this of every end from p on
-- BlankBy left k              == the rows with k letters left are known to be blank
-- Fruitless w i left k             == no copy of the k letters from i on goes on: they do not stand there twice, or left says that its end is blank
-- Skipped w i d left r        == those of r + 1, .., d letters are fruitless
-- EndedRow, ChangedRow, StoredRow, StoringRow == what ended_row, change_row, stored_row and storing_row hand back
-- Sizes w t ends left         == the tables that rows are filled into are long enough for the word
-- Sized w t emptied stored    == the tables that a run is walked with are long enough for the word
-- put_position t p position          == the table with the rows of position p put in
-- Placed states p position t t' ends ends' left left' == the rows of position p were put into the tables
-- StartingRow .. i starts ends left layer == the row of the copies that begin at i, where they begin in some states
-- Filling m list sets w p t ends left counts == the positions from p on have their rows, and what the position before p needs is there
-- AllRows m list sets w t           == every position has its rows
use Rattle.std.specs.Prelude.{ℕ, ◌+◌, ◌-◌, ◌*◌, ◌/◌, ◌≤◌, ◌<◌, ◌≡◌, ◌⊎◌, Option, Result, Ok, Err, List, [], length, get_or, drop, set}
use Rattle.std.proofs.Math.Seq.{slice}
use Rattle.std.specs.Int.Bits.{bit_and}
use Rattle.stateset.specs.Set.{below}
use Rattle.targets.specs.Prepared.{Row}
use Rattle.fsbm.specs.declared.machine.Machine.{Machine}
use Rattle.fsbm.specs.declared.config.Mode.TheVariants.{Buffering, Emptying}
use Rattle.layers.specs.Costs.{RowBest}
use Rattle.layers.specs.Rows.{Given}
use Rattle.layers.specs.Layers.{blank_row, row_of, NoneBelow, BufferingLayer, PositionBest}
use Rattle.layers.specs.declared.layer.Position.{Position}
use Rattle.tables.specs.declared.ends.Left.{Left}
use Rattle.tables.specs.declared.ends.Left.TheVariants.{Kept, Blank}
use Rattle.tables.specs.Halves.{Halves, SharedFrom}
pub mod Laws
pub mod Once

abbrev pub row_at : List (List ℕ) → ℕ → List ℕ
row_at rows i = get_or rows i []

-- the states kept in normal mode where k letters are left: those that runs reach there
abbrev pub near_of : Machine → List ℕ → List ℕ → ℕ → ℕ
near_of m w sets = λ (k : ℕ). bit_and (get_or sets (length w - k) 0) (below m.states)

pub record Known (m : Machine) (list targets : List ℕ) (g h : ℕ) (w : List ℕ) : Type 0 where
  pub given : Given m list targets g h
  pub letters : (i : ℕ) → i < length w → Row m list targets (get_or w i 0)

unfoldable pub PositionRows : Machine → List ℕ → List ℕ → List ℕ → List (List ℕ) → ℕ → Type 0
PositionRows m list sets w t p = PositionBest m list (near_of m w sets) (drop p w) (row_at t (p * 3)) (row_at t (p * 3 + 1)) (row_at t (p * 3 + 2))

unfoldable pub EmptyRow : Machine → List ℕ → List ℕ → List ℕ → ℕ → ℕ → List ℕ → Type 0
EmptyRow m list sets w e r row = RowBest m list (near_of m w sets) (drop (e - r) w) (slice (e - r) e w) Emptying row

unfoldable pub BufferRow : Machine → List ℕ → List ℕ → List ℕ → ℕ → ℕ → List ℕ → Type 0
BufferRow m list sets w i d row = RowBest m list (near_of m w sets) (drop (i + d) w) (slice i (i + d) w) Buffering row

pub record EmptyingRows (m : Machine) (list sets w : List ℕ) (e d : ℕ) (rows rows' : List (List ℕ)) : Type 0 where
  pub size : length rows' ≡ length rows
  pub each : (r : ℕ) → r ≤ d → EmptyRow m list sets w e r (row_at rows' r)

pub record BufferingRows (m : Machine) (list sets w : List ℕ) (i : ℕ) (stored stored' : List (List ℕ)) : Type 0 where
  pub size : length stored' ≡ length stored
  pub each : (d : ℕ) → 0 < d → i + d + d ≤ length w → BufferRow m list sets w i d (row_at stored' d)

-- the row after the change of mode, at i + d with the d letters from i on in the buffer
abbrev pub ChangeLayer : Machine → List ℕ → List ℕ → List ℕ → ℕ → ℕ → Option (List ℕ) → Type 0
ChangeLayer m list sets w i d layer = RowBest m list (near_of m w sets) (drop (i + d) w) (slice i (i + d) w) Emptying (row_of layer)

abbrev pub BlankFrom : Machine → List ℕ → List ℕ → List ℕ → ℕ → ℕ → Type 0
BlankFrom m list sets w e k = (r : ℕ) → k ≤ r → r ≤ e → EmptyRow m list sets w e r blank_row

abbrev pub Extended : Machine → List ℕ → List ℕ → List ℕ → ℕ → ℕ → Result (Unit {0}) ℕ → List ℕ → Type 0
Extended m list sets w e d (Ok done) row = EmptyRow m list sets w e d row
Extended m list sets w e d (Err k) row = (k ≤ d) × BlankFrom m list sets w e k

abbrev pub EndRow : Machine → List ℕ → List ℕ → List ℕ → ℕ → List ℕ → Left → Type 0
EndRow m list sets w e row (Kept k) = (k ≤ e) × EmptyRow m list sets w e k row
EndRow m list sets w e row (Blank k) = BlankFrom m list sets w e k

pub record EndRows (m : Machine) (list sets w : List ℕ) (p : ℕ) (ends : List (List ℕ)) (left : List Left) : Type 0 where
  pub rows : length w < length ends
  pub counts : length w < length left
  pub each : (e : ℕ) → p ≤ e → e ≤ length w → EndRow m list sets w e (row_at ends e) (get_or left e (Kept 0))

abbrev pub BlankBy : Left → ℕ → Type 0
BlankBy (Kept n) k = ⊥
BlankBy (Blank n) k = n ≤ k

abbrev pub Fruitless : List ℕ → ℕ → List Left → ℕ → Type 0
Fruitless w i left k = (Halves w i k → ⊥) ⊎ (Halves w i k × BlankBy (get_or left (i + k + k) (Kept 0)) k)

pub record Skipped (w : List ℕ) (i d : ℕ) (left : List Left) (r : ℕ) : Type 0 where
  pub within : r ≤ d
  pub fruitless : (k : ℕ) → r < k → k ≤ d → Fruitless w i left k

pub record EndedRow (m : Machine) (list sets w : List ℕ) (e d : ℕ) (ends ends' : List (List ℕ)) (left left' : List Left) (layer : Option (List ℕ)) : Type 0 where
  pub row : EmptyRow m list sets w e d (row_of layer)
  pub kept : (p : ℕ) → EndRows m list sets w p ends left → EndRows m list sets w p ends' left'

pub record ChangedRow (m : Machine) (list sets w : List ℕ) (i d : ℕ) (ends : List (List ℕ)) (left : List Left) (layer : Option (List ℕ)) : Type 0 where
  pub row : ChangeLayer m list sets w i d layer
  pub ending : EndRows m list sets w (i + 1) ends left

abbrev pub StoredRow : Machine → List ℕ → ℕ → Option (List ℕ) → Option (List ℕ) → Option (List ℕ) → Type 0
StoredRow m list x next change layer = BufferingLayer m list x (row_of next) (row_of change) (row_of layer)

pub record StoringRow (m : Machine) (list sets w : List ℕ) (i : ℕ) (ends : List (List ℕ)) (left : List Left) (layer : Option (List ℕ)) : Type 0 where
  pub row : BufferRow m list sets w i 1 (row_of layer)
  pub ending : EndRows m list sets w (i + 1) ends left

-- the tables that rows are filled into are long enough for the word
pub record Sizes (w : List ℕ) (t ends : List (List ℕ)) (left : List Left) : Type 0 where
  pub positions : length w * 3 + 3 ≤ length t
  pub rows : length w < length ends
  pub counts : length w < length left

-- the tables that a run is walked with are long enough for the word
pub record Sized (w : List ℕ) (t emptied stored : List (List ℕ)) : Type 0 where
  pub positions : length w * 3 + 3 ≤ length t
  pub emptied_rows : length w / 2 < length emptied
  pub stored_rows : length w / 2 < length stored

abbrev pub put_position : List (List ℕ) → ℕ → Position → List (List ℕ)
put_position t p position = set (set (set t (p * 3) position.normal) (p * 3 + 1) position.buffering) (p * 3 + 2) position.emptying

-- the row of a position, and what the copies that end there begin with, were put into the tables
pub record Placed (states p : ℕ) (position : Position) (t t' ends ends' : List (List ℕ)) (left left' : List Left) : Type 0 where
  pub put : t' ≡ put_position t p position
  pub ending : ((ends' ≡ set ends p position.emptying) × (left' ≡ set left p (Kept 0))) ⊎ (NoneBelow states position.emptying × (ends' ≡ ends) × (left' ≡ set left p (Blank 0)))

-- where copies begin at i in some states: the row of those that begin there
pub record StartingRow (m : Machine) (list sets w : List ℕ) (i starts : ℕ) (ends : List (List ℕ)) (left : List Left) (layer : Option (List ℕ)) : Type 0 where
  pub row : 0 < starts → BufferRow m list sets w i 1 (row_of layer)
  pub ending : EndRows m list sets w (i + 1) ends left

-- the positions from p on have their rows; ends and left stand for the copies that end there, counts for the letters from p on
pub record Filling (m : Machine) (list sets w : List ℕ) (p : ℕ) (t ends : List (List ℕ)) (left : List Left) (counts : List ℕ) : Type 0 where
  pub positions : length w * 3 + 3 ≤ length t
  pub each : (k : ℕ) → p ≤ k → k ≤ length w → PositionRows m list sets w t k
  pub ending : EndRows m list sets w p ends left
  pub counted : SharedFrom w p counts

abbrev pub AllRows : Machine → List ℕ → List ℕ → List ℕ → List (List ℕ) → Type 0
AllRows m list sets w t = (p : ℕ) → p ≤ length w → PositionRows m list sets w t p
