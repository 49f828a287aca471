-- The sheet of a table (document 01, "The sheet"). The lengths of its lines stand in specs/Format/Laws.antt.
--
-- Short t                == the numbers of the transition t have at most two, three and two digits
-- sheet_column            == the bytes of a column
-- state_start q           == the byte where the line of state q starts
-- transition_start n k    == the byte where the line of transition k starts, with n states
-- sheet_length m          == the length of the table's sheet
-- sheet_of m list         == the sheet of a table
use Rattle.std.specs.Prelude.{ℕ, ◌+◌, ◌*◌, ◌<◌, List, [], ◌∷◌, ◌++◌}
use Rattle.columns.specs.Line.{line_of}
use Rattle.fsbm.specs.Machine.{mark_of, transition_at}
use Rattle.fsbm.specs.declared.machine.Machine.{Machine}
use Rattle.fsbm.specs.declared.machine.Transition.{Transition}
use Rattle.basics.specs.Each.{each_below}
pub mod Laws

abbrev pub Short : Transition → Type 0
Short t = (t.from < 100) × (t.letter < 1000) × (t.to < 100)

abbrev pub sheet_column : ℕ
sheet_column = 5

-- line one has three columns and so 16 bytes, a state's line two and 11, a transition's line three and 16
abbrev pub state_start : ℕ → ℕ
state_start q = 16 + 11 * q

abbrev pub transition_start : ℕ → ℕ → ℕ
transition_start states k = 16 + 11 * states + 16 * k

abbrev pub sheet_length : Machine → ℕ
sheet_length m = transition_start m.states m.transitions

unfoldable pub header_line : Machine → List ℕ
header_line m = line_of sheet_column (m.states ∷ m.letters ∷ m.transitions ∷ [])

unfoldable pub state_line : List ℕ → ℕ → List ℕ
state_line marks q = line_of sheet_column (q ∷ mark_of marks q ∷ [])

unfoldable pub transition_line : List ℕ → ℕ → List ℕ
transition_line list k = line_of sheet_column ((transition_at list k).from ∷ (transition_at list k).letter ∷ (transition_at list k).to ∷ [])

unfoldable pub sheet_of : Machine → List ℕ → List ℕ
sheet_of m list = header_line m ++ (each_below m.states (state_line m.marks) ++ each_below m.transitions (transition_line list))
