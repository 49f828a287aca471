-- The lengths of the lines of specs/Format.antt.
--
-- header_wide, state_wide, transition_wide == the lines of a sheet
use Rattle.std.specs.Prelude.{ℕ, ◌≡◌, List, [], ◌∷◌, length}
use Rattle.columns.specs.Line.Laws.{line_length}
use Rattle.fsbm.specs.Machine.{mark_of, transition_at}
use Rattle.fsbm.specs.declared.machine.Machine.{Machine}
use Rattle.sheet.specs.Format.{header_line, state_line, transition_line}

pub header_wide : (m : Machine) → length (header_line m) ≡ 16
unfolding header_line
header_wide m = line_length 5 (m.states ∷ m.letters ∷ m.transitions ∷ [])

pub state_wide : (marks : List ℕ) (q : ℕ) → length (state_line marks q) ≡ 11
unfolding state_line
state_wide marks q = line_length 5 (q ∷ mark_of marks q ∷ [])

pub transition_wide : (list : List ℕ) (k : ℕ) → length (transition_line list k) ≡ 16
unfolding transition_line
transition_wide list k = line_length 5 ((transition_at list k).from ∷ (transition_at list k).letter ∷ (transition_at list k).to ∷ [])
