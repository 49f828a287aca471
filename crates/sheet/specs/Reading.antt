-- What a sheet says: its first fault in reading order, its machine, its transitions, and what read_sheet answers.
--
-- column_at s i            == the number in the column of five bytes at byte i; no_number where they are not a column
-- line_fault s n i         == 1 or 2 for the line of n columns at byte i, or 0
-- transition_in s i        == the transition in the line at byte i
-- header_fault s           == the first fault of line one: 1, 2, 3, or 0
-- state_fault s q          == the first fault of the line of state q: 1, 2, 4, or 0
-- transition_fault s states letters k == the first fault of the line of transition k: 1, 2, 5, 6, or 0
-- first_fault s            == the first fault of the sheet, 1 to 7, or 0
-- machine_of s             == the machine of a sheet without fault
-- transitions_of s         == its transitions, three numbers each
-- order_after states letters before t == the fault of a transition beside the one before it, if there is one: 5, 6, or 0
-- read_refusal s len       == what read_sheet refuses of the sheet and a list of this length, if anything
-- read_answer s len        == what read_sheet answers to a list of this length
-- read_list s list         == what the list holds afterwards
-- read_values s len        == the number and values of what it answers, by the rules
use Rattle.std.specs.Prelude.{ℕ, ◌+◌, ◌*◌, ◌-◌, ◌/◌, ◌%◌, List, [], ◌∷◌, ◌++◌, Option, None, Some, Result, Ok, Err, Bool, true, false, cond, not, ◌&&◌, ◌||◌, length, drop, get_or, replicate, leb, eqb}
use Rattle.columns.specs.Column.{no_number}
use Rattle.columns.specs.Line.{number_at}
use Rattle.fsbm.specs.Machine.{max_states, max_letters, max_transitions, named, precedes}
use Rattle.fsbm.specs.Answers.{refusal, by_refusal, no_machine, MachineValues}
use Rattle.fsbm.specs.declared.machine.Machine.{Machine}
use Rattle.fsbm.specs.declared.machine.Transition.{Transition}
use Rattle.fsbm.specs.declared.answer.Refusal.{Refusal}
use Rattle.fsbm.specs.declared.answer.Refusal.TheVariants.{ShortList}
use Rattle.sheet.specs.declared.faults.Line.{Line}
use Rattle.sheet.specs.Format.{sheet_column, state_start, transition_start}
use Rattle.sheet.specs.Series.{or_else, first_of}
use Rattle.basics.specs.Each.{each_below}
pub mod Laws

unfoldable pub column_at : List ℕ → ℕ → ℕ
column_at s i = number_at sheet_column s i

-- 0 where a test holds, else this fault
abbrev pub unless : Bool → ℕ → ℕ
unless b fault = cond b 0 fault

-- 2: column c of the line at byte i is not as described
unfoldable pub column_fault : List ℕ → ℕ → ℕ → ℕ
column_fault s i c = unless (not (eqb (column_at s (i + c * 5)) no_number)) 2

-- 1: fewer bytes are left than the line takes; 2: a column or the line end is not as described
unfoldable pub line_fault : List ℕ → ℕ → ℕ → ℕ
line_fault s n i =
    or_else (unless (leb (i + n * 5 + 1) (length s)) 1)
    (or_else (first_of n (column_fault s i)) (unless (eqb (get_or s (i + n * 5) 0) 10) 2))

-- 3: a count outside its range
unfoldable pub counts_fault : ℕ → ℕ → ℕ → ℕ
counts_fault states letters transitions =
    unless (leb 1 states && (leb states max_states && (leb letters max_letters && leb transitions max_transitions))) 3

unfoldable pub header_fault : List ℕ → ℕ
header_fault s = or_else (line_fault s 3 0) (counts_fault (column_at s 0) (column_at s 5) (column_at s 10))

-- 4: state number out of turn, or a mark above 15 or with both 4 (buffering) and 8 (matching)
unfoldable pub mark_fault : ℕ → ℕ → ℕ → ℕ
mark_fault q number mark =
    unless (eqb number q && (leb mark 15 && not (eqb (mark / 4 % 2) 1 && eqb (mark / 8 % 2) 1))) 4

unfoldable pub state_fault : List ℕ → ℕ → ℕ
state_fault s q = or_else (line_fault s 2 (state_start q)) (mark_fault q (column_at s (state_start q)) (column_at s (state_start q + 5)))

unfoldable pub transition_in : List ℕ → ℕ → Transition
transition_in s i = record { from = column_at s i; letter = column_at s (i + 5); to = column_at s (i + 10) }

-- the numbers of a line as a transition
abbrev pub as_transition : Line → Transition
as_transition t = record { from = t.from; letter = t.letter; to = t.to }

-- 5: a transition names a state or letter that is not there; 6: it does not come strictly after the one before it
unfoldable pub order_fault : ℕ → ℕ → Bool → Transition → Transition → ℕ
order_fault states letters first before t =
    or_else (unless (named states letters t) 5) (unless (first || precedes before t) 6)

abbrev pub order_after : ℕ → ℕ → Option Line → Line → ℕ
order_after states letters None t = order_fault states letters true (as_transition t) (as_transition t)
order_after states letters (Some before) t = order_fault states letters false (as_transition before) (as_transition t)

unfoldable pub transition_fault : List ℕ → ℕ → ℕ → ℕ → ℕ
transition_fault s states letters k =
    or_else (line_fault s 3 (transition_start states k))
    (order_fault states letters (eqb k 0) (transition_in s (transition_start states (k - 1))) (transition_in s (transition_start states k)))

-- 7: bytes after the last line
unfoldable pub rest_fault : List ℕ → ℕ → ℕ → ℕ
rest_fault s states transitions =
    let faults = first_of states (state_fault s) in
    or_else faults
    (or_else (first_of transitions (transition_fault s states (column_at s 5))) (unless (leb (length s) (transition_start states transitions)) 7))

-- The `let` keeps the counts of a line one with a fault from being used.
unfoldable pub first_fault : List ℕ → ℕ
first_fault s = let rest = rest_fault s (column_at s 0) (column_at s 10) in cond (eqb (header_fault s) 0) rest (header_fault s)

-- the marks of the states, and 0 past the last one
unfoldable pub marks_of : List ℕ → ℕ → List ℕ
marks_of s states = each_below states (λ q. column_at s (state_start q + 5) ∷ []) ++ replicate (max_states - states) 0

unfoldable pub machine_of : List ℕ → Machine
machine_of s = record { states = column_at s 0; letters = column_at s 5; transitions = column_at s 10; marks = marks_of s (column_at s 0) }

unfoldable pub numbers_in : List ℕ → ℕ → List ℕ
numbers_in s i = column_at s i ∷ column_at s (i + 5) ∷ column_at s (i + 10) ∷ []

unfoldable pub transitions_of : List ℕ → List ℕ
transitions_of s = each_below (column_at s 10) (λ k. numbers_in s (transition_start (column_at s 0) k))

-- 15 last: the list is too short for the sheet
unfoldable pub read_refusal : List ℕ → ℕ → Option Refusal
read_refusal s len =
    cond (eqb (first_fault s) 0)
    (cond (leb (column_at s 10 * 3) len) None (Some (ShortList (column_at s 10 * 3))))
    (Some (refusal (first_fault s)))

unfoldable pub read_answer : List ℕ → ℕ → Result Machine Refusal
read_answer s len = by_refusal (read_refusal s len) (Ok (machine_of s)) (λ f. Err f)

unfoldable pub read_list : List ℕ → List ℕ → List ℕ
read_list s list = by_refusal (read_refusal s (length list)) (transitions_of s ++ drop (column_at s 10 * 3) list) (λ f. list)

-- the number and values of the answer, by the rules
unfoldable pub read_values : List ℕ → ℕ → MachineValues
read_values s len =
    cond (eqb (first_fault s) 0)
    (cond (leb (column_at s 10 * 3) len) (record { refusal = 0; needed = 0; machine = machine_of s }) (record { refusal = 15; needed = column_at s 10 * 3; machine = no_machine }))
    (record { refusal = first_fault s; needed = 0; machine = no_machine })
