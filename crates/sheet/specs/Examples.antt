-- Document 01's examples of sheets, as rows of one table, and the sheet of its table T; blank columns by document 02, change 8. All are
-- evaluated.
--
-- t_machine, t_list, t_sheet == table T (doubled words over the letters 1 and 2) and its sheet of 145 bytes
-- t_blank                  == the same with each 0 left out
-- t_lines a b              == T's sheet with this first line and this last line
-- rows                    == sheets and the first fault of each
-- rows_hold               == the table holds
-- t_written, t_read       == T's sheet is written, and read, as printed
-- t_blank_read            == with each 0 left out it is read as T too
use Rattle.std.specs.Prelude.{ℕ, ◌≡◌, refl, List, [], ◌∷◌, ◌++◌, Ok, Bool, true, replicate, eqb}
use Rattle.columns.specs.Column.{next, pass_from, found, column_number, digit_or, padded, column_of}
use Rattle.basics.specs.Search.{all_in}
use Rattle.fsbm.specs.declared.machine.Machine.{Machine}
use Rattle.sheet.specs.Series.{or_else, first_of}
use Rattle.basics.specs.Each.{each_below}
use Rattle.columns.specs.Line.{line_of}
use Rattle.sheet.specs.Format.{header_line, state_line, transition_line, sheet_of}
use Rattle.sheet.specs.Reading.{column_at, column_fault, line_fault, counts_fault, header_fault, mark_fault, state_fault, transition_in, order_fault}
use Rattle.sheet.specs.Reading.{transition_fault, rest_fault, first_fault, marks_of, machine_of, read_refusal, read_answer}

unfoldable pub t_machine : Machine
t_machine = record { states = 3; letters = 2; transitions = 6; marks = 5 ∷ 0 ∷ 10 ∷ replicate 61 0 }

unfoldable pub t_list : List ℕ
t_list =
    0 ∷ 0 ∷ 1
    ∷ 1 ∷ 0 ∷ 2
    ∷ 1 ∷ 1 ∷ 1
    ∷ 1 ∷ 2 ∷ 1
    ∷ 2 ∷ 1 ∷ 2
    ∷ 2 ∷ 2 ∷ 2 ∷ []

unfoldable pub t_lines : List ℕ → List ℕ → List ℕ
t_lines first last =
    first
    ++ (32 ∷ 32 ∷ 32 ∷ 32 ∷ 48 ∷ 32 ∷ 32 ∷ 32 ∷ 32 ∷ 53 ∷ 10
    ∷ 32 ∷ 32 ∷ 32 ∷ 32 ∷ 49 ∷ 32 ∷ 32 ∷ 32 ∷ 32 ∷ 48 ∷ 10
    ∷ 32 ∷ 32 ∷ 32 ∷ 32 ∷ 50 ∷ 32 ∷ 32 ∷ 32 ∷ 49 ∷ 48 ∷ 10
    ∷ 32 ∷ 32 ∷ 32 ∷ 32 ∷ 48 ∷ 32 ∷ 32 ∷ 32 ∷ 32 ∷ 48 ∷ 32 ∷ 32 ∷ 32 ∷ 32 ∷ 49 ∷ 10
    ∷ 32 ∷ 32 ∷ 32 ∷ 32 ∷ 49 ∷ 32 ∷ 32 ∷ 32 ∷ 32 ∷ 48 ∷ 32 ∷ 32 ∷ 32 ∷ 32 ∷ 50 ∷ 10
    ∷ 32 ∷ 32 ∷ 32 ∷ 32 ∷ 49 ∷ 32 ∷ 32 ∷ 32 ∷ 32 ∷ 49 ∷ 32 ∷ 32 ∷ 32 ∷ 32 ∷ 49 ∷ 10
    ∷ 32 ∷ 32 ∷ 32 ∷ 32 ∷ 49 ∷ 32 ∷ 32 ∷ 32 ∷ 32 ∷ 50 ∷ 32 ∷ 32 ∷ 32 ∷ 32 ∷ 49 ∷ 10
    ∷ 32 ∷ 32 ∷ 32 ∷ 32 ∷ 50 ∷ 32 ∷ 32 ∷ 32 ∷ 32 ∷ 49 ∷ 32 ∷ 32 ∷ 32 ∷ 32 ∷ 50 ∷ 10 ∷ [])
    ++ last

unfoldable pub t_sheet : List ℕ
t_sheet = t_lines (32 ∷ 32 ∷ 32 ∷ 32 ∷ 51 ∷ 32 ∷ 32 ∷ 32 ∷ 32 ∷ 50 ∷ 32 ∷ 32 ∷ 32 ∷ 32 ∷ 54 ∷ 10 ∷ []) (32 ∷ 32 ∷ 32 ∷ 32 ∷ 50 ∷ 32 ∷ 32 ∷ 32 ∷ 32 ∷ 50 ∷ 32 ∷ 32 ∷ 32 ∷ 32 ∷ 50 ∷ 10 ∷ [])

unfoldable pub t_blank : List ℕ
t_blank =
    32 ∷ 32 ∷ 32 ∷ 32 ∷ 51 ∷ 32 ∷ 32 ∷ 32 ∷ 32 ∷ 50 ∷ 32 ∷ 32 ∷ 32 ∷ 32 ∷ 54 ∷ 10
    ∷ 32 ∷ 32 ∷ 32 ∷ 32 ∷ 32 ∷ 32 ∷ 32 ∷ 32 ∷ 32 ∷ 53 ∷ 10
    ∷ 32 ∷ 32 ∷ 32 ∷ 32 ∷ 49 ∷ 32 ∷ 32 ∷ 32 ∷ 32 ∷ 32 ∷ 10
    ∷ 32 ∷ 32 ∷ 32 ∷ 32 ∷ 50 ∷ 32 ∷ 32 ∷ 32 ∷ 49 ∷ 48 ∷ 10
    ∷ 32 ∷ 32 ∷ 32 ∷ 32 ∷ 32 ∷ 32 ∷ 32 ∷ 32 ∷ 32 ∷ 32 ∷ 32 ∷ 32 ∷ 32 ∷ 32 ∷ 49 ∷ 10
    ∷ 32 ∷ 32 ∷ 32 ∷ 32 ∷ 49 ∷ 32 ∷ 32 ∷ 32 ∷ 32 ∷ 32 ∷ 32 ∷ 32 ∷ 32 ∷ 32 ∷ 50 ∷ 10
    ∷ 32 ∷ 32 ∷ 32 ∷ 32 ∷ 49 ∷ 32 ∷ 32 ∷ 32 ∷ 32 ∷ 49 ∷ 32 ∷ 32 ∷ 32 ∷ 32 ∷ 49 ∷ 10
    ∷ 32 ∷ 32 ∷ 32 ∷ 32 ∷ 49 ∷ 32 ∷ 32 ∷ 32 ∷ 32 ∷ 50 ∷ 32 ∷ 32 ∷ 32 ∷ 32 ∷ 49 ∷ 10
    ∷ 32 ∷ 32 ∷ 32 ∷ 32 ∷ 50 ∷ 32 ∷ 32 ∷ 32 ∷ 32 ∷ 49 ∷ 32 ∷ 32 ∷ 32 ∷ 32 ∷ 50 ∷ 10
    ∷ 32 ∷ 32 ∷ 32 ∷ 32 ∷ 50 ∷ 32 ∷ 32 ∷ 32 ∷ 32 ∷ 50 ∷ 32 ∷ 32 ∷ 32 ∷ 32 ∷ 50 ∷ 10 ∷ []

pub record Row : Type 0 where
  pub sheet : List ℕ
  pub fault : ℕ

unfoldable pub holds : Row → Bool
holds r = eqb (first_fault r.sheet) r.fault

unfoldable pub rows : List Row
rows =
    -- T
    record { sheet = t_sheet; fault = 0 }
    -- the column "  007"; no number of states, which is 0
    ∷ record { sheet = t_lines (32 ∷ 32 ∷ 48 ∷ 48 ∷ 55 ∷ 32 ∷ 32 ∷ 32 ∷ 32 ∷ 50 ∷ 32 ∷ 32 ∷ 32 ∷ 32 ∷ 54 ∷ 10 ∷ []) (32 ∷ 32 ∷ 32 ∷ 32 ∷ 50 ∷ 32 ∷ 32 ∷ 32 ∷ 32 ∷ 50 ∷ 32 ∷ 32 ∷ 32 ∷ 32 ∷ 50 ∷ 10 ∷ []); fault = 2 }
    ∷ record { sheet = t_lines (32 ∷ 32 ∷ 32 ∷ 32 ∷ 32 ∷ 32 ∷ 32 ∷ 32 ∷ 32 ∷ 50 ∷ 32 ∷ 32 ∷ 32 ∷ 32 ∷ 54 ∷ 10 ∷ []) (32 ∷ 32 ∷ 32 ∷ 32 ∷ 50 ∷ 32 ∷ 32 ∷ 32 ∷ 32 ∷ 50 ∷ 32 ∷ 32 ∷ 32 ∷ 32 ∷ 50 ∷ 10 ∷ []); fault = 3 }
    -- the transition 2 1 2 repeated
    ∷ record { sheet = t_lines (32 ∷ 32 ∷ 32 ∷ 32 ∷ 51 ∷ 32 ∷ 32 ∷ 32 ∷ 32 ∷ 50 ∷ 32 ∷ 32 ∷ 32 ∷ 32 ∷ 54 ∷ 10 ∷ []) (32 ∷ 32 ∷ 32 ∷ 32 ∷ 50 ∷ 32 ∷ 32 ∷ 32 ∷ 32 ∷ 49 ∷ 32 ∷ 32 ∷ 32 ∷ 32 ∷ 50 ∷ 10 ∷ []); fault = 6 }
    -- line one alone: with 64 states line two is missing, 65 are too many
    ∷ record { sheet = 32 ∷ 32 ∷ 32 ∷ 54 ∷ 52 ∷ 32 ∷ 32 ∷ 32 ∷ 32 ∷ 50 ∷ 32 ∷ 32 ∷ 32 ∷ 32 ∷ 54 ∷ 10 ∷ []; fault = 1 }
    ∷ record { sheet = 32 ∷ 32 ∷ 32 ∷ 54 ∷ 53 ∷ 32 ∷ 32 ∷ 32 ∷ 32 ∷ 50 ∷ 32 ∷ 32 ∷ 32 ∷ 32 ∷ 54 ∷ 10 ∷ []; fault = 3 }
    -- each 0 left out; the number of state 1 left out, which is out of turn; a transition and the same one with each 0 left out
    ∷ record { sheet = t_blank; fault = 0 }
    ∷ record {
      sheet =
          32 ∷ 32 ∷ 32 ∷ 32 ∷ 50 ∷ 32 ∷ 32 ∷ 32 ∷ 32 ∷ 48 ∷ 32 ∷ 32 ∷ 32 ∷ 32 ∷ 48 ∷ 10
          ∷ 32 ∷ 32 ∷ 32 ∷ 32 ∷ 48 ∷ 32 ∷ 32 ∷ 32 ∷ 32 ∷ 48 ∷ 10
          ∷ 32 ∷ 32 ∷ 32 ∷ 32 ∷ 32 ∷ 32 ∷ 32 ∷ 32 ∷ 32 ∷ 32 ∷ 10 ∷ [];
      fault = 4;
    }
    ∷ record {
      sheet =
          32 ∷ 32 ∷ 32 ∷ 32 ∷ 49 ∷ 32 ∷ 32 ∷ 32 ∷ 32 ∷ 48 ∷ 32 ∷ 32 ∷ 32 ∷ 32 ∷ 50 ∷ 10
          ∷ 32 ∷ 32 ∷ 32 ∷ 32 ∷ 48 ∷ 32 ∷ 32 ∷ 32 ∷ 32 ∷ 48 ∷ 10
          ∷ 32 ∷ 32 ∷ 32 ∷ 32 ∷ 48 ∷ 32 ∷ 32 ∷ 32 ∷ 32 ∷ 48 ∷ 32 ∷ 32 ∷ 32 ∷ 32 ∷ 48 ∷ 10
          ∷ 32 ∷ 32 ∷ 32 ∷ 32 ∷ 32 ∷ 32 ∷ 32 ∷ 32 ∷ 32 ∷ 32 ∷ 32 ∷ 32 ∷ 32 ∷ 32 ∷ 32 ∷ 10 ∷ [];
      fault = 6;
    }
    ∷ []

pub rows_hold : all_in holds rows ≡ true
unfolding holds rows all_in t_sheet t_blank t_lines first_fault rest_fault header_fault state_fault transition_fault line_fault column_fault counts_fault mark_fault order_fault transition_in column_at or_else first_of column_number found pass_from next
rows_hold = refl

pub t_written : sheet_of t_machine t_list ≡ t_sheet
unfolding t_machine t_list t_sheet t_lines sheet_of header_line state_line transition_line line_of each_below column_of padded digit_or
t_written = refl

pub t_read : read_answer t_sheet 18 ≡ Ok t_machine
unfolding t_machine t_sheet t_lines read_answer read_refusal machine_of marks_of each_below first_fault rest_fault header_fault state_fault transition_fault line_fault column_fault counts_fault mark_fault order_fault transition_in column_at or_else first_of column_number found pass_from next
t_read = refl

pub t_blank_read : read_answer t_blank 18 ≡ Ok t_machine
unfolding t_machine t_blank read_answer read_refusal machine_of marks_of each_below first_fault rest_fault header_fault state_fault transition_fault line_fault column_fault counts_fault mark_fault order_fault transition_in column_at or_else first_of column_number found pass_from next
t_blank_read = refl
