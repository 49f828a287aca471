-- The bytes of the listing (document 01, "Written words and the listing"): from the bytes of the sheet and the bytes of standard
-- input to the bytes that are printed. What is printed for one line is in crate lines.
--
-- longer b ls            == the byte b in front of the first of the lines ls
-- lines_of input          == the lines of the input, each without its byte 10
-- word_line m list i line == the printed line of word number i
-- word_lines m list i ls  == the printed lines of the words ls, numbered from i on
-- header                 == "  NO.  ANS  REF" and byte 10
-- sheet_refused           == "SHEET REFUSED"
-- refused_sheet n         == that, the number n in a column of five, and byte 10
-- most_words              == the most words that are listed
-- listing sheet input    == all that is printed
use Rattle.std.specs.Prelude.{ℕ, suc, List, [], ◌∷◌, ◌++◌, cond, take, eqb}
use Rattle.columns.specs.Column.{column_of}
use Rattle.fsbm.specs.declared.machine.Machine.{Machine}
use Rattle.lines.specs.Line.{line_answer, answer_line}
use Rattle.sheet.specs.Reading.{first_fault, machine_of, transitions_of}

-- where there is no line the byte is one by itself
unfoldable pub longer : ℕ → List (List ℕ) → List (List ℕ)
longer b [] = (b ∷ []) ∷ []
longer b (line ∷ ls) = (b ∷ line) ∷ ls

-- Byte 10 ends a line. What follows the last byte 10 is a line unless it is empty.
unfoldable pub lines_of : List ℕ → List (List ℕ)
lines_of [] = []
lines_of (b ∷ input) = cond (eqb b 10) ([] ∷ lines_of input) (longer b (lines_of input))

unfoldable pub word_line : Machine → List ℕ → ℕ → List ℕ → List ℕ
word_line m list i line = answer_line i (line_answer m list line).answer (line_answer m list line).refusal

unfoldable pub word_lines : Machine → List ℕ → ℕ → List (List ℕ) → List ℕ
word_lines m list i [] = []
word_lines m list i (line ∷ ls) = word_line m list i line ++ word_lines m list (suc i) ls

-- two spaces, NO., two spaces, ANS, two spaces, REF, byte 10
unfoldable pub header : List ℕ
header = 32 ∷ 32 ∷ 78 ∷ 79 ∷ 46 ∷ 32 ∷ 32 ∷ 65 ∷ 78 ∷ 83 ∷ 32 ∷ 32 ∷ 82 ∷ 69 ∷ 70 ∷ 10 ∷ []

-- SHEET, space, REFUSED
unfoldable pub sheet_refused : List ℕ
sheet_refused = 83 ∷ 72 ∷ 69 ∷ 69 ∷ 84 ∷ 32 ∷ 82 ∷ 69 ∷ 70 ∷ 85 ∷ 83 ∷ 69 ∷ 68 ∷ []

unfoldable pub refused_sheet : ℕ → List ℕ
refused_sheet n = sheet_refused ++ column_of 5 n ++ (10 ∷ [])

abbrev pub most_words : ℕ
most_words = 99999

-- of a sheet without fault the header and the lines of the first words, numbered from 1; else the line of its first fault
unfoldable pub listing : List ℕ → List ℕ → List ℕ
listing sheet input =
    cond (eqb (first_fault sheet) 0) (header ++ word_lines (machine_of sheet) (transitions_of sheet) 1 (take most_words (lines_of input)))
    (refused_sheet (first_fault sheet))
