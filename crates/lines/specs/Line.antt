-- The lines of the listing (document 01, "Written words and the listing"; their length by document 02, change 6). The laws stand in
-- specs/Line/Laws.antt.
--
-- letter_column line k      == column number k of a line, five bytes
-- letter_at line k          == the number in it
-- word_of line              == the word that a line holds, one letter a column
-- line_refusal letters line == the refusal of a word's line, or 0
-- line_answer m list line   == what is printed for a word: 1 yes, 0 no, 2 turned down, and the refusal
-- answer_line n a r         == the printed line of word number n
use Rattle.std.specs.Prelude.{ℕ, zero, suc, ◌+◌, ◌*◌, ◌/◌, ◌%◌, List, [], ◌∷◌, ◌++◌, Bool, cond, not, ◌&&◌, length, take, drop, leb, eqb}
use Rattle.basics.specs.Search.{all_below}
use Rattle.columns.specs.Column.{column_number, no_number, column_of}
use Rattle.fsbm.specs.Answers.{good_letter}
use Rattle.fsbm.specs.Accepted.{accepted}
use Rattle.fsbm.specs.declared.machine.Machine.{Machine}
use Rattle.lines.specs.declared.Answer.{Answer}
pub mod Laws

-- the most bytes of a line: 255 letters in columns of five
abbrev pub longest_line : ℕ
longest_line = 1275

abbrev pub letter_column : List ℕ → ℕ → List ℕ
letter_column line k = take 5 (drop (k * 5) line)

unfoldable pub letter_at : List ℕ → ℕ → ℕ
letter_at line k = column_number (letter_column line k)

-- f 0, f 1, .. , f (n - 1)
unfoldable pub tabulate : ℕ → (ℕ → ℕ) → List ℕ
tabulate zero f = []
tabulate (suc n) f = tabulate n f ++ (f n ∷ [])

unfoldable pub word_of : List ℕ → List ℕ
word_of line = tabulate (length line / 5) (letter_at line)

-- whole columns, each of which holds a number
abbrev pub holds_number : List ℕ → ℕ → Bool
holds_number line k = not (eqb (letter_at line k) no_number)

abbrev pub holds_letter : ℕ → List ℕ → ℕ → Bool
holds_letter letters line k = good_letter letters (letter_at line k)

-- 9 too long, 2 a column that holds no number or a part of one, 8 a number that is no letter
unfoldable pub line_refusal : ℕ → List ℕ → ℕ
line_refusal letters line =
    cond (leb (length line) longest_line)
    (cond (eqb (length line % 5) 0 && all_below (length line / 5) (holds_number line))
    (cond (all_below (length line / 5) (holds_letter letters line)) 0 8)
    2)
    9

unfoldable pub line_answer : Machine → List ℕ → List ℕ → Answer
line_answer m list line =
    cond (eqb (line_refusal m.letters line) 0)
    (record { answer = cond (accepted m list (word_of line)) 1 0; refusal = 0 })
    (record { answer = 2; refusal = line_refusal m.letters line })

-- three columns of five and byte 10
unfoldable pub answer_line : ℕ → ℕ → ℕ → List ℕ
answer_line n a r = column_of 5 n ++ column_of 5 a ++ column_of 5 r ++ (10 ∷ [])
