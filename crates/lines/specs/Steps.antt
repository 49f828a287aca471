-- What the private steps of answer_line leave.
--
-- as_byte v          == a column's number as a byte of a word: itself, or where no byte holds it 0, which is no letter
-- columns_fault line == the refusal of a line before its letters are looked at, or 0: 9, 2
-- answer_of d        == what is printed for an answer to a word
-- WordRead line r word == what read_word leaves: that refusal, and where there is none the numbers as bytes at the front of the buffer
use Rattle.std.specs.Prelude.{ℕ, ◌/◌, ◌%◌, ◌≡◌, List, Bool, cond, ◌&&◌, length, take, leb, eqb, Result, Ok, Err, ⊤}
use Rattle.basics.specs.Search.{all_below}
use Rattle.fsbm.specs.Answers.{number_of, passed}
use Rattle.fsbm.specs.declared.answer.Refusal.{Refusal}
use Rattle.lines.specs.Line.{longest_line, letter_at, tabulate, holds_number}
use Rattle.lines.specs.declared.Answer.{Answer}

abbrev pub as_byte : ℕ → ℕ
as_byte v = cond (leb v 255) v 0

unfoldable pub columns_fault : List ℕ → ℕ
columns_fault line =
    cond (leb (length line) longest_line) (cond (eqb (length line % 5) 0 && all_below (length line / 5) (holds_number line)) 0 2) 9

abbrev pub answer_of : Result Bool Refusal → Answer
answer_of (Err f) = record { answer = 2; refusal = number_of f }
answer_of (Ok b) = record { answer = cond b 1 0; refusal = 0 }

pub record WordRead (line : List ℕ) (r : Result ⊤ Refusal) (word : List ℕ) : Type 0 where
  pub refusal : r ≡ passed (columns_fault line)
  pub word_read : columns_fault line ≡ 0 → take (length line / 5) word ≡ tabulate (length line / 5) (λ k. as_byte (letter_at line k))
