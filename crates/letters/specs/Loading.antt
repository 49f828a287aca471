-- Loading of a customer's letters (document 02, change 2): a text of lines, each a byte value and its letter number in columns of five; its first
-- fault, and the record that it gives. Columns, padding and line ends are the sheet's. The laws stand in specs/Loading/Laws.antt.
--
-- byte_at text i, letter_at text i == the byte value and the letter of line i, counted from 0
-- lines_begun text      == the number of lines, a part of a line at the end among them
-- listed_before text i  == the byte of line i is that of an earlier line
-- entry_fault text i    == the first fault of line i: 1, 2, 3, 21, or 0
-- letters_run text      == no line has letter 0, and the letters run from 1 to the largest without a gap
-- load_fault text       == the first fault of the text: one of a line, then 22, or 0
-- last_of b x n v       == x i for the last i < n with b i = v; 0 where there is none
-- letter_of text v      == the letter that the text gives to byte v; 0 where no line lists it
-- alphabet_of text      == the record of a text without fault
-- load_answer text      == what load_letters answers
use Rattle.std.specs.Prelude.{ℕ, zero, suc, ◌+◌, ◌*◌, ◌/◌, List, [], ◌∷◌, Result, Ok, Bool, cond, not, ◌&&◌, length, leb, ltb, eqb}
use Rattle.basics.specs.Search.{any_below, all_below}
use Rattle.basics.specs.Each.{each_below}
use Rattle.fsbm.specs.Answers as answers
use Rattle.fsbm.specs.declared.answer.Refusal.{Refusal}
use Rattle.sheet.specs.Series.{or_else, first_of}
use Rattle.sheet.specs.Reading.{unless, column_at, line_fault}
use Rattle.letters.specs.Alphabet.{byte_values, max_lines, largest_of, gapless}
use Rattle.letters.specs.declared.alphabet.Alphabet.{Alphabet}
pub mod Laws

-- a line has two columns and so 11 bytes
abbrev pub line_start : ℕ → ℕ
line_start i = 11 * i

abbrev pub byte_at : List ℕ → ℕ → ℕ
byte_at text i = column_at text (line_start i)

abbrev pub letter_at : List ℕ → ℕ → ℕ
letter_at text i = column_at text (line_start i + 5)

abbrev pub lines_begun : List ℕ → ℕ
lines_begun text = (length text + 10) / 11

unfoldable pub listed_before : List ℕ → ℕ → Bool
listed_before text i = any_below i (λ j. eqb (byte_at text j) (byte_at text i))

-- 1 and 2 as in a line of a sheet; 3: a 251st line; 21: a byte value above 255, or listed twice
unfoldable pub entry_fault : List ℕ → ℕ → ℕ
entry_fault text i =
    or_else (line_fault text 2 (line_start i))
    (or_else (unless (ltb i max_lines) 3) (unless (ltb (byte_at text i) byte_values && not (listed_before text i)) 21))

unfoldable pub letters_run : List ℕ → Bool
letters_run text = all_below (lines_begun text) (λ i. ltb 0 (letter_at text i)) && gapless (lines_begun text) (letter_at text)

-- 22: a letter missing below the largest, or letter 0
unfoldable pub load_fault : List ℕ → ℕ
load_fault text =
    let run = unless (letters_run text) 22 in
    or_else (first_of (lines_begun text) (entry_fault text)) run

unfoldable pub last_of : (ℕ → ℕ) → (ℕ → ℕ) → ℕ → ℕ → ℕ
last_of b x zero v = 0
last_of b x (suc n) v = cond (eqb (b n) v) (x n) (last_of b x n v)

abbrev pub letter_of : List ℕ → ℕ → ℕ
letter_of text v = last_of (byte_at text) (letter_at text) (lines_begun text) v

unfoldable pub alphabet_of : List ℕ → Alphabet
alphabet_of text =
    record { letters = each_below byte_values (λ v. letter_of text v ∷ []); count = largest_of (lines_begun text) (letter_at text) }

unfoldable pub load_answer : List ℕ → Result Alphabet Refusal
load_answer text = answers.unless (load_fault text) (Ok (alphabet_of text))
