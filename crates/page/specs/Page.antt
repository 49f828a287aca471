-- The page of a reading: an accepting run laid out on lines (document 02, change 1). The laws stand in specs/Page/Laws.antt.
--
-- longest_word, longest_run     == the most letters of a word and the most entries of a run that a page takes
-- page_column                  == the bytes of a column: the sheet's, one wider
-- after_entry m list w run i   == the configuration after entry i of the run; entry 0 is the start
-- entry_numbers i c            == the five numbers of entry i, after which the run is in c
-- entry_line m list w run i    == the line of entry i
-- last_numbers m list w run    == the three numbers of the last line
-- page_of m list w run         == the page: a line for each entry, and the last line
-- page_length n                == the length of the page of a run of n entries
-- page_fault m list w run      == the first refusal of a table, a word and the length of a run: 16, 9, 8; 0 where there is none
-- page_refusal                 == the first refusal of write_page, if there is one
-- page_answer, page_after       == what write_page answers, and what the caller's slice holds afterwards
-- page_values                  == the number and values that the rules give
use Rattle.std.specs.Prelude.{ℕ, zero, suc, ◌+◌, ◌*◌, List, [], ◌∷◌, ◌++◌, Option, Result, Ok, Err, cond, ◌&&◌, length, get_or, drop, leb, eqb}
use Rattle.basics.specs.Each.{each_below}
use Rattle.columns.specs.Line.{line_of}
use Rattle.fsbm.specs.Machine.{well_formed}
use Rattle.fsbm.specs.Moves.{mode_number, move, start_at, accepting}
use Rattle.fsbm.specs.Answers.{number_of, needed_of, by_refusal, good_letters, run_refusal, CountValues, count_values}
use Rattle.fsbm.specs.declared.machine.Machine.{Machine}
use Rattle.fsbm.specs.declared.config.Config.{Config}
use Rattle.fsbm.specs.declared.answer.Refusal.{Refusal}
use Rattle.fsbm.specs.declared.answer.Refusal.TheVariants.{ShortSheet}
use Rattle.copies.specs.Letters.{in_buffer, plain_letters, stored_letters}
use Rattle.sheet.specs.Format.{sheet_column}
pub mod Laws

abbrev pub longest_word : ℕ
longest_word = 255

abbrev pub longest_run : ℕ
longest_run = 99999

abbrev pub page_column : ℕ
page_column = sheet_column + 1

-- the first entry is the start state; each other one makes a move
unfoldable pub after_entry : Machine → List ℕ → List ℕ → List ℕ → ℕ → Config
after_entry m list w run zero = start_at (get_or run 0 0)
after_entry m list w run (suc i) = (move m list w (after_entry m list w run i) (get_or run (suc i) 0)).config

-- entry number, state, mode, letters read so far, letters in the buffer
abbrev pub entry_numbers : ℕ → Config → List ℕ
entry_numbers i c = i ∷ c.state ∷ mode_number c.mode ∷ c.position ∷ in_buffer c ∷ []

unfoldable pub entry_line : Machine → List ℕ → List ℕ → List ℕ → ℕ → List ℕ
entry_line m list w run i = line_of page_column (entry_numbers i (after_entry m list w run i))

-- letters read in normal mode, letters stored, word length
abbrev pub last_numbers : Machine → List ℕ → List ℕ → List ℕ → List ℕ
last_numbers m list w run = plain_letters m list w run ∷ stored_letters m list w run ∷ length w ∷ []

unfoldable pub page_of : Machine → List ℕ → List ℕ → List ℕ → List ℕ
page_of m list w run = each_below (length run) (entry_line m list w run) ++ line_of page_column (last_numbers m list w run)

-- the line of an entry has five columns and so 31 bytes, the last line three and 19
abbrev pub page_length : ℕ → ℕ
page_length n = 31 * n + 19

-- 16 the table breaks the rules; 9 the word or the run is too long; 8 the word has a letter that is not there
unfoldable pub page_fault : Machine → List ℕ → List ℕ → List ℕ → ℕ
page_fault m list w run =
    cond (well_formed m list) (cond (leb (length w) longest_word && leb (length run) longest_run) (cond (good_letters m.letters w) 0 8) 9) 16

-- 16, 9 and 8; 14 the run does not accept; 19 the slice of this length is too short
unfoldable pub page_refusal : Machine → List ℕ → List ℕ → List ℕ → ℕ → Option Refusal
page_refusal m list w run room =
    run_refusal (page_fault m list w run) (accepting m list w run) (ShortSheet (page_length (length run))) room

unfoldable pub page_answer : Machine → List ℕ → List ℕ → List ℕ → ℕ → Result ℕ Refusal
page_answer m list w run room = by_refusal (page_refusal m list w run room) (Ok (page_length (length run))) (λ f. Err f)

-- the slice as it was, or the page at its front
unfoldable pub page_after : Machine → List ℕ → List ℕ → List ℕ → List ℕ → List ℕ
page_after m list w run slice =
    by_refusal (page_refusal m list w run (length slice)) (page_of m list w run ++ drop (page_length (length run)) slice) (λ f. slice)

unfoldable pub page_values : Machine → List ℕ → List ℕ → List ℕ → ℕ → CountValues
page_values m list w run room =
    cond (eqb (page_fault m list w run) 0)
    (cond (accepting m list w run)
    (cond (leb (page_length (length run)) room) (record { refusal = 0; needed = 0; count = page_length (length run) }) (record { refusal = 19; needed = page_length (length run); count = 0 }))
    (record { refusal = 14; needed = 0; count = 0 }))
    (record { refusal = page_fault m list w run; needed = 0; count = 0 })
