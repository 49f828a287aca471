-- Examples of the listing's definitions, evaluated.
--
-- four_words         == the words of document 01's listing, (empty), 1 2 1 2, 1 2 2 1, 3, a line each
-- lines_of_four     == their lines, with a byte 10 behind the last and without it
-- lines_of_none, lines_of_one_end == no input has no line, a single byte 10 has an empty one
-- fourth_line       == the printed line of its fourth word, which is refused
-- refused_one       == the line of a missing sheet, 19 bytes
use Rattle.std.specs.Prelude.{ℕ, ◌≡◌, refl, List, [], ◌∷◌, ◌++◌}
use Rattle.columns.specs.Column.{padded, digit_or, column_of}
use Rattle.columns.specs.Column.{next, pass_from, found, column_number}
use Rattle.basics.specs.Search.{all_below}
use Rattle.lines.specs.Line.{letter_at, line_refusal, line_answer, answer_line}
use Rattle.sheet.specs.Examples.{t_machine, t_list}
use Rattle.stream.specs.Listing.{longer, lines_of, word_line, sheet_refused, refused_sheet}

first_word : List ℕ
first_word = 32 ∷ 32 ∷ 32 ∷ 32 ∷ 49 ∷ 32 ∷ 32 ∷ 32 ∷ 32 ∷ 50 ∷ 32 ∷ 32 ∷ 32 ∷ 32 ∷ 49 ∷ 32 ∷ 32 ∷ 32 ∷ 32 ∷ 50 ∷ []

second_word : List ℕ
second_word = 32 ∷ 32 ∷ 32 ∷ 32 ∷ 49 ∷ 32 ∷ 32 ∷ 32 ∷ 32 ∷ 50 ∷ 32 ∷ 32 ∷ 32 ∷ 32 ∷ 50 ∷ 32 ∷ 32 ∷ 32 ∷ 32 ∷ 49 ∷ []

last_word : List ℕ
last_word = 32 ∷ 32 ∷ 32 ∷ 32 ∷ 51 ∷ []

four_words : List ℕ
four_words = (10 ∷ []) ++ first_word ++ (10 ∷ []) ++ second_word ++ (10 ∷ []) ++ last_word

lines_of_four : (lines_of four_words ≡ ([] ∷ first_word ∷ second_word ∷ last_word ∷ [])) × (lines_of (four_words ++ (10 ∷ [])) ≡ ([] ∷ first_word ∷ second_word ∷ last_word ∷ []))
unfolding four_words first_word second_word last_word lines_of longer
lines_of_four = (refl, refl)

lines_of_none : lines_of [] ≡ []
unfolding lines_of
lines_of_none = refl

lines_of_one_end : lines_of (10 ∷ []) ≡ ([] ∷ [])
unfolding lines_of
lines_of_one_end = refl

refused_one : refused_sheet 1 ≡ sheet_refused ++ (32 ∷ 32 ∷ 32 ∷ 32 ∷ 49 ∷ 10 ∷ [])
unfolding refused_sheet sheet_refused column_of padded digit_or
refused_one = refl

fourth_line : word_line t_machine t_list 4 last_word ≡ (32 ∷ 32 ∷ 32 ∷ 32 ∷ 52 ∷ 32 ∷ 32 ∷ 32 ∷ 32 ∷ 50 ∷ 32 ∷ 32 ∷ 32 ∷ 32 ∷ 56 ∷ 10 ∷ [])
unfolding word_line last_word t_machine line_answer line_refusal letter_at column_number pass_from next found all_below answer_line column_of padded digit_or
fourth_line = refl
