-- The example file, by computation.
--
-- example_loads    == it has no fault
-- example_letter   == the letter that it gives to each number below 256 is that of the fixed table: one test over all of them
use Rattle.std.specs.Prelude.{ℕ, ◌<◌, ◌≡◌, refl, true, eqb}
use Rattle.std.proofs.Common.{eqb-true}
use Rattle.basics.specs.Search.{all_below, any_below}
use Rattle.basics.specs.Search.Laws.{all_below_true}
use Rattle.basics.specs.Each.{each_below}
use Rattle.columns.specs.Column.{next, pass_from, found, column_number, digit_or, padded, column_of}
use Rattle.columns.specs.Line.{line_of}
use Rattle.sheet.specs.Series.{or_else, first_of}
use Rattle.sheet.specs.Reading.{column_at, column_fault, line_fault}
use Rattle.letters.specs.Alphabet.{byte_values, largest_of, gapless}
use Rattle.letters.specs.Loading.{listed_before, entry_fault, letters_run, load_fault, last_of, letter_of}
use Rattle.letters.specs.Example.{example_text, fixed_letter_of}

pub example_loads : load_fault example_text ≡ 0
unfolding load_fault letters_run gapless largest_of entry_fault listed_before line_fault column_fault or_else first_of any_below all_below example_text each_below line_of column_of padded digit_or column_at column_number pass_from next found
example_loads = refl

test : all_below byte_values (λ v. eqb (letter_of example_text v) (fixed_letter_of v)) ≡ true
unfolding last_of fixed_letter_of example_text each_below line_of column_of padded digit_or column_at column_number pass_from next found all_below
test = refl

pub example_letter : (v : ℕ) → v < byte_values → letter_of example_text v ≡ fixed_letter_of v
example_letter v h = eqb-true _ _ ((all_below_true (λ v. eqb (letter_of example_text v) (fixed_letter_of v)) byte_values).0 test v h)
