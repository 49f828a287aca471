-- The page of abab on table T, evaluated.
--
-- abab_page            == the page's bytes: a line for each of the ten entries, and 0 plain letters, 2 stored, 4 in all
-- abab_page_lem           == it is the page of the run
-- abab_written        == write_page answers 329 bytes to a slice of 330, and leaves its last byte
-- abab_short          == a slice of 328 bytes is refused by 19 with the length needed
-- no_run              == the empty run is refused by 14
use Rattle.std.specs.Prelude.{ℕ, ◌≡◌, refl, List, [], ◌∷◌, ◌++◌, Ok, Err, replicate}
use Rattle.basics.specs.Each.{each_below}
use Rattle.basics.specs.Search.{all_below, all_in}
use Rattle.columns.specs.Column.{column_of, padded, digit_or}
use Rattle.columns.specs.Line.{line_of}
use Rattle.fsbm.specs.Machine.{well_formed}
use Rattle.fsbm.specs.Answers.{run_refusal}
use Rattle.fsbm.specs.Moves.{well_placed, reads_letter, passes, reads_stored, may_take, after, changes, move, accepts, accepting_from, accepting}
use Rattle.copies.specs.Examples.{t_machine, t_list, abab}
use Rattle.copies.specs.Letters.{letters_from, letters_in}
use Rattle.fsbm.specs.declared.answer.Refusal.TheVariants.{NotAccepting, ShortSheet}
use Rattle.page.specs.Page.{after_entry, entry_line, page_of, page_fault, page_refusal, page_answer, page_after}

unfoldable pub abab_page : List ℕ
abab_page =
    32 ∷ 32 ∷ 32 ∷ 32 ∷ 32 ∷ 48 ∷ 32 ∷ 32 ∷ 32 ∷ 32 ∷ 32 ∷ 48 ∷ 32 ∷ 32 ∷ 32 ∷ 32 ∷ 32 ∷ 48 ∷ 32 ∷ 32 ∷ 32 ∷ 32 ∷ 32 ∷ 48 ∷ 32 ∷ 32 ∷ 32 ∷ 32 ∷ 32 ∷ 48 ∷ 10
    ∷ 32 ∷ 32 ∷ 32 ∷ 32 ∷ 32 ∷ 49 ∷ 32 ∷ 32 ∷ 32 ∷ 32 ∷ 32 ∷ 48 ∷ 32 ∷ 32 ∷ 32 ∷ 32 ∷ 32 ∷ 49 ∷ 32 ∷ 32 ∷ 32 ∷ 32 ∷ 32 ∷ 48 ∷ 32 ∷ 32 ∷ 32 ∷ 32 ∷ 32 ∷ 48 ∷ 10
    ∷ 32 ∷ 32 ∷ 32 ∷ 32 ∷ 32 ∷ 50 ∷ 32 ∷ 32 ∷ 32 ∷ 32 ∷ 32 ∷ 49 ∷ 32 ∷ 32 ∷ 32 ∷ 32 ∷ 32 ∷ 49 ∷ 32 ∷ 32 ∷ 32 ∷ 32 ∷ 32 ∷ 48 ∷ 32 ∷ 32 ∷ 32 ∷ 32 ∷ 32 ∷ 48 ∷ 10
    ∷ 32 ∷ 32 ∷ 32 ∷ 32 ∷ 32 ∷ 51 ∷ 32 ∷ 32 ∷ 32 ∷ 32 ∷ 32 ∷ 49 ∷ 32 ∷ 32 ∷ 32 ∷ 32 ∷ 32 ∷ 49 ∷ 32 ∷ 32 ∷ 32 ∷ 32 ∷ 32 ∷ 49 ∷ 32 ∷ 32 ∷ 32 ∷ 32 ∷ 32 ∷ 49 ∷ 10
    ∷ 32 ∷ 32 ∷ 32 ∷ 32 ∷ 32 ∷ 52 ∷ 32 ∷ 32 ∷ 32 ∷ 32 ∷ 32 ∷ 49 ∷ 32 ∷ 32 ∷ 32 ∷ 32 ∷ 32 ∷ 49 ∷ 32 ∷ 32 ∷ 32 ∷ 32 ∷ 32 ∷ 50 ∷ 32 ∷ 32 ∷ 32 ∷ 32 ∷ 32 ∷ 50 ∷ 10
    ∷ 32 ∷ 32 ∷ 32 ∷ 32 ∷ 32 ∷ 53 ∷ 32 ∷ 32 ∷ 32 ∷ 32 ∷ 32 ∷ 50 ∷ 32 ∷ 32 ∷ 32 ∷ 32 ∷ 32 ∷ 49 ∷ 32 ∷ 32 ∷ 32 ∷ 32 ∷ 32 ∷ 50 ∷ 32 ∷ 32 ∷ 32 ∷ 32 ∷ 32 ∷ 50 ∷ 10
    ∷ 32 ∷ 32 ∷ 32 ∷ 32 ∷ 32 ∷ 54 ∷ 32 ∷ 32 ∷ 32 ∷ 32 ∷ 32 ∷ 50 ∷ 32 ∷ 32 ∷ 32 ∷ 32 ∷ 32 ∷ 50 ∷ 32 ∷ 32 ∷ 32 ∷ 32 ∷ 32 ∷ 50 ∷ 32 ∷ 32 ∷ 32 ∷ 32 ∷ 32 ∷ 50 ∷ 10
    ∷ 32 ∷ 32 ∷ 32 ∷ 32 ∷ 32 ∷ 55 ∷ 32 ∷ 32 ∷ 32 ∷ 32 ∷ 32 ∷ 50 ∷ 32 ∷ 32 ∷ 32 ∷ 32 ∷ 32 ∷ 50 ∷ 32 ∷ 32 ∷ 32 ∷ 32 ∷ 32 ∷ 51 ∷ 32 ∷ 32 ∷ 32 ∷ 32 ∷ 32 ∷ 49 ∷ 10
    ∷ 32 ∷ 32 ∷ 32 ∷ 32 ∷ 32 ∷ 56 ∷ 32 ∷ 32 ∷ 32 ∷ 32 ∷ 32 ∷ 50 ∷ 32 ∷ 32 ∷ 32 ∷ 32 ∷ 32 ∷ 50 ∷ 32 ∷ 32 ∷ 32 ∷ 32 ∷ 32 ∷ 52 ∷ 32 ∷ 32 ∷ 32 ∷ 32 ∷ 32 ∷ 48 ∷ 10
    ∷ 32 ∷ 32 ∷ 32 ∷ 32 ∷ 32 ∷ 57 ∷ 32 ∷ 32 ∷ 32 ∷ 32 ∷ 32 ∷ 50 ∷ 32 ∷ 32 ∷ 32 ∷ 32 ∷ 32 ∷ 48 ∷ 32 ∷ 32 ∷ 32 ∷ 32 ∷ 32 ∷ 52 ∷ 32 ∷ 32 ∷ 32 ∷ 32 ∷ 32 ∷ 48 ∷ 10
    ∷ 32 ∷ 32 ∷ 32 ∷ 32 ∷ 32 ∷ 48 ∷ 32 ∷ 32 ∷ 32 ∷ 32 ∷ 32 ∷ 50 ∷ 32 ∷ 32 ∷ 32 ∷ 32 ∷ 32 ∷ 52 ∷ 10 ∷ []

pub abab_page_lem : page_of t_machine t_list (1 ∷ 2 ∷ 1 ∷ 2 ∷ []) abab ≡ abab_page
unfolding t_machine t_list abab abab_page page_of each_below entry_line after_entry letters_in letters_from line_of column_of padded digit_or move may_take passes reads_letter reads_stored after changes well_placed
abab_page_lem = refl

pub abab_written : (page_answer t_machine t_list (1 ∷ 2 ∷ 1 ∷ 2 ∷ []) abab 330 ≡ Ok 329) × (page_after t_machine t_list (1 ∷ 2 ∷ 1 ∷ 2 ∷ []) abab (replicate 330 7) ≡ abab_page ++ (7 ∷ []))
unfolding t_machine t_list abab abab_page page_answer page_after page_refusal run_refusal page_fault well_formed all_below all_in accepting accepting_from accepts page_of each_below entry_line after_entry letters_in letters_from line_of column_of padded digit_or move may_take passes reads_letter reads_stored after changes well_placed
abab_written = (refl, refl)

pub abab_short : page_answer t_machine t_list (1 ∷ 2 ∷ 1 ∷ 2 ∷ []) abab 328 ≡ Err (ShortSheet 329)
unfolding t_machine t_list abab page_answer page_refusal run_refusal page_fault well_formed all_below all_in accepting accepting_from accepts move may_take passes reads_letter reads_stored after changes well_placed
abab_short = refl

pub no_run : page_answer t_machine t_list [] [] 328 ≡ Err NotAccepting
unfolding t_machine t_list page_answer page_refusal run_refusal page_fault well_formed all_below all_in accepting
no_run = refl
