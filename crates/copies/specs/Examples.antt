-- Copy lists of three runs, evaluated.
--
-- t_machine, t_list  == table T: doubled words over the letters 1 and 2
-- abab, none       == its run for 1 2 1 2, and the one for the empty word, which stores nothing
-- repeated, repeated_list, mixed == a table with doubled words one after another, and its run for 1 1 with a copy of letter 1 between two of nothing
-- abab_listed, abab_answer == the copy of abab: from position 0, 2 letters; what stands past it is as it was
-- none_has_one, none_listed == the run of the empty word has a copy; it is not listed, and no slice is needed
-- mixed_listed, mixed_short == of three copies one is listed, and two numbers are needed
use Rattle.std.specs.Prelude.{ℕ, ◌≡◌, refl, List, [], ◌∷◌, replicate, Ok, Err}
use Rattle.fsbm.specs.Machine.{well_formed}
use Rattle.fsbm.specs.Answers.{table_and_word, run_refusal}
use Rattle.fsbm.specs.Moves.{well_placed, reads_letter, passes, reads_stored, may_take, after, changes, move, accepts, accepting_from, accepting}
use Rattle.fsbm.specs.declared.machine.Machine.{Machine}
use Rattle.basics.specs.Search.{all_below, all_in}
use Rattle.copies.specs.Copies.{copies_from, copies_of, with_letters, pairs, total_back, copies_need, copies_refusal, copies_answer, copies_after}
use Rattle.fsbm.specs.declared.answer.Refusal.TheVariants.{ShortCopies}

unfoldable pub t_machine : Machine
t_machine = record { states = 3; letters = 2; transitions = 6; marks = 5 ∷ 0 ∷ 10 ∷ replicate 61 0 }

unfoldable pub t_list : List ℕ
t_list =
    0 ∷ 0 ∷ 1
    ∷ 1 ∷ 0 ∷ 2
    ∷ 1 ∷ 1 ∷ 1
    ∷ 1 ∷ 2 ∷ 1
    ∷ 2 ∷ 1 ∷ 2
    ∷ 2 ∷ 2 ∷ 2 ∷ []

unfoldable pub abab : List ℕ
abab = 0 ∷ 65533 ∷ 0 ∷ 2 ∷ 3 ∷ 1 ∷ 65534 ∷ 4 ∷ 5 ∷ 65535 ∷ []

unfoldable pub none : List ℕ
none = 0 ∷ 65533 ∷ 0 ∷ 1 ∷ 65534 ∷ 65535 ∷ []

-- doubled words over letter 1, one after another
unfoldable pub repeated : Machine
repeated = record { states = 3; letters = 1; transitions = 5; marks = 5 ∷ 0 ∷ 10 ∷ replicate 61 0 }

unfoldable pub repeated_list : List ℕ
repeated_list =
    0 ∷ 0 ∷ 1
    ∷ 1 ∷ 0 ∷ 2
    ∷ 1 ∷ 1 ∷ 1
    ∷ 2 ∷ 0 ∷ 0
    ∷ 2 ∷ 1 ∷ 2 ∷ []

unfoldable pub mixed : List ℕ
mixed =
    0
    ∷ 65533 ∷ 0 ∷ 1 ∷ 65534 ∷ 65535
    ∷ 3 ∷ 65533 ∷ 0 ∷ 2 ∷ 1 ∷ 65534 ∷ 4 ∷ 65535
    ∷ 3 ∷ 65533 ∷ 0 ∷ 1 ∷ 65534 ∷ 65535 ∷ []

pub abab_listed : copies_after t_machine t_list (1 ∷ 2 ∷ 1 ∷ 2 ∷ []) abab (7 ∷ 7 ∷ 7 ∷ []) ≡ 0 ∷ 2 ∷ 7 ∷ []
unfolding t_machine t_list abab copies_after copies_refusal run_refusal copies_need table_and_word well_formed all_below all_in accepting accepting_from accepts move may_take passes reads_letter reads_stored after changes well_placed copies_of copies_from with_letters pairs
abab_listed = refl

pub abab_answer : copies_answer t_machine t_list (1 ∷ 2 ∷ 1 ∷ 2 ∷ []) abab 3 ≡ Ok (record { copies = 1; total = 2 })
unfolding t_machine t_list abab copies_answer copies_refusal run_refusal copies_need table_and_word well_formed all_below all_in accepting accepting_from accepts move may_take passes reads_letter reads_stored after changes well_placed copies_of copies_from with_letters total_back
abab_answer = refl

pub none_has_one : copies_of t_machine t_list [] none ≡ record { start = 0; stored = 0 } ∷ []
unfolding t_machine t_list none move may_take passes reads_letter reads_stored after changes well_placed copies_of copies_from
none_has_one = refl

pub none_listed : copies_answer t_machine t_list [] none 0 ≡ Ok (record { copies = 0; total = 0 })
unfolding t_machine t_list none copies_answer copies_refusal run_refusal copies_need table_and_word well_formed all_below all_in accepting accepting_from accepts move may_take passes reads_letter reads_stored after changes well_placed copies_of copies_from with_letters total_back
none_listed = refl

pub mixed_listed : copies_after repeated repeated_list (1 ∷ 1 ∷ []) mixed (7 ∷ 7 ∷ 7 ∷ []) ≡ 0 ∷ 1 ∷ 7 ∷ []
unfolding repeated repeated_list mixed copies_after copies_refusal run_refusal copies_need table_and_word well_formed all_below all_in accepting accepting_from accepts move may_take passes reads_letter reads_stored after changes well_placed copies_of copies_from with_letters pairs
mixed_listed = refl

pub mixed_short : copies_answer repeated repeated_list (1 ∷ 1 ∷ []) mixed 1 ≡ Err (ShortCopies 2)
unfolding repeated repeated_list mixed copies_answer copies_refusal run_refusal copies_need table_and_word well_formed all_below all_in accepting accepting_from accepts move may_take passes reads_letter reads_stored after changes well_placed copies_of copies_from with_letters total_back
mixed_short = refl
