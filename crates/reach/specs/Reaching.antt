-- What reach answers, and what the caller's slice holds afterwards. Numbers above 33 are the library's own. The laws stand in
-- specs/Reaching/Laws.antt.
--
-- modes, set_size            == how many modes there are; how many numbers of a slice a set of states takes
-- sets_before p              == how many numbers the sets of the first p positions take
-- set_at p t                 == where the set of position p and mode t begins
-- sets_needed w              == the length that the slice needs: the sets of the positions 0 to the end of w
-- reached_set m list w p t   == the set of the states that runs on w reach at position p in mode t
-- position_sets m list w p   == the sets of one position: normal, storing, matching
-- reached_sets m list w      == the sets of all positions
-- reach_refusal m list w len == the refusal, if there is one: 16, 9, 8, 36
-- reach_answer, reach_after   == what reach answers, and what the slice for the sets holds afterwards
-- reach_values     == the number and values that the rules give
use Rattle.std.specs.Prelude.{ℕ, ◌+◌, ◌*◌, List, [], ◌∷◌, cond, length, leb, eqb, Option, None, Some, Result, Ok, Err}
use Rattle.basics.specs.Each.{each_below}
use Rattle.basics.specs.Lists.{put}
use Rattle.stateset.specs.Set.{collected}
use Rattle.fsbm.specs.Moves.{mode_number}
use Rattle.fsbm.specs.Answers.{longest_recognized, table_and_word, number_of, needed_of, refusal, by_refusal, CountValues, count_values}
use Rattle.fsbm.specs.Reaches.{reaches}
use Rattle.fsbm.specs.declared.machine.Machine.{Machine}
use Rattle.fsbm.specs.declared.config.Mode.{Mode}
use Rattle.fsbm.specs.declared.config.Mode.TheVariants.{Normal, Buffering, Emptying}
use Rattle.fsbm.specs.declared.answer.Refusal.{Refusal}
use Rattle.fsbm.specs.declared.answer.Refusal.TheVariants.{ShortSets}
pub mod Laws

abbrev pub modes : ℕ
modes = 3

abbrev pub set_size : ℕ
set_size = 1

abbrev pub sets_before : ℕ → ℕ
sets_before p = modes * set_size * p

abbrev pub set_at : ℕ → Mode → ℕ
set_at p t = sets_before p + set_size * mode_number t

abbrev pub sets_needed : List ℕ → ℕ
sets_needed w = sets_before (length w + 1)

unfoldable pub reached_set : Machine → List ℕ → List ℕ → ℕ → Mode → ℕ
reached_set m list w p t = collected m.states (reaches m list w p t)

abbrev pub position_sets : Machine → List ℕ → List ℕ → ℕ → List ℕ
position_sets m list w p = reached_set m list w p Normal ∷ reached_set m list w p Buffering ∷ reached_set m list w p Emptying ∷ []

unfoldable pub reached_sets : Machine → List ℕ → List ℕ → List ℕ
reached_sets m list w = each_below (length w + 1) (position_sets m list w)

-- 16 the table breaks the rules, 9 the word is too long, 8 it has a letter that is not there, 36 the slice is too short, with the length needed
unfoldable pub reach_refusal : Machine → List ℕ → List ℕ → ℕ → Option Refusal
reach_refusal m list w len =
    cond (eqb (table_and_word longest_recognized m list w) 0)
    (cond (leb (sets_needed w) len) None (Some (ShortSets (sets_needed w))))
    (Some (refusal (table_and_word longest_recognized m list w)))

unfoldable pub reach_answer : Machine → List ℕ → List ℕ → ℕ → Result ℕ Refusal
reach_answer m list w len = by_refusal (reach_refusal m list w len) (Ok (sets_needed w)) (λ f. Err f)

unfoldable pub reach_after : Machine → List ℕ → List ℕ → List ℕ → List ℕ
reach_after m list w sets = by_refusal (reach_refusal m list w (length sets)) (put 0 sets (reached_sets m list w)) (λ f. sets)

unfoldable pub reach_values : Machine → List ℕ → List ℕ → ℕ → CountValues
reach_values m list w len =
    cond (eqb (table_and_word longest_recognized m list w) 0)
    (cond (leb (sets_needed w) len) (record { refusal = 0; needed = 0; count = sets_needed w }) (record { refusal = 36; needed = sets_needed w; count = 0 }))
    (record { refusal = table_and_word longest_recognized m list w; needed = 0; count = 0 })
