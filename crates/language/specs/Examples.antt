-- The marked examples of document 01 that need no search, as rows of one table. The laws stand in specs/Examples/Laws.antt.
--
-- machine letters transitions marks == a record with these counts and one mark a state
-- Row                  == a kind of example, with its machine, list, word and run
-- Meaning r            == what the row r says about the definitions
-- holds r              == the computed test of the row r
-- rows                 == the table
--
-- A crate with rows of other kinds wraps Row as one constructor of its own data type; Meaning, holds and the law go on by that case.
use Rattle.std.specs.Prelude.{ℕ, ◌-◌, ◌<◌, ◌≡◌, Bool, true, false, not, ◌&&◌, length, replicate, ltb}
use mathlib.Core.List.{List, [], ◌∷◌, ◌++◌, Memᴰ}
use Rattle.basics.specs.Search.{all_below, all_in}
use Rattle.fsbm.specs.Machine.{max_states, well_formed}
use Rattle.fsbm.specs.Moves.{well_placed, reads_letter, passes, reads_stored, may_take, after, changes, move, accepts, accepting_from, accepting, begin_buffering}
use Rattle.fsbm.specs.Accepted.{accepted}
use Rattle.fsbm.specs.declared.machine.Machine.{Machine}
use Rattle.language.specs.NoWord.{no_word}
use Rattle.language.specs.Reached.{decided}
pub mod Laws

-- Machines

-- as many states as marks; the marks past the last state are 0
abbrev pub machine : ℕ → ℕ → List ℕ → Machine
machine letters transitions marks =
    record { states = length marks; letters = letters; transitions = transitions; marks = marks ++ replicate (max_states - length marks) 0 }

-- T: the doubled words over letters 1 and 2
abbrev pub doubling : Machine
doubling = machine 2 6 (5 ∷ 0 ∷ 10 ∷ [])

abbrev pub doubling_list : List ℕ
doubling_list = 0 ∷ 0 ∷ 1 ∷ 1 ∷ 0 ∷ 2 ∷ 1 ∷ 1 ∷ 1 ∷ 1 ∷ 2 ∷ 1 ∷ 2 ∷ 1 ∷ 2 ∷ 2 ∷ 2 ∷ 2 ∷ []

-- accepts 1 2 2 and copies nothing
abbrev pub plain_path : Machine
plain_path = machine 2 3 (1 ∷ 8 ∷ 0 ∷ 10 ∷ [])

abbrev pub plain_path_list : List ℕ
plain_path_list = 0 ∷ 1 ∷ 1 ∷ 1 ∷ 2 ∷ 2 ∷ 2 ∷ 2 ∷ 3 ∷ []

-- its only way to the final state is a transition between two matching states
abbrev pub blocked : Machine
blocked = machine 1 2 (1 ∷ 8 ∷ 10 ∷ [])

abbrev pub blocked_list : List ℕ
blocked_list = 0 ∷ 1 ∷ 1 ∷ 1 ∷ 1 ∷ 2 ∷ []

-- Rows

pub data Row : Type 0 where
  -- the run accepts the word
  run_accepts : (m : Machine) (list w run : List ℕ) → Row
  -- the run accepts the word, and no entry of it changes the mode
  run_accepts_plainly : (m : Machine) (list w run : List ℕ) → Row
  -- the run does not accept the word
  run_does_not : (m : Machine) (list w run : List ℕ) → Row
  -- the machine does not accept the word
  says_no : (m : Machine) (list w : List ℕ) → Row
  -- the machine accepts no word at all
  no_word_at_all : (m : Machine) (list : List ℕ) → Row

abbrev pub Meaning : Row → Type 0
Meaning (run_accepts m list w run) = (well_formed m list ≡ true) × (accepting m list w run ≡ true) × (accepted m list w ≡ true)
Meaning (run_accepts_plainly m list w run) =
    (well_formed m list ≡ true) × (accepting m list w run ≡ true) × (accepted m list w ≡ true) × ((e : ℕ) → Memᴰ e run → e < begin_buffering)
Meaning (run_does_not m list w run) = (well_formed m list ≡ true) × (accepting m list w run ≡ false)
Meaning (says_no m list w) = (well_formed m list ≡ true) × (accepted m list w ≡ false)
Meaning (no_word_at_all m list) = (well_formed m list ≡ true) × ((w : List ℕ) → accepted m list w ≡ false)

unfoldable pub holds : Row → Bool
unfolding well_formed all_below all_in accepting accepting_from accepts move well_placed passes reads_stored may_take after changes reads_letter decided no_word
holds (run_accepts m list w run) = well_formed m list && accepting m list w run
holds (run_accepts_plainly m list w run) = well_formed m list && (accepting m list w run && all_in (λ e. ltb e begin_buffering) run)
holds (run_does_not m list w run) = well_formed m list && not (accepting m list w run)
holds (says_no m list w) = well_formed m list && not (decided m list w)
holds (no_word_at_all m list) = well_formed m list && no_word m list

abbrev pub rows : List Row
rows =
    run_accepts doubling doubling_list (1 ∷ 2 ∷ 1 ∷ 2 ∷ []) (0 ∷ 65533 ∷ 0 ∷ 2 ∷ 3 ∷ 1 ∷ 65534 ∷ 4 ∷ 5 ∷ 65535 ∷ [])
    ∷ run_accepts doubling doubling_list [] (0 ∷ 65533 ∷ 0 ∷ 1 ∷ 65534 ∷ 65535 ∷ [])
    ∷ run_does_not doubling doubling_list [] (0 ∷ 65533 ∷ 0 ∷ 1 ∷ 65534 ∷ [])
    ∷ says_no doubling doubling_list (1 ∷ [])
    ∷ says_no doubling doubling_list (1 ∷ 2 ∷ 2 ∷ [])
    ∷ says_no doubling doubling_list (1 ∷ 2 ∷ 2 ∷ 1 ∷ [])
    ∷ run_accepts_plainly plain_path plain_path_list (1 ∷ 2 ∷ 2 ∷ []) (0 ∷ 0 ∷ 1 ∷ 2 ∷ [])
    ∷ no_word_at_all blocked blocked_list
    ∷ []
