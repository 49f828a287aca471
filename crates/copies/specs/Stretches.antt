-- The copies of an accepting run, told by its entries and the letters of the transitions that they name; no configuration is
-- followed. The laws stand in specs/Stretches/Laws.antt.
--
-- most_copies            == the largest number of copies with letters
-- passed n list s e     == the stretch s once entry e is passed, in a list of n transitions
-- stretch_copy s         == the copy that stores the stretch
-- entries_from n list s es == the copies that the entries es make from the stretch s
-- read_from n list s es  == the position after them
-- at_first               == the stretch at a run's first entry
-- entry_list n list run  == the copies with letters of a whole run
-- entries_read n list run == the number of letters that it reads
use Rattle.std.specs.Prelude.{ℕ, ◌-◌, ◌/◌, List, [], ◌∷◌, cond, drop, ltb, eqb}
use Rattle.fsbm.specs.Machine.{transition_at}
use Rattle.fsbm.specs.Moves.{advanced, begin_buffering, begin_emptying}
use Rattle.copies.specs.declared.Stretch.{Stretch}
use Rattle.copies.specs.Copies.{Copy, with_letters, longest_copied}
pub mod Laws

-- a word of longest_copied letters has no more copies with letters than this
abbrev pub most_copies : ℕ
most_copies = longest_copied / 2

-- storing begins at the position; a transition moves the position on if it has a letter
unfoldable pub passed : ℕ → List ℕ → Stretch → ℕ → Stretch
passed n list s e =
    cond (eqb e begin_buffering) (record { start = s.position; position = s.position })
    (cond (ltb e n) (record { start = s.start; position = advanced s.position (transition_at list e).letter })
    s)

abbrev pub stretch_copy : Stretch → Copy
stretch_copy s = record { start = s.start; stored = s.position - s.start }

unfoldable pub entries_from : ℕ → List ℕ → Stretch → List ℕ → List Copy
entries_from n list s [] = []
entries_from n list s (e ∷ es) =
    let rest = entries_from n list (passed n list s e) es in
    cond (eqb e begin_emptying) (stretch_copy s ∷ rest) rest

unfoldable pub read_from : ℕ → List ℕ → Stretch → List ℕ → ℕ
read_from n list s [] = s.position
read_from n list s (e ∷ es) = read_from n list (passed n list s e) es

abbrev pub at_first : Stretch
at_first = record { start = 0; position = 0 }

abbrev pub entry_list : ℕ → List ℕ → List ℕ → List Copy
entry_list n list run = with_letters (entries_from n list at_first (drop 1 run))

abbrev pub entries_read : ℕ → List ℕ → List ℕ → ℕ
entries_read n list run = read_from n list at_first (drop 1 run)
