-- Document 02, change 1: a page for each reading, as theorems about write_page. Each speaks of whatever answer and slice the call leaves that keeps
-- its contract.
--
-- 1. Every input is in one of six cases; the refusals come in this order, and each leaves the slice as it was:
-- table_refused    == the record and its list break the rules of a table: 16
-- length_refused   == they do not, the word has more than 255 letters or the run more than 99,999 entries: 9
-- letter_refused   == nor that, the word has a letter that is not there: 8
-- run_refused      == nor that, the run does not accept: 14
-- slice_refused    == it accepts, the slice is shorter than 31 bytes for each entry and 19: 19, with that length
-- page_written     == it is long enough: the page stands at its front, and what stands past it is as it was
-- page_iff         == so there is a page, if and only if table, lengths, letters, run and slice are good
--
-- 2. What the slice then shows. The bytes: padding and line ends are the sheet's, each column a space and the sheet's column
-- entry_printed    == the line of entry i has five columns of six bytes: its number, and as they are after it the state, the mode's number, the letters
--                     read so far and the letters in the buffer
-- entry_ended      == byte 10 ends the line
-- last_printed     == the last line has three: the letters read in normal mode, the letters stored, the word's length
-- last_ended       == byte 10 ends it
-- The numbers, the columns read as a sheet's are:
-- entry_shown, last_shown == they are these
--
-- 3. Plain letters and twice the stored letters always make the length:
-- page_adds        == the first number of the last line and times_read (2) times the second make the third
-- stored_as_listed == the second is the total that list_copies answers for the same run
use Rattle.std.specs.Prelude.{ℕ, ◌+◌, ◌*◌, ◌≤◌, ◌<◌, ◌≡◌, ◌↔◌, ◌⊎◌, true, false, List, ◌∷◌, ◌++◌, length, get_or, take, drop, leb, eqb, Result, Ok, Err}
use Rattle.std.proofs.Common.{sym, ◌∙◌, ap, inl, inr, arith, drop-drop, get_or-drop, leb-true, leb-false, eqb-true}
use Rattle.std.proofs.lemmas.Bool.{eqb-false}
use Rattle.basics.specs.Search.Laws.{true_or_false}
use Rattle.columns.specs.Column.{column_number, column_of}
use Rattle.columns.specs.Column.Laws.{number_of_column, column_wider}
use Rattle.columns.specs.Line.{line_of, number_at}
use Rattle.columns.specs.Line.Laws.{line_column, line_end}
use Rattle.fsbm.specs.Machine.{well_formed}
use Rattle.fsbm.specs.Rules.{rules}
use Rattle.fsbm.specs.Moves.{mode_number, accepting}
use Rattle.fsbm.specs.Moves.Laws.{mode_below}
use Rattle.fsbm.specs.Answers.{good_letters, refusal}
use Rattle.fsbm.specs.Answers.Laws.{not_both}
use Rattle.fsbm.specs.declared.machine.Machine.{Machine}
use Rattle.fsbm.specs.declared.answer.Refusal.{Refusal}
use Rattle.fsbm.specs.declared.answer.Refusal.TheVariants.{AbsentLetter, TooLong, NotAccepting, BadTable, ShortSheet}
use Rattle.copies.specs.Letters.{times_read, in_buffer, plain_letters, stored_letters}
use Rattle.copies.specs.Letters.Laws.{plain_and_stored}
use Rattle.copies.specs.Copies.{copies_answer, copies_after}
use Rattle.copies.specs.Copies.Laws.{stored_total}
use Rattle.copies.specs.declared.Copied.{Copied}
use Rattle.sheet.specs.Format.{sheet_column}
use Rattle.page.specs.Page.{longest_word, longest_run, page_column, after_entry, entry_numbers, last_numbers, page_of, page_length, page_fault, page_answer, page_after}
use Rattle.page.specs.Page.Laws.{fault_table, fault_length, fault_letter, fault_none, Leaves, refused_first, refused_run, refused_room, written_all, reached, entry_at, last_at}
use Rattle.demands.specs.EmptyCopies.{total_from_last}

-- column c of a line that stands at byte at
module _ (slice ns tail : List ℕ) (at : ℕ) (is : drop at slice ≡ line_of page_column ns ++ tail) where
  column : (c : ℕ) → c < length ns → take page_column (drop (at + 6 * c) slice) ≡ column_of page_column (get_or ns c 0)
  column c lt = ap (take 6) (sym (drop-drop (6 * c) at slice) ∙ ap (drop (6 * c)) is) ∙ line_column 6 ns tail c lt

  column_printed : (c : ℕ) → c < length ns → get_or ns c 0 < 100000 → take page_column (drop (at + 6 * c) slice) ≡ 32 ∷ column_of sheet_column (get_or ns c 0)
  column_printed c lt fits = column c lt ∙ column_wider 4 (get_or ns c 0) fits

  column_shown : (c : ℕ) → c < length ns → get_or ns c 0 < 100000 → number_at page_column slice (at + 6 * c) ≡ get_or ns c 0
  column_shown c lt fits = ap column_number (column c lt) ∙ number_of_column 5 (get_or ns c 0) (omega arith)

  line_ended : get_or slice (at + 6 * length ns) 0 ≡ 10
  line_ended = sym (get_or-drop at slice (6 * length ns) 0) ∙ (ap (λ (l : List ℕ). get_or l (6 * length ns) 0) is ∙ line_end 6 ns tail)

module _ (m : Machine) (list w run entry exit : List ℕ) (r : Result ℕ Refusal)
    (contract : (r ≡ page_answer m list w run (length entry)) × (exit ≡ page_after m list w run entry)) where
  by : {x : Result ℕ Refusal} {l : List ℕ} → Leaves m list w run entry x l → (r ≡ x) × (exit ≡ l)
  by (a, s) = (contract.0 ∙ sym a, contract.1 ∙ sym s)

  -- 1. The six cases

  some_fault : (n : ℕ) → n ≡ page_fault m list w run → (n ≡ 0 → ⊥) → (r ≡ Err (refusal n)) × (exit ≡ entry)
  some_fault n is some =
      let (a, s) = by (refused_first m list w run entry (λ (z : page_fault m list w run ≡ 0). some (is ∙ z))) in
      (a ∙ ap (λ (k : ℕ). Err (refusal k)) (sym is), s)

  pub table_refused : well_formed m list ≡ false → (r ≡ Err BadTable) × (exit ≡ entry)
  unfolding refusal
  table_refused h = some_fault 16 (fault_table m list w run h) (λ (z : ◌≡◌ {A = ℕ} 16 0). omega arith)

  module _ (good : well_formed m list ≡ true) where
    pub length_refused : (longest_word < length w) ⊎ (longest_run < length run) → (r ≡ Err TooLong) × (exit ≡ entry)
    unfolding refusal
    length_refused h = some_fault 9 (fault_length m list w run good h) (λ (z : ◌≡◌ {A = ℕ} 9 0). omega arith)

    module _ (word_fits : length w ≤ longest_word) (run_fits : length run ≤ longest_run) where
      pub letter_refused : good_letters m.letters w ≡ false → (r ≡ Err AbsentLetter) × (exit ≡ entry)
      unfolding refusal
      letter_refused h = some_fault 8 (fault_letter m list w run good word_fits run_fits h) (λ (z : ◌≡◌ {A = ℕ} 8 0). omega arith)

      module _ (letters : good_letters m.letters w ≡ true) where
        passes : page_fault m list w run ≡ 0
        passes = (fault_none m list w run).1 (good, word_fits, run_fits, letters)

        pub run_refused : accepting m list w run ≡ false → (r ≡ Err NotAccepting) × (exit ≡ entry)
        run_refused h = by (refused_run m list w run entry passes h)

        module _ (accepts : accepting m list w run ≡ true) where
          pub slice_refused : length entry < page_length (length run) → (r ≡ Err (ShortSheet (page_length (length run)))) × (exit ≡ entry)
          slice_refused h = by (refused_room m list w run entry passes accepts h)

          pub page_written : page_length (length run) ≤ length entry → (r ≡ Ok (page_length (length run))) × (exit ≡ page_of m list w run ++ drop (page_length (length run)) entry)
          page_written h = by (written_all m list w run entry passes accepts h)

  -- an answer with a page

  module _ (bytes : ℕ) (answer : r ≡ Ok bytes) where
    tested : (eqb (page_fault m list w run) 0 ≡ true) ⊎ (eqb (page_fault m list w run) 0 ≡ false) → page_fault m list w run ≡ 0
    tested (inl t) = eqb-true (page_fault m list w run) 0 t
    tested (inr f) = absurd (not_both answer (by (refused_first m list w run entry (eqb-false (page_fault m list w run) 0 f))).0)

    fine : page_fault m list w run ≡ 0
    fine = tested (true_or_false (eqb (page_fault m list w run) 0))

    followed : (accepting m list w run ≡ true) ⊎ (accepting m list w run ≡ false) → accepting m list w run ≡ true
    followed (inl t) = t
    followed (inr f) = absurd (not_both answer (by (refused_run m list w run entry fine f)).0)

    accepts : accepting m list w run ≡ true
    accepts = followed (true_or_false (accepting m list w run))

    fitted : (leb (page_length (length run)) (length entry) ≡ true) ⊎ (leb (page_length (length run)) (length entry) ≡ false) → page_length (length run) ≤ length entry
    fitted (inl t) = leb-true (page_length (length run)) (length entry) t
    fitted (inr f) = absurd (not_both answer (by (refused_room m list w run entry fine accepts (leb-false (page_length (length run)) (length entry) f))).0)

    room : page_length (length run) ≤ length entry
    room = fitted (true_or_false (leb (page_length (length run)) (length entry)))

    written : exit ≡ page_of m list w run ++ drop (page_length (length run)) entry
    written = (by (written_all m list w run entry fine accepts room)).1

    good : well_formed m list ≡ true
    good = ((fault_none m list w run).0 fine).0

    short : length w ≤ longest_word
    short = ((fault_none m list w run).0 fine).1

    few : length run ≤ longest_run
    few = ((fault_none m list w run).0 fine).2

    -- 2. What the slice shows

    module _ (i : ℕ) (lt : i < length run) where
      line : (tail : List ℕ) × (drop (31 * i) exit ≡ line_of page_column (entry_numbers i (after_entry m list w run i)) ++ tail)
      line = let (tail, is) = entry_at m list w run (drop (page_length (length run)) entry) i lt in (tail, ap (drop (31 * i)) written ∙ is)

      small : (i < 100000) × ((after_entry m list w run i).state < 100000) × (mode_number (after_entry m list w run i).mode < 100000)
          × ((after_entry m list w run i).position < 100000) × (in_buffer (after_entry m list w run i) < 100000)
      small =
          let p = (reached m list w run good accepts i lt).placed in
          let states = (rules m list good).states_fit in
          let modes = mode_below (after_entry m list w run i).mode in
          (omega (arith, few), omega (arith, p.state_below), omega arith, omega (arith, short, p.in_word), omega (arith, short, p.in_word, p.behind))

      pub entry_printed : (take page_column (drop (31 * i) exit) ≡ 32 ∷ column_of sheet_column i)
          × (take page_column (drop (31 * i + 6) exit) ≡ 32 ∷ column_of sheet_column (after_entry m list w run i).state)
          × (take page_column (drop (31 * i + 12) exit) ≡ 32 ∷ column_of sheet_column (mode_number (after_entry m list w run i).mode))
          × (take page_column (drop (31 * i + 18) exit) ≡ 32 ∷ column_of sheet_column (after_entry m list w run i).position)
          × (take page_column (drop (31 * i + 24) exit) ≡ 32 ∷ column_of sheet_column (in_buffer (after_entry m list w run i)))
      entry_printed =
          let begin : 31 * i + 6 * 0 ≡ 31 * i = omega arith in
          let printed = column_printed exit (entry_numbers i (after_entry m list w run i)) line.0 (31 * i) line.1 in (
            ap (λ (k : ℕ). take page_column (drop k exit)) (sym begin) ∙ printed 0 (omega arith) small.0,
            printed 1 (omega arith) small.1,
            printed 2 (omega arith) small.2,
            printed 3 (omega arith) small.3,
            printed 4 (omega arith) small.4,
          )

      pub entry_shown : (number_at page_column exit (31 * i) ≡ i)
          × (number_at page_column exit (31 * i + 6) ≡ (after_entry m list w run i).state)
          × (number_at page_column exit (31 * i + 12) ≡ mode_number (after_entry m list w run i).mode)
          × (number_at page_column exit (31 * i + 18) ≡ (after_entry m list w run i).position)
          × (number_at page_column exit (31 * i + 24) ≡ in_buffer (after_entry m list w run i))
      entry_shown =
          let begin : 31 * i + 6 * 0 ≡ 31 * i = omega arith in
          let shown = column_shown exit (entry_numbers i (after_entry m list w run i)) line.0 (31 * i) line.1 in (
            ap (number_at page_column exit) (sym begin) ∙ shown 0 (omega arith) small.0,
            shown 1 (omega arith) small.1,
            shown 2 (omega arith) small.2,
            shown 3 (omega arith) small.3,
            shown 4 (omega arith) small.4,
          )

      pub entry_ended : get_or exit (31 * i + 30) 0 ≡ 10
      entry_ended = line_ended exit (entry_numbers i (after_entry m list w run i)) line.0 (31 * i) line.1

    last : drop (31 * length run) exit ≡ line_of page_column (last_numbers m list w run) ++ drop (page_length (length run)) entry
    last = ap (drop (31 * length run)) written ∙ last_at m list w run (drop (page_length (length run)) entry)

    totals_small : (plain_letters m list w run < 100000) × (stored_letters m list w run < 100000) × (length w < 100000)
    totals_small = let adds = plain_and_stored m list w run accepts in (omega (arith, short), omega (arith, short), omega (arith, short))

    pub last_printed : (take page_column (drop (31 * length run) exit) ≡ 32 ∷ column_of sheet_column (plain_letters m list w run))
        × (take page_column (drop (31 * length run + 6) exit) ≡ 32 ∷ column_of sheet_column (stored_letters m list w run))
        × (take page_column (drop (31 * length run + 12) exit) ≡ 32 ∷ column_of sheet_column (length w))
    last_printed =
        let begin : 31 * length run + 6 * 0 ≡ 31 * length run = omega arith in
        let printed = column_printed exit (last_numbers m list w run) (drop (page_length (length run)) entry) (31 * length run) last in (
          ap (λ (k : ℕ). take page_column (drop k exit)) (sym begin) ∙ printed 0 (omega arith) totals_small.0,
          printed 1 (omega arith) totals_small.1,
          printed 2 (omega arith) totals_small.2,
        )

    pub last_shown : (number_at page_column exit (31 * length run) ≡ plain_letters m list w run)
        × (number_at page_column exit (31 * length run + 6) ≡ stored_letters m list w run)
        × (number_at page_column exit (31 * length run + 12) ≡ length w)
    last_shown =
        let begin : 31 * length run + 6 * 0 ≡ 31 * length run = omega arith in
        let shown = column_shown exit (last_numbers m list w run) (drop (page_length (length run)) entry) (31 * length run) last in (
          ap (number_at page_column exit) (sym begin) ∙ shown 0 (omega arith) totals_small.0,
          shown 1 (omega arith) totals_small.1,
          shown 2 (omega arith) totals_small.2,
        )

    pub last_ended : get_or exit (31 * length run + 18) 0 ≡ 10
    last_ended = line_ended exit (last_numbers m list w run) (drop (page_length (length run)) entry) (31 * length run) last

    -- 3. The sum

    pub page_adds : number_at page_column exit (31 * length run) + times_read * number_at page_column exit (31 * length run + 6) ≡ number_at page_column exit (31 * length run + 12)
    page_adds =
        let (plain, stored, all) = last_shown in
        let adds = plain_and_stored m list w run accepts in
        omega arith

    pub stored_as_listed : (slice after : List ℕ) (a : Result Copied Refusal) → (a ≡ copies_answer m list w run (length slice)) × (after ≡ copies_after m list w run slice) → (n total : ℕ) → a ≡ Ok (record { copies = n; total = total })
        → number_at page_column exit (31 * length run + 6) ≡ total
    stored_as_listed slice after a kept n total listed =
        last_shown.1 ∙ (stored_total m list w run good accepts ∙ sym (total_from_last m list w run slice after a kept n total listed))

  pub page_iff : ((bytes : ℕ) × (r ≡ Ok bytes))
      ↔ ((well_formed m list ≡ true) × (length w ≤ longest_word) × (length run ≤ longest_run) × (good_letters m.letters w ≡ true) × (accepting m list w run ≡ true)
      × (page_length (length run) ≤ length entry))
  page_iff = (
    λ z. (good z.0 z.1, short z.0 z.1, few z.0 z.1, ((fault_none m list w run).0 (fine z.0 z.1)).3, accepts z.0 z.1, room z.0 z.1),
    λ z. (page_length (length run), (page_written z.0 z.1 z.2 z.3 z.4 z.5).0),
  )
