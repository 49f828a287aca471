-- The round trips of sheets, of the calls: what the one leaves the other takes, for every input that is not refused and slices of any
-- length that suffices. And what read_sheet makes of blank columns.
--
-- Wrote m list before after r == what write_sheet promises: its answer r, and the slice before and after
-- Read s before after r       == what read_sheet promises: its answer r, and the list before and after
-- written_read == a table written as a sheet and read again is the same table: the same record and transitions, the rest of the list as it was
-- zeros_written == what write_sheet writes has no blank column
-- read_written == a sheet read and written is the same bytes with its blank columns filled, the rest of the slice as it was
-- read_same    == it is the same bytes where no column of it is blank
-- taken_iff_table == read_sheet takes a sheet, if and only if it is the sheet of some table, once its blank columns are filled, and the list is long
--                    enough for this table
-- same_iff_table  == it takes it and no column of it is blank, if and only if it is the sheet of some table, and the list is long enough
-- blanks_read  == what is the sheet of a table, once its blank columns are filled, is read as this table
-- filled_read  == read_sheet takes a sheet, if and only if it takes it with its blank columns filled; then it answers and leaves the same
use Rattle.std.specs.Prelude.{ℕ, ◌*◌, ◌≤◌, ◌≡◌, refl, ◌⊎◌, ◌↔◌, Option, None, Some, Result, Ok, Err, IsOk, is_ok, true, false, length, take, leb}
use Rattle.std.proofs.Math.Path.{sym, ap}
use Rattle.std.proofs.Common.{◌∙◌, inl, inr, take_at}
use Rattle.std.proofs.lemmas.Bool.{false≢true}
use Rattle.std.proofs.lemmas.Option.{none-some}
use mathlib.Core.List.{List, [], ◌++◌}
use Rattle.std.proofs.Math.Bool.{Bool, cond}
use Rattle.std.proofs.Math.ListN.{drop}
use Rattle.basics.specs.Search.Laws.{true_or_false}
use Rattle.fsbm.specs.Machine.{well_formed}
use Rattle.fsbm.specs.Answers.{by_refusal}
use Rattle.fsbm.specs.declared.machine.Machine.{Machine}
use Rattle.fsbm.specs.declared.answer.Refusal.{Refusal}
use Rattle.fsbm.specs.declared.answer.Refusal.TheVariants.{BadTable, ShortSheet}
use Rattle.sheet.specs.Format.{sheet_length, sheet_of}
use Rattle.sheet.specs.Reading.{column_at, first_fault, machine_of, transitions_of, read_answer, read_list}
use Rattle.sheet.specs.Writing.{write_refusal, write_answer, write_sheet}
use Rattle.sheet_laws.specs.Filled.{filled, has_blank}
use Rattle.sheet_laws.proofs.FilledLaws.{same_iff}
use Rattle.sheet_laws.proofs.RoundTrip.{Table, sheet_length_lem, written_filled, read_table, list_table, write_sound, sheet_sound_written}
use Rattle.sheet_laws.proofs.RoundTrip.{sound_filled, sound_table, good_iff_filled, filled_answer, filled_list}
use Rattle.sheet_laws.proofs.Obeys.{answered_ok, Taken, taken}

abbrev pub Wrote : Machine → List ℕ → List ℕ → List ℕ → Result ℕ Refusal → Type 0
Wrote m list before after r = (r ≡ write_answer m list (length before)) × (after ≡ write_sheet m list before)

abbrev pub Read : List ℕ → List ℕ → List ℕ → Result Machine Refusal → Type 0
Read s before after r = (r ≡ read_answer s (length before)) × (after ≡ read_list s before)

-- what an answer in bytes says
module _ (m : Machine) (list before after : List ℕ) (r : Result ℕ Refusal) (wrote : Wrote m list before after r) (n : ℕ) (is : r ≡ Ok n) where
  wrote_bytes : (well_formed m list ≡ true) × (n ≡ sheet_length m) × (after ≡ sheet_of m list ++ drop (sheet_length m) before)
  unfolding write_answer write_sheet write_refusal
  wrote_bytes = by (true_or_false (well_formed m list)) (true_or_false (leb (sheet_length m) (length before)))
    where
      answered : (write_refusal m list (length before) ≡ None) × (sheet_length m ≡ n)
      answered = answered_ok (write_refusal m list (length before)) (sheet_length m) n (sym wrote.0 ∙ is)

      of : Bool → Bool → Option Refusal
      of good long = cond good (cond long None (Some (ShortSheet (sheet_length m)))) (Some BadTable)

      by : (well_formed m list ≡ true) ⊎ (well_formed m list ≡ false) → (leb (sheet_length m) (length before) ≡ true) ⊎ (leb (sheet_length m) (length before) ≡ false)
          → (well_formed m list ≡ true) × (n ≡ sheet_length m) × (after ≡ sheet_of m list ++ drop (sheet_length m) before)
      by (inr f) l = absurd (none-some _ (sym answered.0 ∙ ap (λ (b : Bool). of b (leb (sheet_length m) (length before))) f))
      by (inl t) (inr l) = absurd (none-some _ (sym answered.0 ∙ λ j. of (t j) (l j)))
      by (inl t) (inl l) = (
        t,
        sym answered.1,
        wrote.1 ∙ ap (λ (o : Option Refusal). by_refusal o (sheet_of m list ++ drop (sheet_length m) before) (λ f. before)) answered.0,
      )

  -- the bytes that write_sheet says it wrote
  wrote_sheet : take n after ≡ sheet_of m list
  wrote_sheet =
      let (good, size, held) = wrote_bytes in
      ap (take n) held ∙ take_at (sheet_of m list) (drop (sheet_length m) before) n (sheet_length_lem m list ∙ sym size)

  pub zeros_written : length m.marks ≡ 64 → has_blank (take n after) ≡ false
  zeros_written marked = ap has_blank wrote_sheet ∙ (same_iff (sheet_of m list)).0 (written_filled m list (record { obeys = wrote_bytes.0; marked = marked }))

  module _ (marked : length m.marks ≡ 64) (entry exit : List ℕ) (a : Result Machine Refusal) (read : Read (take n after) entry exit a) (long : m.transitions * 3 ≤ length entry) where
    pub written_read : (a ≡ Ok m) × (exit ≡ take (m.transitions * 3) list ++ drop (m.transitions * 3) entry)
    written_read =
        let t : Table m list = record { obeys = wrote_bytes.0; marked = marked } in (
          read.0 ∙ (ap (λ (s : List ℕ). read_answer s (length entry)) wrote_sheet ∙ read_table m list t (sheet_of m list) (written_filled m list t) entry long),
          read.1 ∙ (ap (λ (s : List ℕ). read_list s entry) wrote_sheet ∙ list_table m list t (sheet_of m list) (written_filled m list t) entry long),
        )

module _ (s entry exit : List ℕ) (a : Result Machine Refusal) (read : Read s entry exit a) (m : Machine) (good : a ≡ Ok m) where
  what : Taken s (length entry) m
  what = taken s (length entry) m (sym read.0 ∙ good)

  was_read : exit ≡ transitions_of s ++ drop (column_at s 10 * 3) entry
  unfolding read_list
  was_read = read.1 ∙ ap (λ (o : Option Refusal). by_refusal o (transitions_of s ++ drop (column_at s 10 * 3) entry) (λ f. entry)) what.none

  module _ (before after : List ℕ) (r : Result ℕ Refusal) (wrote : Wrote m exit before after r) (long : length s ≤ length before) where
    pub read_written : (r ≡ Ok (length s)) × (after ≡ filled s ++ drop (length s) before)
    read_written =
        let rest = drop (column_at s 10 * 3) entry in (
          wrote.0
              ∙ (ap (λ (x : Machine). write_answer x exit (length before)) what.machine
              ∙ (ap (λ (l : List ℕ). write_answer (machine_of s) l (length before)) was_read ∙ write_sound s what.fault rest before long)),
          wrote.1
              ∙ (ap (λ (x : Machine). write_sheet x exit before) what.machine
              ∙ (ap (λ (l : List ℕ). write_sheet (machine_of s) l before) was_read ∙ sheet_sound_written s what.fault rest before long)),
        )

    pub read_same : has_blank s ≡ false → (r ≡ Ok (length s)) × (after ≡ s ++ drop (length s) before)
    read_same whole = (read_written.0, read_written.1 ∙ ap (λ (x : List ℕ). x ++ drop (length s) before) ((same_iff s).1 whole))

-- the sheet of a table, with zeros left out or not
pub blanks_read : (m : Machine) (list : List ℕ) → Table m list → (s : List ℕ) → filled s ≡ sheet_of m list → (entry exit : List ℕ) (a : Result Machine Refusal) → Read s entry exit a
    → m.transitions * 3 ≤ length entry
    → (a ≡ Ok m) × (exit ≡ take (m.transitions * 3) list ++ drop (m.transitions * 3) entry)
blanks_read m list t s is entry exit a read long = (read.0 ∙ read_table m list t s is entry long, read.1 ∙ list_table m list t s is entry long)

-- the machine of an answer that is no refusal
machine_in : (a : Result Machine Refusal) → IsOk a → (m : Machine) × (a ≡ Ok m)
machine_in (Ok m) good = (m, refl)
machine_in (Err f) good = absurd (false≢true good)

good_by : (a : Result Machine Refusal) (m : Machine) → a ≡ Ok m → IsOk a
good_by a m e = ap is_ok e

module _ (s entry exit : List ℕ) (a : Result Machine Refusal) (read : Read s entry exit a) where
  taken_by : IsOk a → (m : Machine) × Taken s (length entry) m
  taken_by good = let (m, e) = machine_in a good in (m, what s entry exit a read m e)

  pub taken_iff_table : IsOk a ↔ ((m : Machine) × (list : List ℕ) × Table m list × (filled s ≡ sheet_of m list) × (m.transitions * 3 ≤ length entry))
  unfolding machine_of
  taken_iff_table = (
    λ good. let t = (taken_by good).1 in
        (machine_of s, transitions_of s ++ [], sound_table s t.fault [], sym (sound_filled s t.fault []), t.long),
    λ w. good_by a w.0 (blanks_read w.0 w.1 w.2 s w.3 entry exit a read w.4).0,
  )

  pub same_iff_table : (IsOk a × (has_blank s ≡ false)) ↔ ((m : Machine) × (list : List ℕ) × Table m list × (s ≡ sheet_of m list) × (m.transitions * 3 ≤ length entry))
  same_iff_table = (
    λ g. let w = taken_iff_table.0 g.0 in (w.0, w.1, w.2, sym ((same_iff s).1 g.1) ∙ w.3, w.4),
    λ w. let same : filled s ≡ s = ap filled w.3 ∙ (written_filled w.0 w.1 w.2 ∙ sym w.3) in
        (taken_iff_table.1 (w.0, w.1, w.2, same ∙ w.3, w.4), (same_iff s).0 same),
  )

module _ (s entry exit exit' : List ℕ) (a a' : Result Machine Refusal) (read : Read s entry exit a) (read' : Read (filled s) entry exit' a') where
  same_answer : first_fault s ≡ 0 → (a' ≡ a) × (exit' ≡ exit)
  same_answer fault = (
    read'.0 ∙ (filled_answer s fault (length entry) ∙ sym read.0),
    read'.1 ∙ (filled_list s fault entry ∙ sym read.1),
  )

  pub filled_read : (IsOk a ↔ IsOk a') × (IsOk a → (a' ≡ a) × (exit' ≡ exit))
  filled_read = (
    (
      λ good. let (m, e) = machine_in a good in good_by a' m ((same_answer (taken_by s entry exit a read good).1.fault).0 ∙ e),
      λ good. let (m, e) = machine_in a' good in
          good_by a m (sym (same_answer ((good_iff_filled s).1 (taken_by (filled s) entry exit' a' read' good).1.fault)).0 ∙ e),
    ),
    λ good. same_answer (taken_by s entry exit a read good).1.fault,
  )
