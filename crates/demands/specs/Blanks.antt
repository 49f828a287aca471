-- Document 02, change 8: a blank column is zero, as theorems about the calls. Each speaks of whatever answer and slices a call leaves that keeps its
-- contract.
--
-- 1. Five spaces read as 0 wherever a column is read; of columns::number, which reads every column, at every width:
-- blank_is_zero    == a column of spaces is 0
-- number_iff       == the number of a column is n, if and only if it is the column of n, or spaces and n is 0
-- none_iff         == it has no number, if and only if it is neither the column of one nor spaces
--
-- 2. Everything built on that reading follows:
-- filled_read      == read_sheet takes a sheet, if and only if it takes it with its blank columns filled; then it answers and leaves the same
-- taken_iff_table  == it takes a sheet, if and only if with its blank columns filled it is the sheet of some table, and the list is long enough for it
-- blanks_read      == and it is read as this table
-- blank_states     == a blank state count is refused by 3
-- blank_letter     == a word of the listing with a blank letter is refused by 8
-- blank_not_broken == a blank column is no fault 2
--
-- 3. The writer still prints 0; a table written and read is still itself; a sheet read and written comes back with its blanks filled:
-- zeros_written    == what write_sheet writes has no blank column
-- table_round_trip, sheet_round_trip, sheet_same in specs/Demand2.antt
--
-- 4. Every sheet that was good while a blank column was refused is read as before:
-- good_before      == read_sheet takes a sheet and it has no blank column, if and only if it is the sheet of some table, and the list is long enough for
--                     it: before, it took these and no others
-- read_as_before   == and it is read as this table
use Rattle.std.specs.Prelude.{ℕ, ◌+◌, ◌*◌, ◌/◌, ◌<◌, ◌≤◌, ◌^◌, ◌≡◌, refl, ◌↔◌, ◌⊎◌, Bool, true, false, cond, not, List, ◌++◌, length, take, drop, replicate, leb, eqb, Option, None, Some, Result, Ok, Err, IsOk}
use Rattle.std.proofs.Common.{sym, ◌∙◌, inl, inr, arith, ne_eqb, length-drop, length-take-le}
use Rattle.std.proofs.Math.Path.{ap}
use Rattle.std.proofs.Math.Nat.{pow-le-pow_right}
use Rattle.basics.specs.Search.{all_below}
use Rattle.basics.specs.Search.Laws.{true_or_false, not_both, all_below_true}
use Rattle.basics.specs.Search.Loops.{second}
use Rattle.columns.specs.Column.{widest_column, no_number, some_number, column_number, column_of}
use Rattle.columns.specs.Column.Laws.{blank_column, column_holds, column_none, none_answered, number_answered}
use Rattle.fsbm.specs.Accepted.{accepted}
use Rattle.fsbm.specs.Answers.{refusal, by_refusal, good_letter}
use Rattle.fsbm.specs.declared.machine.Machine.{Machine}
use Rattle.fsbm.specs.declared.answer.Refusal.{Refusal}
use Rattle.fsbm.specs.declared.answer.Refusal.TheVariants.{BadCount, ShortList}
use Rattle.sheet.specs.Format.{sheet_of}
use Rattle.sheet.specs.Reading.{column_at, column_fault, line_fault, counts_fault, header_fault, first_fault, machine_of, transitions_of, read_refusal, read_answer, read_list}
use Rattle.sheet.specs.Reading.Laws.{header_first}
use Rattle.sheet.specs.Series.Laws.{or_none}
use Rattle.sheet_laws.specs.Filled.{filled, has_blank}
use Rattle.sheet_laws.proofs.RoundTrip.{Table, written_filled}
use Rattle.sheet_laws.proofs.Calls as calls
use Rattle.sheet_laws.proofs.Calls.{Wrote, Read}
use Rattle.lines.specs.Line.{letter_column, letter_at, word_of, holds_letter, line_refusal, line_answer}
use Rattle.lines.specs.Line.Laws.{line_refused}
use Rattle.lines.specs.Steps.{columns_fault}
use Rattle.lines.specs.declared.Answer.{Answer}

-- 1. A column of any width that is read, at any place of a list of bytes

number_some : (n : ℕ) → n < no_number → some_number n ≡ Some n
unfolding some_number
number_some n h = sym (second {r = Some n} None (ne_eqb n no_number (λ (e : n ≡ no_number). omega arith)) refl)

module _ (bytes : List ℕ) (at width : ℕ) (r : Option ℕ) (there : at + width ≤ length bytes) (narrow : width ≤ widest_column) (contract : r ≡ some_number (column_number (take width (drop at bytes)))) where
  wide : length (take width (drop at bytes)) ≡ width
  wide = length-take-le width (drop at bytes) (let l = length-drop at bytes in omega arith)

  pub blank_is_zero : take width (drop at bytes) ≡ replicate width 32 → r ≡ Some 0
  blank_is_zero spaces = contract ∙ (ap some_number (ap column_number spaces ∙ blank_column width) ∙ number_some 0 (omega arith))

  pub number_iff : (n : ℕ) → n < 10 ^ width
      → (r ≡ Some n) ↔ ((take width (drop at bytes) ≡ column_of width n) ⊎ ((take width (drop at bytes) ≡ replicate width 32) × (n ≡ 0)))
  number_iff n fits =
      let exactly = column_holds (take width (drop at bytes)) width wide narrow n fits in (
        λ (e : r ≡ Some n). exactly.0 (sym (number_answered (column_number (take width (drop at bytes))) n (sym e ∙ contract)).0),
        λ h. contract ∙ (ap some_number (exactly.1 h) ∙ number_some n (let p = pow-le-pow_right {n = 10} (omega arith) narrow in omega arith)),
      )

  pub none_iff : (r ≡ None) ↔ (((n : ℕ) → n < 10 ^ width → take width (drop at bytes) ≡ column_of width n → ⊥) × (take width (drop at bytes) ≡ replicate width 32 → ⊥))
  unfolding some_number
  none_iff =
      let exactly = column_none (take width (drop at bytes)) width wide narrow in (
        λ (e : r ≡ None). exactly.0 (none_answered (column_number (take width (drop at bytes))) (sym e ∙ contract)),
        λ h. contract ∙ ap some_number (exactly.1 h),
      )

-- 2. What follows

pub filled_read : (s entry exit exit' : List ℕ) (a a' : Result Machine Refusal) → Read s entry exit a → Read (filled s) entry exit' a'
    → (IsOk a ↔ IsOk a') × (IsOk a → (a' ≡ a) × (exit' ≡ exit))
filled_read s entry exit exit' a a' read read' = calls.filled_read s entry exit exit' a a' read read'

pub taken_iff_table : (s entry exit : List ℕ) (a : Result Machine Refusal) → Read s entry exit a
    → IsOk a ↔ ((m : Machine) × (list : List ℕ) × Table m list × (filled s ≡ sheet_of m list) × (m.transitions * 3 ≤ length entry))
taken_iff_table s entry exit a read = calls.taken_iff_table s entry exit a read

pub blanks_read : (m : Machine) (list : List ℕ) → Table m list → (s : List ℕ) → filled s ≡ sheet_of m list → (entry exit : List ℕ) (a : Result Machine Refusal) → Read s entry exit a
    → m.transitions * 3 ≤ length entry
    → (a ≡ Ok m) × (exit ≡ take (m.transitions * 3) list ++ drop (m.transitions * 3) entry)
blanks_read m list t s is entry exit a read long = calls.blanks_read m list t s is entry exit a read long

-- line one is there, its columns hold numbers, and it ends as it should
pub blank_states : (s entry exit : List ℕ) (a : Result Machine Refusal) → Read s entry exit a → line_fault s 3 0 ≡ 0 → take 5 s ≡ replicate 5 32 → (a ≡ Err BadCount) × (exit ≡ entry)
unfolding read_answer read_list read_refusal refusal
blank_states s entry exit a read line spaces = (
  read.0 ∙ ap (λ (o : Option Refusal). by_refusal o (Ok (machine_of s)) (λ f. Err f)) refused,
  read.1 ∙ ap (λ (o : Option Refusal). by_refusal o (transitions_of s ++ drop (column_at s 10 * 3) entry) (λ f. entry)) refused,
)
  where
    none : column_at s 0 ≡ 0
    none = unfold column_at in ap column_number spaces ∙ blank_column 5

    fault : header_fault s ≡ 3
    fault =
        unfold header_fault counts_fault in
        or_none (line_fault s 3 0) (counts_fault (column_at s 0) (column_at s 5) (column_at s 10)) line
        ∙ ap (λ (n : ℕ). counts_fault n (column_at s 5) (column_at s 10)) none

    first : first_fault s ≡ 3
    first = header_first s (λ (z : header_fault s ≡ 0). let d = sym fault ∙ z in omega arith) ∙ fault

    refused : read_refusal s (length entry) ≡ Some BadCount
    refused =
        ap (λ (v : ℕ). cond (eqb v 0) (cond (leb (column_at s 10 * 3) (length entry)) None (Some (ShortList (column_at s 10 * 3)))) (Some (refusal v))) first

-- the line is not too long, and its columns hold numbers; one of them is blank
pub blank_letter : (m : Machine) (list line : List ℕ) (r : Answer) → r ≡ line_answer m list line → columns_fault line ≡ 0
    → (k : ℕ) → k < length line / 5 → letter_column line k ≡ replicate 5 32 → r ≡ record { answer = 2; refusal = 8 }
unfolding line_answer
blank_letter m list line r contract columns k h spaces = contract ∙ ap answer refused
  where
    answer : ℕ → Answer
    answer v = cond (eqb v 0) (record { answer = cond (accepted m list (word_of line)) 1 0; refusal = 0 }) (record { answer = 2; refusal = v })

    none : letter_at line k ≡ 0
    none = unfold letter_at in ap column_number spaces ∙ blank_column 5

    lacks : holds_letter m.letters line k ≡ false
    lacks = ap (good_letter m.letters) none

    fails : (all_below (length line / 5) (holds_letter m.letters line) ≡ true) ⊎ (all_below (length line / 5) (holds_letter m.letters line) ≡ false)
        → all_below (length line / 5) (holds_letter m.letters line) ≡ false
    fails (inl t) = absurd (not_both ((all_below_true (holds_letter m.letters line) (length line / 5)).0 t k h) lacks)
    fails (inr f) = f

    refused : line_refusal m.letters line ≡ 8
    refused =
        line_refused m.letters line
        ∙ (ap (λ (v : ℕ). cond (eqb v 0) (cond (all_below (length line / 5) (holds_letter m.letters line)) 0 8) v) columns
        ∙ ap (λ (b : Bool). cond b 0 8) (fails (true_or_false (all_below (length line / 5) (holds_letter m.letters line)))))

-- column c of the line at byte i
pub blank_not_broken : (s : List ℕ) (i c : ℕ) → take 5 (drop (i + c * 5) s) ≡ replicate 5 32 → column_fault s i c ≡ 0
unfolding column_fault column_at
blank_not_broken s i c spaces = ap (λ (v : ℕ). cond (not (eqb v no_number)) 0 2) (ap column_number spaces ∙ blank_column 5)

-- 3. Writing

-- the bytes that write_sheet says it wrote; a record in code has 64 marks
pub zeros_written : (m : Machine) (list before after : List ℕ) (r : Result ℕ Refusal) → Wrote m list before after r → length m.marks ≡ 64 → (n : ℕ) → r ≡ Ok n
    → has_blank (take n after) ≡ false
zeros_written m list before after r wrote marked n is = calls.zeros_written m list before after r wrote n is marked

-- 4. As before

pub good_before : (s entry exit : List ℕ) (a : Result Machine Refusal) → Read s entry exit a
    → (IsOk a × (has_blank s ≡ false)) ↔ ((m : Machine) × (list : List ℕ) × Table m list × (s ≡ sheet_of m list) × (m.transitions * 3 ≤ length entry))
good_before s entry exit a read = calls.same_iff_table s entry exit a read

pub read_as_before : (m : Machine) (list : List ℕ) → Table m list → (s : List ℕ) → s ≡ sheet_of m list → (entry exit : List ℕ) (a : Result Machine Refusal) → Read s entry exit a
    → m.transitions * 3 ≤ length entry
    → (a ≡ Ok m) × (exit ≡ take (m.transitions * 3) list ++ drop (m.transitions * 3) entry)
read_as_before m list t s is entry exit a read long = blanks_read m list t s (ap filled is ∙ written_filled m list t) entry exit a read long
