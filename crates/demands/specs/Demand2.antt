-- Demand 2, its three sentences as theorems about the calls. Each speaks of whatever answer and slices a call leaves that keeps its
-- contract.
--
-- 1. For tables to 64 states and words to 255 letters recognition says yes exactly when the published definition has an accepting run, and a
--    yes comes with one:
-- yes_iff_published   == the answer is yes, if and only if the word is in the published language
-- no_iff_published    == the answer is no, if and only if it is not
-- yes_written         == with a yes a written run of the word stands at the front of the slice: the start state and the entries of a published
--                        accepting run; it has no more entries than the bound, and the rest of the slice is as it was
-- no_untouched        == with a no the slice is as it was
--
-- 2. The run checker passes a run, whoever wrote it, exactly when the published definition accepts it:
-- passes_iff_written  == the answer is accepting, if and only if the run is a written run of the word
-- fails_iff_not       == the answer is not accepting, if and only if it is not
--
-- 3. Sheets round-trip, both ways (blank columns by document 02, change 8; more of them in specs/Blanks.antt):
-- table_round_trip    == a table written as a sheet and read again is the same table
-- sheet_round_trip    == a sheet read and written is the same bytes with its blank columns filled
-- sheet_same          == it is the same bytes where no column of it is blank
use Rattle.std.specs.Prelude.{ℕ, ◌*◌, ◌≤◌, ◌≡◌, refl, ◌↔◌, Bool, true, false, cond, List, ◌++◌, length, take, drop, Option, None, Some, Result, Ok}
use Rattle.std.proofs.Math.Path.{sym}
use Rattle.std.proofs.Common.{◌∙◌, ap, subst, arith, le-leb}
use Rattle.std.proofs.Math.Logic.Iff
use Rattle.basics.specs.Bools.{is_first, is_second, false_iff}
use Rattle.basics.specs.Search.Loops.{first}
use Rattle.fsbm.specs.Moves.{accepting}
use Rattle.fsbm.specs.Published.{fsbm_of, InLanguage}
use Rattle.fsbm.specs.Entries.{WrittenRun}
use Rattle.fsbm.specs.Accepted.{run_bound, accepted}
use Rattle.fsbm.specs.Answers.{longest_checked, longest_recognized, table_and_word, check_answer, checked_values}
use Rattle.fsbm.specs.Answers.Laws.{unless_done}
use Rattle.fsbm.specs.declared.answer.Refusal.{Refusal}
use Rattle.fsbm.specs.Machine.{well_formed}
use Rattle.fsbm.specs.declared.machine.Machine.{Machine}
use Rattle.fsbm.proofs.AnswerCases.{table_good}
use Rattle.language.specs.Agreement.{accepting_written, accepting_iff_written}
use Rattle.language.specs.Bound.{accepted_iff_published, accepted_not_published}
use Rattle.sheet_laws.specs.Filled.{filled, has_blank}
use Rattle.sheet_laws.proofs.Calls.{Wrote, Read, written_read, read_written, read_same}
use Rattle.recognize.specs.Recognition.{recognition, recognized_values, Recognition}

-- 1. Recognition, where nothing is refused: a table and a word that pass 16, 9 and 8, and a slice that is long enough

yes_not_no : (k : ℕ) → ◌≡◌ {A = Result (Option ℕ) Refusal} (Ok (Some k)) (Ok None) → ⊥
yes_not_no k e = let z = ap (λ (a : Result (Option ℕ) Refusal). (recognized_values a).accepted) e in omega arith

module _ (m : Machine) (list w before after : List ℕ) (r : Result (Option ℕ) Refusal) (contract : Recognition m list w before after r)
    (not_refused : table_and_word longest_recognized m list w ≡ 0) (long_enough : run_bound m (length w) ≤ length before) where
  obeys : well_formed m list ≡ true
  obeys = (table_good longest_recognized m list w not_refused).0

  abbrev by_accepted : Bool → Result (Option ℕ) Refusal
  by_accepted b = cond b (Ok (Some contract.entries)) (Ok None)

  answered : r ≡ by_accepted (accepted m list w)
  unfolding recognition
  answered =
      contract.answer
      ∙ (sym (unless_done _ _ not_refused)
      ∙ (sym (first _ (le-leb (run_bound m (length w)) (length before) long_enough) refl) ∙ spread (accepted m list w)))
    where
      spread : (b : Bool) → Ok (cond b (Some contract.entries) None) ≡ by_accepted b
      spread true = refl
      spread false = refl

  yes_accepted : (b : Bool) → r ≡ by_accepted b → (k : ℕ) → r ≡ Ok (Some k) → b ≡ true
  yes_accepted true e k y = refl
  yes_accepted false e k y = absurd (yes_not_no k (sym y ∙ e))

  pub yes_iff_published : ((k : ℕ) × (r ≡ Ok (Some k))) ↔ InLanguage (fsbm_of m list) w
  yes_iff_published = (
    λ y. (accepted_iff_published m list w obeys).0 (yes_accepted (accepted m list w) answered y.0 y.1),
    λ l. (contract.entries, answered ∙ ap by_accepted ((accepted_iff_published m list w obeys).1 l)),
  )

  pub no_iff_published : (r ≡ Ok None) ↔ (InLanguage (fsbm_of m list) w → ⊥)
  no_iff_published =
      Iff.trans (is_second (yes_not_no contract.entries) (accepted m list w) answered) (accepted_not_published m list w obeys)

  pub yes_written : (k : ℕ) → r ≡ Ok (Some k) → WrittenRun m list w (take k after) × (k ≤ run_bound m (length w)) × (after ≡ take k after ++ drop k before)
  yes_written k y =
      let e : (recognized_values r).entries ≡ k = ap (λ (a : Result (Option ℕ) Refusal). (recognized_values a).entries) y in (
        accepting_written m list w (take k after) (contract.accepts k y),
        subst (λ (n : ℕ). n ≤ run_bound m (length w)) e contract.bounded,
        subst (λ (n : ℕ). after ≡ take n after ++ drop n before) e contract.rest,
      )

  pub no_untouched : r ≡ Ok None → after ≡ before
  no_untouched n = contract.rest ∙ ap (λ (a : Result (Option ℕ) Refusal). take (recognized_values a).entries after ++ drop (recognized_values a).entries before) n

-- 2. The run checker, where nothing is refused: a table and a word that pass 16, 9 and 8; any list of numbers is taken for a run

accepting_or_not : ◌≡◌ {A = Result Bool Refusal} (Ok true) (Ok false) → ⊥
accepting_or_not e = let z = ap (λ (a : Result Bool Refusal). (checked_values a).accepting) e in omega arith

module _ (m : Machine) (list w run : List ℕ) (r : Result Bool Refusal) (contract : r ≡ check_answer m list w run) (not_refused : table_and_word longest_checked m list w ≡ 0) where
  checked_as : r ≡ cond (accepting m list w run) (Ok true) (Ok false)
  unfolding check_answer
  checked_as = contract ∙ (sym (unless_done _ _ not_refused) ∙ spread (accepting m list w run))
    where
      spread : (b : Bool) → ◌≡◌ {A = Result Bool Refusal} (Ok b) (cond b (Ok true) (Ok false))
      spread true = refl
      spread false = refl

  written_iff : (accepting m list w run ≡ true) ↔ WrittenRun m list w run
  written_iff = accepting_iff_written m list w (table_good longest_checked m list w not_refused).0 run

  pub passes_iff_written : (r ≡ Ok true) ↔ WrittenRun m list w run
  passes_iff_written = Iff.trans (is_first accepting_or_not (accepting m list w run) checked_as) written_iff

  pub fails_iff_not : (r ≡ Ok false) ↔ (WrittenRun m list w run → ⊥)
  fails_iff_not = Iff.trans (is_second accepting_or_not (accepting m list w run) checked_as) (false_iff (accepting m list w run) written_iff)

-- 3. Sheets

-- what write_sheet says it wrote, read with a list that is long enough; a record in code has 64 marks
pub table_round_trip : (m : Machine) (list before after : List ℕ) (r : Result ℕ Refusal) → Wrote m list before after r → length m.marks ≡ 64 → (n : ℕ) → r ≡ Ok n
    → (entry exit : List ℕ) (a : Result Machine Refusal) → Read (take n after) entry exit a → m.transitions * 3 ≤ length entry
    → (a ≡ Ok m) × (exit ≡ take (m.transitions * 3) list ++ drop (m.transitions * 3) entry)
table_round_trip m list before after r wrote marked n is entry exit a read long = written_read m list before after r wrote n is marked entry exit a read long

-- a sheet that read_sheet does not refuse, written to a slice that is long enough
module _ (s entry exit : List ℕ) (a : Result Machine Refusal) (read : Read s entry exit a) (m : Machine) (taken : a ≡ Ok m)
    (before after : List ℕ) (r : Result ℕ Refusal) (wrote : Wrote m exit before after r) (long : length s ≤ length before) where
  pub sheet_round_trip : (r ≡ Ok (length s)) × (after ≡ filled s ++ drop (length s) before)
  sheet_round_trip = read_written s entry exit a read m taken before after r wrote long

  pub sheet_same : has_blank s ≡ false → (r ≡ Ok (length s)) × (after ≡ s ++ drop (length s) before)
  sheet_same = read_same s entry exit a read m taken before after r wrote long
