-- The ways through recognize, over plain variables.
--
-- needed_fits   == the length needed is a small number
-- refused_table, refused_slice, says_no_lem, says_yes == what each answer comes with
-- fewest_front  == a run with the fewest entries is within the bound
use Prim.Native.Nat.{ℕ, ◌+◌, ◌*◌, ◌≤◌, ◌<◌}
use mathlib.Core.Path.{◌≡◌, refl, sym, ◌∙◌, ap}
use mathlib.Core.Bool.{Bool, true, false, cond}
use mathlib.Core.List.{List, ◌++◌}
use native.Mathlib.Omega.{arith}
use native.Mathlib.Nat.{mul-le-mul}
use lib.ListN.{length, take, drop}
use lib.Dec.{leb, eqb}
use borrow.Author.Tests.{le-leb, lt-leb, eqb-false}
use Rattle.basics.specs.Search.Loops.{first, second}
use Rattle.fsbm.specs.Machine.{well_formed}
use Rattle.fsbm.specs.Moves.{accepting}
use Rattle.fsbm.specs.Accepted.{run_bound, accepted}
use Rattle.fsbm.specs.Accepted.Laws.{accepted_true}
use Rattle.runs.specs.Walk.{Written}
use Rattle.fsbm.specs.Answers.{longest_recognized, table_and_word, needed_of, refusal, passed}
use Rattle.fsbm.specs.declared.machine.Machine.{Machine}
use Rattle.fsbm.specs.Rules.{rules}
use Rattle.recognize.specs.Recognition.{recognition, recognized_values, recognition_values, AtFront, Recognition}
use Rattle.std.specs.Prelude.{Option, None, Some, Result, Ok, Err}
use Rattle.fsbm.specs.declared.answer.Refusal.{Refusal}
use Rattle.fsbm.specs.declared.answer.Refusal.TheVariants.{ShortRun}
use Rattle.fsbm.specs.Answers.Laws.{passed_err, unless_refused, unless_done, table_numbered, not_both}

pub needed_fits : (m : Machine) (list w : List ℕ) → well_formed m list ≡ true → length w ≤ 255 → 3 * m.states * (length w + 1) ≤ 192 * 256
needed_fits m list w h l =
    let a : 3 * m.states ≤ 192 = omega (arith, (rules m list h).states_fit) in
    let b : length w + 1 ≤ 256 = omega arith in
    mul-le-mul a b

module _ (m : Machine) (list w before : List ℕ) where
  abbrev n : ℕ
  n = table_and_word longest_recognized m list w

  -- an answer that is right has the right number and values
  says : (r : Result (Option ℕ) Refusal) (entries : ℕ) → r ≡ recognition m list w (length before) entries → recognized_values r ≡ recognition_values m list w (length before) entries
  unfolding recognition recognition_values
  says r entries e = ap recognized_values e ∙ by (eqb n 0) (leb (run_bound m (length w)) (length before)) (accepted m list w) refl
    where
      by : (good long accepts : Bool) → eqb n 0 ≡ good
          → recognized_values (cond good (cond long (Ok (cond accepts (Some entries) None)) (Err (ShortRun (run_bound m (length w))))) (Err (refusal n)))
          ≡ cond good
          (cond long (record { refusal = 0; needed = 0; accepted = cond accepts 1 0; entries = cond accepts entries 0 }) (record { refusal = 17; needed = run_bound m (length w); accepted = 0; entries = 0 }))
          (record { refusal = n; needed = 0; accepted = 0; entries = 0 })
      by true true true is = refl
      by true true false is = refl
      by true false accepts is = refl
      by false long accepts is =
          let h = table_numbered longest_recognized m list w in
          let some : n ≡ 0 → ⊥ = eqb-false n 0 is in
          ap (λ (k : ℕ). record { refusal = k; needed = needed_of (refusal n); accepted = 0; entries = 0 }) (h.number some)
          ∙ ap (λ (k : ℕ). record { refusal = n; needed = k; accepted = 0; entries = 0 }) (h.needed some)

  -- an answer that writes nothing leaves the slice as it was
  unwritten : (r : Result (Option ℕ) Refusal) (entries : ℕ) → r ≡ recognition m list w (length before) entries → (recognized_values r).entries ≡ 0 → ((k : ℕ) → r ≡ Ok (Some k) → ⊥)
      → Recognition m list w before before r
  unwritten r entries e z none =
      record {
        entries = entries;
        answer = e;
        values = says r entries e;
        fits = omega arith;
        bounded = omega arith;
        rest = sym (ap (λ (k : ℕ). take k before ++ drop k before) z);
        accepts = λ k y. absurd (none k y);
      }

  pub refused_table : (f : Refusal) → Err f ≡ passed n → Recognition m list w before before (Err f)
  unfolding recognition
  refused_table f e = let h = passed_err n f e in unwritten (Err f) 0 (ap (λ (z : Refusal). Err z) h.1 ∙ unless_refused n _ h.0) refl (λ k y. not_both y refl)

  module _ (good : n ≡ 0) where
    pub refused_slice : (needed : ℕ) → needed ≡ run_bound m (length w) → length before < needed → Recognition m list w before before (Err (ShortRun needed))
    unfolding recognition
    refused_slice needed at-needed short =
        unwritten (Err (ShortRun needed)) 0
        (second _ (lt-leb (run_bound m (length w)) (length before) (omega arith)) (ap (λ (z : ℕ). Err (ShortRun z)) at-needed) ∙ unless_done n _ good)
        refl
        (λ k y. not_both y refl)

    module _ (long : run_bound m (length w) ≤ length before) where
      decided_as : (b : Bool) (entries : ℕ) → b ≡ accepted m list w → Ok (cond b (Some entries) None) ≡ recognition m list w (length before) entries
      unfolding recognition
      decided_as b entries e = first _ (le-leb _ _ long) (ap (λ (z : Bool). Ok (cond z (Some entries) None)) e) ∙ unless_done n _ good

      pub says_no_lem : false ≡ accepted m list w → Recognition m list w before before (Ok None)
      says_no_lem e = unwritten (Ok None) 0 (decided_as false 0 e) refl (λ k y. no_not y)
        where
          no_not : {k : ℕ} → ◌≡◌ {A = Result (Option ℕ) Refusal} (Ok None) (Ok (Some k)) → ⊥
          no_not y = let z : ◌≡◌ {A = ℕ} 0 1 = ap (λ (r : Result (Option ℕ) Refusal). (recognized_values r).accepted) y in omega arith

      pub says_yes : true ≡ accepted m list w → (after : List ℕ) (k : ℕ) → k ≤ length before → k ≤ run_bound m (length w) → after ≡ take k after ++ drop k before → accepting m list w (take k after) ≡ true
          → Recognition m list w before after (Ok (Some k))
      says_yes e after k fits bounded rest acc =
          record { entries = k; answer = decided_as true k e; values = says (Ok (Some k)) k (decided_as true k e); fits = fits; bounded = bounded; rest = rest; accepts = λ j y. same_run j y }
        where
          same_run : (j : ℕ) → ◌≡◌ {A = Result (Option ℕ) Refusal} (Ok (Some k)) (Ok (Some j)) → accepting m list w (take j after) ≡ true
          same_run j y = let d : j ≡ k = ap (λ (r : Result (Option ℕ) Refusal). (recognized_values r).entries) (sym y) in rw d acc

-- a run with the fewest entries is within the bound
pub fewest_front : (m : Machine) (list w run run' : List ℕ) (r : ℕ) → accepted m list w ≡ true → Written m list w r run run' → AtFront m list w r run run'
fewest_front m list w run run' r t h =
    let (other, short, below, a) = (accepted_true m list w).0 t in
    let few = h.fewest other a in
    record { fits = h.fits; bounded = omega arith; front = h.front; accepts = h.accepts }
