-- What read_sheet reads without refusal obeys the rules of a table.
--
-- answered_ok == an answer that is none of a refusal
-- taken       == a sheet that is read without refusal has no fault, its machine is what the sheet says, and the list is long enough
-- read_obeys  == the machine of the answer and the list afterwards are well formed
use Rattle.std.specs.Prelude.{ℕ, ◌*◌, ◌≤◌, ◌≡◌, refl, ◌⊎◌, List, ◌++◌, Option, None, Some, Result, Ok, Err, Bool, true, false, cond, length, leb, eqb}
use Rattle.std.proofs.Math.Path.{ap}
use Rattle.std.proofs.Common.{sym, ◌∙◌, inl, inr}
use Rattle.std.proofs.Math.ListN.{drop}
use Rattle.std.proofs.lemmas.Option.{none-some}
use borrow.Author.Tests.{leb-true, eqb-true}
use Rattle.basics.specs.Search.Laws.{true_or_false}
use Rattle.fsbm.specs.Machine.{well_formed}
use Rattle.fsbm.specs.Answers.{refusal, by_refusal}
use Rattle.fsbm.specs.Answers.Laws.{not_both}
use Rattle.fsbm.specs.declared.machine.Machine.{Machine}
use Rattle.fsbm.specs.declared.answer.Refusal.{Refusal}
use Rattle.fsbm.specs.declared.answer.Refusal.TheVariants.{ShortList}
use Rattle.sheet.specs.Reading.{column_at, first_fault, machine_of, transitions_of, read_refusal, read_answer, read_list}
use Rattle.sheet_laws.proofs.RoundTrip.{sound_table}

pub answered_ok : {A : Type 0} (o : Option Refusal) (x y : A) → by_refusal {A = Result A Refusal} o (Ok x) (λ f. Err f) ≡ Ok y → (o ≡ None) × (x ≡ y)
answered_ok None x y e = (refl, cc)
answered_ok (Some f) x y e = absurd (not_both e refl)

pub record Taken (s : List ℕ) (len : ℕ) (m : Machine) : Type 0 where
  pub none : read_refusal s len ≡ None
  pub fault : first_fault s ≡ 0
  pub long : column_at s 10 * 3 ≤ len
  pub machine : m ≡ machine_of s

pub taken : (s : List ℕ) (len : ℕ) (m : Machine) → read_answer s len ≡ Ok m → Taken s len m
unfolding read_answer read_refusal
taken s len m good = at (true_or_false (eqb (first_fault s) 0)) (true_or_false (leb (column_at s 10 * 3) len))
  where
    is : (read_refusal s len ≡ None) × (machine_of s ≡ m)
    is = answered_ok (read_refusal s len) (machine_of s) m good

    of : Bool → Bool → Option Refusal
    of a b = cond a (cond b None (Some (ShortList (column_at s 10 * 3)))) (Some (refusal (first_fault s)))

    at : (eqb (first_fault s) 0 ≡ true) ⊎ (eqb (first_fault s) 0 ≡ false) → (leb (column_at s 10 * 3) len ≡ true) ⊎ (leb (column_at s 10 * 3) len ≡ false) → Taken s len m
    at (inl t) (inl l) = record { none = is.0; fault = eqb-true (first_fault s) 0 t; long = leb-true _ _ l; machine = sym is.1 }
    at (inl t) (inr l) = absurd (none-some _ (sym is.0 ∙ λ j. of (t j) (l j)))
    at (inr f) l = absurd (none-some _ (sym is.0 ∙ ap (λ (b : Bool). of b (leb (column_at s 10 * 3) len)) f))

pub read_obeys : (s entry : List ℕ) (m : Machine) → read_answer s (length entry) ≡ Ok m → well_formed m (read_list s entry) ≡ true
unfolding read_list
read_obeys s entry m good =
    let t = taken s (length entry) m good in
    ap (λ (x : Machine). well_formed x (read_list s entry)) t.machine
    ∙ (ap (λ (o : Option Refusal). well_formed (machine_of s) (by_refusal o (transitions_of s ++ drop (column_at s 10 * 3) entry) (λ f. entry))) t.none
    ∙ (sound_table s t.fault (drop (column_at s 10 * 3) entry)).obeys)
