-- The fault of a sheet as a refusal.
--
-- fault_numbered == it is 0, or the number of the refusal that stands for it
-- read_agrees    == the number and values of what read_sheet answers are those that the rules give
use Rattle.std.specs.Prelude.{ℕ, zero, suc, ◌*◌, ◌≡◌, List, Bool, true, false, cond, leb, eqb, Option, None, Some, Ok, Err}
use Rattle.std.proofs.Common.{sym, ap, ◌∙◌, eq-eqb, ne_eqb}
use Rattle.std.proofs.Math.Decide.{ℕ_discrete}
use Rattle.basics.specs.Search.Loops.{first, second}
use Rattle.std.proofs.Math.Path.{refl}
use Rattle.fsbm.specs.Answers.{refusal, needed_of, by_refusal, no_machine, MachineValues, machine_values}
use Rattle.fsbm.specs.Answers.Laws.{Numbered, numbered_none, numbered_by, numbered_2, numbered_1, numbered_3, numbered_4, numbered_5, numbered_6, numbered_7}
use Rattle.fsbm.specs.declared.answer.Refusal.{Refusal}
use Rattle.fsbm.specs.declared.answer.Refusal.TheVariants.{ShortList}
use Rattle.fsbm.specs.declared.machine.Transition.{Transition}
use Rattle.sheet.specs.Series.{or_else, first_of}
use Rattle.sheet.specs.Reading.{column_at, column_fault, line_fault, counts_fault, header_fault, mark_fault, state_fault, order_fault, transition_fault, rest_fault, first_fault, machine_of, read_refusal, read_answer, read_values}

pub numbered_or : (a b : ℕ) → Numbered a → Numbered b → Numbered (or_else a b)
unfolding or_else
numbered_or zero b h g = g
numbered_or (suc a) b h g = h

pub numbered_first : (n : ℕ) (f : ℕ → ℕ) → ((i : ℕ) → Numbered (f i)) → Numbered (first_of n f)
unfolding first_of
numbered_first zero f each = numbered_none
numbered_first (suc n) f each = numbered_or (first_of n f) (f n) (numbered_first n f each) (each n)

pub line_numbered : (s : List ℕ) (n i : ℕ) → Numbered (line_fault s n i)
unfolding line_fault column_fault
line_numbered s n i =
    numbered_or _ _ (numbered_by _ 0 1 numbered_none numbered_1)
    (numbered_or _ _ (numbered_first n (column_fault s i) (λ c. numbered_by _ 0 2 numbered_none numbered_2)) (numbered_by _ 0 2 numbered_none numbered_2))

header_numbered : (s : List ℕ) → Numbered (header_fault s)
unfolding header_fault counts_fault
header_numbered s = numbered_or _ _ (line_numbered s 3 0) (numbered_by _ 0 3 numbered_none numbered_3)

state_numbered : (s : List ℕ) (q : ℕ) → Numbered (state_fault s q)
unfolding state_fault mark_fault
state_numbered s q = numbered_or _ _ (line_numbered s 2 _) (numbered_by _ 0 4 numbered_none numbered_4)

order_numbered : (states letters : ℕ) (first : Bool) (before t : Transition) → Numbered (order_fault states letters first before t)
unfolding order_fault
order_numbered states letters first before t = numbered_or _ _ (numbered_by _ 0 5 numbered_none numbered_5) (numbered_by _ 0 6 numbered_none numbered_6)

transition_numbered : (s : List ℕ) (states letters k : ℕ) → Numbered (transition_fault s states letters k)
unfolding transition_fault
transition_numbered s states letters k = numbered_or _ _ (line_numbered s 3 _) (order_numbered states letters _ _ _)

rest_numbered : (s : List ℕ) (states transitions : ℕ) → Numbered (rest_fault s states transitions)
unfolding rest_fault
rest_numbered s states transitions =
    numbered_or _ _ (numbered_first states (state_fault s) (state_numbered s))
    (numbered_or _ _ (numbered_first transitions (transition_fault s states (column_at s 5)) (transition_numbered s states (column_at s 5))) (numbered_by _ 0 7 numbered_none numbered_7))

pub fault_numbered : (s : List ℕ) → Numbered (first_fault s)
unfolding first_fault
fault_numbered s = numbered_by (eqb (header_fault s) 0) _ (header_fault s) (rest_numbered s (column_at s 0) (column_at s 10)) (header_numbered s)

pub read_agrees : (s : List ℕ) (len : ℕ) → machine_values (read_answer s len) ≡ read_values s len
unfolding read_answer read_refusal read_values
read_agrees s len = at (ℕ_discrete (first_fault s) 0)
  where
    chosen : Option Refusal → MachineValues
    chosen o = machine_values (by_refusal o (Ok (machine_of s)) (λ f. Err f))

    fits : (n : ℕ) (b : Bool) → chosen (cond b None (Some (ShortList n))) ≡ cond b (record { refusal = 0; needed = 0; machine = machine_of s }) (record { refusal = 15; needed = n; machine = no_machine })
    fits n true = refl
    fits n false = refl

    at : Dec (first_fault s ≡ 0) → machine_values (read_answer s len) ≡ read_values s len
    at (yes e) = ap chosen (sym (first _ (eq-eqb _ _ e) refl)) ∙ (fits (column_at s 10 * 3) (leb (column_at s 10 * 3) len) ∙ first _ (eq-eqb _ _ e) refl)
    at (no h) =
        let f = fault_numbered s in
        ap chosen (sym (second {r = Some (refusal (first_fault s))} _ (ne_eqb _ _ h) refl))
        ∙ (ap (λ (x : ℕ). record { refusal = x; needed = needed_of (refusal (first_fault s)); machine = no_machine }) (f.number h)
        ∙ (ap (λ (x : ℕ). record { refusal = first_fault s; needed = x; machine = no_machine }) (f.needed h) ∙ second _ (ne_eqb _ _ h) refl))
