-- The ways through join, over plain variables: its answer, the number and values of it, and the list afterwards.
--
-- refused_fault           == a refusal of the two tables
-- refused_room            == the list is too short
-- joins                   == success
use Prim.Native.Nat.{ℕ, ◌*◌, ◌≤◌, ◌<◌}
use mathlib.Core.Path.{◌≡◌, refl, ap, ◌∙◌}
use mathlib.Core.Bool.{true, cond}
use mathlib.Core.List.{List, ◌++◌}
use native.Mathlib.Omega.{arith}
use lib.ListN.{length, drop}
use lib.Dec.{eqb}
use borrow.Author.Tests.{eq-eqb, ne_eqb, le-leb, lt-leb}
use Rattle.std.specs.Prelude.{None, Some, Option, Result, Ok, Err}
use Rattle.basics.specs.Search.Loops.{first, second}
use Rattle.fsbm.specs.Answers.{refusal, no_machine, MachineValues, machine_values, by_refusal}
use Rattle.fsbm.specs.declared.machine.Machine.{Machine}
use Rattle.fsbm.specs.declared.answer.Refusal.{Refusal}
use Rattle.fsbm.specs.declared.answer.Refusal.TheVariants.{ShortList}
use Rattle.product.specs.Count.{joined_length}
use Rattle.basics.specs.Lists.{put}
use Rattle.basics.specs.Lists.Laws.{put_zero}
use Rattle.product.specs.Answers.{join_numbered}
use Rattle.product.specs.Product.{joined_count, joined_marks, joined_machine, joined_transitions, join_fault, join_refusal, join_answer, join_values, join_after}

module _ (m₁ : Machine) (l₁ : List ℕ) (m₂ : Machine) (l₂ list : List ℕ) where
  abbrev J : ℕ
  J = join_fault m₁ l₁ m₂ l₂

  abbrev C : ℕ
  C = joined_count m₁ l₁ m₂ l₂

  pub record Joins (r : Result Machine Refusal) (after : List ℕ) : Type 0 where
    pub answer : r ≡ join_answer m₁ l₁ m₂ l₂ (length list)
    pub values : machine_values r ≡ join_values m₁ l₁ m₂ l₂ (length list)
    pub written : after ≡ join_after m₁ l₁ m₂ l₂ list

  -- the list afterwards, by the number
  left : (v : MachineValues) (after kept : List ℕ) → v ≡ join_values m₁ l₁ m₂ l₂ (length list) → after ≡ cond (eqb v.refusal 0) (joined_transitions m₁ l₁ m₂ l₂ ++ drop (C * 3) list) list
      → after ≡ join_after m₁ l₁ m₂ l₂ list
  unfolding join_after
  left v after kept e h = h ∙ ap (λ (w : MachineValues). cond (eqb w.refusal 0) (joined_transitions m₁ l₁ m₂ l₂ ++ drop (C * 3) list) list) e

  pub refused_fault : (J ≡ 0 → ⊥) → Joins (Err (refusal J)) list
  unfolding join_refusal join_answer join_values
  refused_fault h =
      let no = ne_eqb J 0 h in
      let numbered = join_numbered m₁ l₁ m₂ l₂ in
      let values : machine_values (Err (refusal J)) ≡ join_values m₁ l₁ m₂ l₂ (length list) =
      (λ i. record { refusal = numbered.number h i; needed = numbered.needed h i; machine = no_machine }) ∙ second _ no refl in
      record {
        answer = ap (λ (o : Option Refusal). by_refusal o (Ok (joined_machine m₁ l₁ m₂ l₂)) (λ f. Err f)) (second _ no refl);
        values = values;
        written = left _ list list values (second _ (ap (λ (k : ℕ). eqb k 0) (numbered.number h) ∙ no) refl);
      }

  module _ (none : J ≡ 0) (count : ℕ) (at_count : count ≡ C) where
    fine : eqb J 0 ≡ true
    fine = eq-eqb J 0 none

    pub refused_room : length list < count * 3 → Joins (Err (ShortList (count * 3))) list
    unfolding join_refusal join_answer join_values
    refused_room h =
        let short = lt-leb (C * 3) (length list) (omega arith) in
        let values : machine_values (Err (ShortList (count * 3))) ≡ join_values m₁ l₁ m₂ l₂ (length list) =
        first _ fine (second _ short (ap (λ (z : ℕ). record { refusal = 15; needed = z * 3; machine = no_machine }) at_count)) in
        record {
          answer = ap (λ (o : Option Refusal). by_refusal o (Ok (joined_machine m₁ l₁ m₂ l₂)) (λ f. Err f)) (first _ fine (second _ short (ap (λ (z : ℕ). Some (ShortList (z * 3))) at_count)));
          values = values;
          written = left _ list list values refl;
        }

    pub long_enough : count * 3 ≤ length list → length (joined_transitions m₁ l₁ m₂ l₂) ≤ length list
    long_enough h = let size = joined_length m₁ l₁ m₂ l₂ none in omega arith

    pub joins : count * 3 ≤ length list → (marks : List ℕ) → marks ≡ joined_marks m₁ m₂ → (after : List ℕ) → after ≡ put 0 list (joined_transitions m₁ l₁ m₂ l₂)
        → Joins (Ok (record { states = m₁.states * m₂.states; letters = m₁.letters; transitions = count; marks = marks })) after
    unfolding join_refusal join_answer join_values joined_machine
    joins h marks at-marks after at_after =
        let size = joined_length m₁ l₁ m₂ l₂ none in
        let long = le-leb (C * 3) (length list) (omega arith) in
        let machine : record { states = m₁.states * m₂.states; letters = m₁.letters; transitions = count; marks = marks } ≡ joined_machine m₁ l₁ m₂ l₂ =
        λ i. record { states = m₁.states * m₂.states; letters = m₁.letters; transitions = at_count i; marks = at-marks i } in
        let values : machine_values (Ok (record { states = m₁.states * m₂.states; letters = m₁.letters; transitions = count; marks = marks })) ≡ join_values m₁ l₁ m₂ l₂ (length list) =
        first _ fine (first _ long (ap (λ (m : Machine). record { refusal = 0; needed = 0; machine = m }) machine)) in
        record {
          answer = ap (λ (m : Machine). Ok m) machine ∙ ap (λ (o : Option Refusal). by_refusal o (Ok (joined_machine m₁ l₁ m₂ l₂)) (λ f. Err f)) (first {r = None} _ fine (first _ long refl));
          values = values;
          written = left _ after list values (at_after ∙ put_zero list (joined_transitions m₁ l₁ m₂ l₂) ∙ ap (λ (k : ℕ). joined_transitions m₁ l₁ m₂ l₂ ++ drop k list) size);
        }
