-- What the answers of joining say.
--
-- join_numbered           == join_fault is 0, or the number of the refusal that stands for it
-- join_roomy              == the answer of join where the list has room for every product
-- joined_ok               == the list that join leaves where it does not refuse
use Rattle.std.specs.Prelude.{ℕ, ◌*◌, ◌≤◌, ◌≡◌, refl, cond, List, ◌++◌, length, drop, leb, eqb, Option, None, Some, Result, Ok, Err}
use Rattle.std.proofs.Common.{sym, ap, ◌∙◌, eq-eqb, ne_eqb, le-leb, arith}
use Rattle.std.proofs.Math.Decide.{ℕ_discrete}
use Rattle.basics.specs.Search.Loops.{first, second}
use Rattle.fsbm.specs.Machine.{max_states, max_transitions, well_formed}
use Rattle.fsbm.specs.Answers.{refusal, unless, MachineValues, machine_values, by_refusal}
use Rattle.fsbm.specs.Answers.Laws.{Numbered, numbered_none, numbered_by, numbered_16, numbered_10, numbered_11, numbered_12, numbered_13}
use Rattle.fsbm.specs.declared.machine.Machine.{Machine}
use Rattle.fsbm.specs.declared.answer.Refusal.{Refusal}
use Rattle.fsbm.specs.declared.answer.Refusal.TheVariants.{ShortList}
use Rattle.product.specs.Product.{plain, joined_count, joined_transitions, joined_machine, join_fault, join_refusal, join_answer, join_values, join_after}
use Rattle.product.specs.Tables.{joinable}

pub join_numbered : (m₁ : Machine) (l₁ : List ℕ) (m₂ : Machine) (l₂ : List ℕ) → Numbered (join_fault m₁ l₁ m₂ l₂)
unfolding join_fault
join_numbered m₁ l₁ m₂ l₂ =
    numbered_by (well_formed m₁ l₁) _ 16
    (numbered_by (well_formed m₂ l₂) _ 16
    (numbered_by (plain m₂ l₂) _ 10
    (numbered_by (eqb m₁.letters m₂.letters) _ 11
    (numbered_by (leb (m₁.states * m₂.states) max_states) _ 12 (numbered_by (leb (joined_count m₁ l₁ m₂ l₂) max_transitions) 0 13 numbered_none numbered_13) numbered_12)
    numbered_11)
    numbered_10)
    numbered_16)
    numbered_16

module _ (m₁ : Machine) (l₁ : List ℕ) (m₂ : Machine) (l₂ list : List ℕ) where
  abbrev J : ℕ
  J = join_fault m₁ l₁ m₂ l₂

  abbrev M : Machine
  M = joined_machine m₁ l₁ m₂ l₂

  abbrev C : ℕ
  C = joined_count m₁ l₁ m₂ l₂ * 3

  -- a list of 12,000 elements has room for 4,000 transitions
  pub join_roomy : 12000 ≤ length list → join_answer m₁ l₁ m₂ l₂ (length list) ≡ unless J (Ok M)
  unfolding join_refusal join_answer
  join_roomy room = at (ℕ_discrete J 0)
    where
      chosen : Option Refusal → Result Machine Refusal
      chosen o = by_refusal o (Ok M) (λ f. Err f)

      at : Dec (J ≡ 0) → chosen (cond (eqb J 0) (cond (leb C (length list)) None (Some (ShortList C))) (Some (refusal J))) ≡ unless J (Ok M)
      at (yes e) =
          let few = (joinable m₁ l₁ m₂ l₂ e).few_transitions in
          sym (ap chosen (first {r = None} _ (eq-eqb J 0 e) (first _ (le-leb C (length list) (omega arith)) refl))) ∙ first _ (eq-eqb J 0 e) refl
      at (no d) = sym (ap chosen (second _ (ne_eqb J 0 d) refl)) ∙ second _ (ne_eqb J 0 d) refl

  pub joined_ok : {m : Machine} → machine_values (Ok m) ≡ join_values m₁ l₁ m₂ l₂ (length list) → join_after m₁ l₁ m₂ l₂ list ≡ joined_transitions m₁ l₁ m₂ l₂ ++ drop C list
  unfolding join_after
  joined_ok e = ap (λ (v : MachineValues). cond (eqb v.refusal 0) (joined_transitions m₁ l₁ m₂ l₂ ++ drop C list) list) (sym e)
