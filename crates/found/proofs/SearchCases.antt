-- The ways through the search, over plain variables.
--
-- join_refuses, join_gives == what `join` leaves where it refuses, and where it does not
-- joined_good           == the product obeys the rules of a table
-- fault, none, short_word, short_first, short_second, written == what each answer comes with
use Prim.Native.Nat.{ℕ, ◌+◌, ◌*◌, ◌≤◌, ◌<◌}
use mathlib.Core.Path.{◌≡◌, refl, sym, ap, ◌∙◌, subst, subst₂}
use mathlib.Core.Bool.{true}
use mathlib.Core.List.{List}
use native.Mathlib.Omega.{arith}
use lib.ListN.{length, take, drop}
use Rattle.fsbm.specs.Machine.{well_formed}
use Rattle.fsbm.specs.Moves.{accepting}
use Rattle.fsbm.specs.Accepted.{run_bound}
use Rattle.fsbm.specs.Answers.{refusal, machine_values}
use Rattle.fsbm.specs.declared.machine.Machine.{Machine}
use Rattle.fsbm.specs.declared.answer.Refusal.{Refusal}
use Rattle.product.specs.Product.{joined_count, joined_machine, join_fault, join_answer, join_values, join_after}
use Rattle.product.specs.WellFormed.{joined_well_formed}
use Rattle.fsbm.specs.Answers.Laws.{unless_ok, unless_err}
use Rattle.product.specs.Answers.{join_roomy, joined_ok}
use Rattle.pieces.specs.Bound.{word_bound}
use Rattle.std.specs.Prelude.{None, Some, Ok, Err}
use Rattle.fsbm.specs.declared.answer.Refusal.TheVariants.{ShortRun, ShortWord}
use Rattle.common.specs.Common.{least_common, common_answer, Front, CommonWord}
use Rattle.common.proofs.Contract.{contract_unchanged, contract_found}
use Rattle.common.proofs.CommonLaws.{answer_fault, answer_none, answer_word, answer_first, answer_second}
use Rattle.found.specs.Joined.{joined_room, Joined}

-- Joining into a list that has room for every product

module _ (m₁ : Machine) (l₁ : List ℕ) (m₂ : Machine) (l₂ : List ℕ) (list : List ℕ) (room : joined_room ≤ length list) where
  pub join_refuses : {f : Refusal} → Err f ≡ join_answer m₁ l₁ m₂ l₂ (length list) → (f ≡ refusal (join_fault m₁ l₁ m₂ l₂)) × (join_fault m₁ l₁ m₂ l₂ ≡ 0 → ⊥)
  join_refuses e = let n = unless_err (join_fault m₁ l₁ m₂ l₂) (joined_machine m₁ l₁ m₂ l₂) (e ∙ join_roomy m₁ l₁ m₂ l₂ list room) in (n.1, n.0)

  pub join_gives : {m : Machine} {after : List ℕ} → Ok m ≡ join_answer m₁ l₁ m₂ l₂ (length list) → machine_values (Ok m) ≡ join_values m₁ l₁ m₂ l₂ (length list)
      → after ≡ join_after m₁ l₁ m₂ l₂ list → Joined m₁ l₁ m₂ l₂ m after
  join_gives e v left =
      let n = unless_ok (join_fault m₁ l₁ m₂ l₂) (joined_machine m₁ l₁ m₂ l₂) (e ∙ join_roomy m₁ l₁ m₂ l₂ list room) in
      record {
        fine = n.0;
        machine = n.1;
        rest = drop (joined_count m₁ l₁ m₂ l₂ * 3) list;
        transitions = left ∙ joined_ok m₁ l₁ m₂ l₂ list v;
      }

pub joined_good : {m₁ : Machine} {l₁ : List ℕ} {m₂ : Machine} {l₂ : List ℕ} {m : Machine} {list : List ℕ} → Joined m₁ l₁ m₂ l₂ m list → well_formed m list ≡ true
joined_good {m₁} {l₁} {m₂} {l₂} j =
    subst₂ (λ (x : Machine) (y : List ℕ). well_formed x y ≡ true) (sym j.machine) (sym j.transitions) (joined_well_formed m₁ l₁ m₂ l₂ j.fine j.rest)

-- The answers

module _ (m₁ : Machine) (l₁ : List ℕ) (m₂ : Machine) (l₂ : List ℕ) (word first_run second_run : List ℕ) where
  refuses : (f : Refusal) → Err f ≡ common_answer m₁ l₁ m₂ l₂ (length word) (length first_run) (length second_run) 0
      → CommonWord m₁ l₁ m₂ l₂ word word first_run first_run second_run second_run (Err f)
  refuses f e = contract_unchanged m₁ l₁ m₂ l₂ word first_run second_run (Err f) 0 refl e

  pub fault : (f : Refusal) → f ≡ refusal (join_fault m₁ l₁ m₂ l₂) → (join_fault m₁ l₁ m₂ l₂ ≡ 0 → ⊥)
      → CommonWord m₁ l₁ m₂ l₂ word word first_run first_run second_run second_run (Err f)
  fault f is some = refuses f (ap Err is ∙ answer_fault m₁ l₁ m₂ l₂ (length word) (length first_run) (length second_run) 0 some)

  module _ (fine : join_fault m₁ l₁ m₂ l₂ ≡ 0) where
    pub none : word_bound < least_common m₁ l₁ m₂ l₂ → CommonWord m₁ l₁ m₂ l₂ word word first_run first_run second_run second_run (Ok None)
    none past =
        contract_unchanged m₁ l₁ m₂ l₂ word first_run second_run (Ok None) 0 refl
        (answer_none m₁ l₁ m₂ l₂ (length word) (length first_run) (length second_run) 0 fine past)

    module _ (n : ℕ) (is : n ≡ least_common m₁ l₁ m₂ l₂) (within : least_common m₁ l₁ m₂ l₂ ≤ word_bound) where
      pub short_word : length word < n → CommonWord m₁ l₁ m₂ l₂ word word first_run first_run second_run second_run (Err (ShortWord n))
      short_word short =
          refuses (ShortWord n)
          (ap (λ (k : ℕ). Err (ShortWord k)) is ∙ answer_word m₁ l₁ m₂ l₂ (length word) (length first_run) (length second_run) 0 fine within (omega arith))

      module _ (fits : n ≤ length word) (needed : ℕ) (bound : needed ≡ run_bound m₁ n) where
        at_least : needed ≡ run_bound m₁ (least_common m₁ l₁ m₂ l₂)
        at_least = bound ∙ ap (run_bound m₁) is

        pub short_first : length first_run < needed → CommonWord m₁ l₁ m₂ l₂ word word first_run first_run second_run second_run (Err (ShortRun needed))
        short_first short =
            let e = at_least in
            refuses (ShortRun needed)
            (ap (λ (k : ℕ). Err (ShortRun k)) e
            ∙ answer_first m₁ l₁ m₂ l₂ (length word) (length first_run) (length second_run) 0 fine within (omega arith) (omega arith))

        module _ (fits-first : needed ≤ length first_run) where
          pub short_second : length second_run < n + 1 → CommonWord m₁ l₁ m₂ l₂ word word first_run first_run second_run second_run (Err (ShortRun (n + 1)))
          short_second short =
              let e = at_least in
              refuses (ShortRun (n + 1))
              (ap (λ (k : ℕ). Err (ShortRun (k + 1))) is
              ∙ answer_second m₁ l₁ m₂ l₂ (length word) (length first_run) (length second_run) 0 fine within (omega arith) (omega arith) (omega arith))

          pub written : n + 1 ≤ length second_run → (entries : ℕ) → entries ≤ needed → (word' first-run' second-run' : List ℕ)
              → Front n word word' → Front entries first_run first-run' → Front (n + 1) second_run second-run'
              → accepting m₁ l₁ (take n word') (take entries first-run') ≡ true → accepting m₂ l₂ (take n word') (take (n + 1) second-run') ≡ true
              → CommonWord m₁ l₁ m₂ l₂ word word' first_run first-run' second_run second-run' (Ok (Some (record { letters = n; first = entries; second = n + 1 })))
          written fits-second entries few word' first-run' second-run' w f s accepts₁ accepts₂ =
              let b = at_least in
              subst (λ (k : ℕ). CommonWord m₁ l₁ m₂ l₂ word word' first_run first-run' second_run second-run' (Ok (Some (record { letters = k; first = entries; second = k + 1 })))) (sym is)
              (contract_found m₁ l₁ m₂ l₂ word first_run second_run word' first-run' second-run' entries fine within (omega arith) (omega arith)
              (subst (λ (k : ℕ). Front k word word') is w)
              f
              (subst (λ (k : ℕ). Front (k + 1) second_run second-run') is s)
              (subst (λ (k : ℕ). accepting m₁ l₁ (take k word') (take entries first-run') ≡ true) is accepts₁)
              (subst (λ (k : ℕ). accepting m₂ l₂ (take k word') (take (k + 1) second-run') ≡ true) is accepts₂))
