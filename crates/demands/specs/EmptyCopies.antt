-- Document 02, change 3: empty copies leave the list, as theorems about list_copies. Each speaks of whatever answer and slice the call leaves that
-- keeps its contract.
--
-- 1. Every input is in one of four cases; the refusals come in this order, and each leaves the slice as it was:
-- first_refused, first_refused_number == the table or the word fails a test: refused by the first of 16, 9, 8, with that number
-- run_refused      == they pass, the run does not accept: 14
-- slice_refused    == it accepts, the slice is shorter than two numbers for each copy with letters: 20, with that length
-- copies_listed    == the slice is long enough: the copies with letters are listed, in order; what stands past them is as it was
--
-- 2. Copies of no letters are dropped from the list:
-- listed_iff       == two numbers of the list in the slice are a copy, if and only if the run has this copy and it has letters
-- no_empty         == no length in the list is 0
--
-- 3. The slice needed shrinks with it:
-- need_shrinks     == the length that a refusal by 20 gives is less than two numbers for every copy, if and only if some copy is empty
-- word_enough      == a slice as long as the word is always long enough
--
-- 4. The total is taken from the last copy backwards, and comes to the same:
-- total_from_last  == it is the total of the copies listed, from the last to the first
-- total_as_before  == it is the total of all copies of the run, the empty ones with them, from the first to the last
-- plain_and_twice  == letters read in normal mode and times_read (2) times the total make the word's length
--
-- 5. A run with empty copies alone:
-- empty_alone      == if all copies of an accepting run are empty, or it has none, the answer is 0 copies and total 0, whatever the slice, which is as
--                     it was
-- empty_alone_iff  == and only then
--
-- Runs and recognition keep empty copies: the definitions of moves, runs and acceptance are those of document 01.
use Rattle.std.specs.Prelude.{Result, Ok, Err, ℕ, ◌+◌, ◌*◌, ◌≤◌, ◌<◌, ◌≡◌, refl, ◌↔◌, ◌⊎◌, true, false, get_or, leb, eqb}
use Rattle.std.proofs.Common.{sym, ◌∙◌, subst, inl, inr, arith, leb-true, leb-false, eqb-true}
use Rattle.std.proofs.Math.Path.{ap}
use mathlib.Core.List.{List, [], ◌++◌, Memᴰ}
use Rattle.std.proofs.Math.ListN.{length, drop}
use Rattle.std.proofs.lemmas.Bool.{eqb-false}
use Rattle.basics.specs.Search.{all_in, any_in}
use Rattle.basics.specs.Search.Laws.{true_or_false}
use Rattle.fsbm.specs.Moves.{accepting}
use Rattle.fsbm.specs.Answers.{table_and_word, refusal}
use Rattle.fsbm.specs.Answers.Laws.{not_both, table_numbered}
use Rattle.fsbm.specs.declared.answer.Refusal.{Refusal}
use Rattle.fsbm.specs.declared.answer.Refusal.TheVariants.{NotAccepting, ShortCopies}
use Rattle.fsbm.specs.declared.machine.Machine.{Machine}
use Rattle.fsbm.proofs.AnswerCases.{table_good}
use Rattle.copies.specs.Copies.{Copy, copied, is_empty, copies_of, copy_list, pairs, total_back, total_forward, longest_copied, copies_need, copies_answer, copies_after, copied_values}
use Rattle.copies.specs.Letters.{times_read, plain_letters}
use Rattle.copies.specs.Copies.Laws.{Leaves, InFront, written_iff, kept_iff, kept_fewer, kept_none, none_kept, total_same, plain_and_copies, need_fits, refused_first, refused_run, refused_room, listed_all}
use Rattle.copies.specs.declared.Copied.{Copied}

module _ (m : Machine) (list w run entry exit : List ℕ) (r : Result Copied Refusal)
    (contract : (r ≡ copies_answer m list w run (length entry)) × (exit ≡ copies_after m list w run entry)) where
  by : {x : Result Copied Refusal} {l : List ℕ} → Leaves m list w run entry x l → (r ≡ x) × (exit ≡ l)
  by (a, s) = (contract.0 ∙ sym a, contract.1 ∙ sym s)

  -- 1. The four cases

  pub first_refused : (table_and_word longest_copied m list w ≡ 0 → ⊥) → (r ≡ Err (refusal (table_and_word longest_copied m list w))) × (exit ≡ entry)
  first_refused h = by (refused_first m list w run entry h)

  pub first_refused_number : (table_and_word longest_copied m list w ≡ 0 → ⊥) → ((copied_values r).refusal ≡ table_and_word longest_copied m list w) × ((copied_values r).needed ≡ 0)
  first_refused_number h =
      let e = (first_refused h).0 in
      let n = table_numbered longest_copied m list w in
      (ap (λ (a : Result Copied Refusal). (copied_values a).refusal) e ∙ n.number h, ap (λ (a : Result Copied Refusal). (copied_values a).needed) e ∙ n.needed h)

  module _ (passes : table_and_word longest_copied m list w ≡ 0) where
    pub run_refused : accepting m list w run ≡ false → (r ≡ Err NotAccepting) × (exit ≡ entry)
    run_refused h = by (refused_run m list w run entry passes h)

    module _ (accepts : accepting m list w run ≡ true) where
      pub slice_refused : length entry < length (copy_list m list w run) * 2
          → (r ≡ Err (ShortCopies (length (copy_list m list w run) * 2))) × (exit ≡ entry)
      slice_refused h = by (refused_room m list w run entry passes accepts h)

      pub copies_listed : length (copy_list m list w run) * 2 ≤ length entry
          → (r ≡ Ok (copied (copy_list m list w run)))
          × (exit ≡ pairs (copy_list m list w run) ++ drop (length (copy_list m list w run) * 2) entry)
      copies_listed h = by (listed_all m list w run entry passes accepts h)

      -- 3. The length needed

      refused_length : (needed : ℕ) → r ≡ Err (ShortCopies needed)
          → (leb (length (copy_list m list w run) * 2) (length entry) ≡ true) ⊎ (leb (length (copy_list m list w run) * 2) (length entry) ≡ false) → needed ≡ length (copy_list m list w run) * 2
      refused_length needed e (inl t) =
          let listed = (copies_listed (leb-true (length (copy_list m list w run) * 2) (length entry) t)).0 in
          absurd (not_both listed e)
      refused_length needed e (inr f) =
          ap (λ (a : Result Copied Refusal). (copied_values a).needed) (sym e ∙ (slice_refused (leb-false (length (copy_list m list w run) * 2) (length entry) f)).0)

      pub need_shrinks : (needed : ℕ) → r ≡ Err (ShortCopies needed)
          → (needed < length (copies_of m list w run) * 2) ↔ (any_in is_empty (copies_of m list w run) ≡ true)
      need_shrinks needed e =
          let is = refused_length needed e (true_or_false (leb (length (copy_list m list w run) * 2) (length entry))) in
          let exactly = kept_fewer (copies_of m list w run) in
          (λ (lt : needed < length (copies_of m list w run) * 2). exactly.0 (omega arith), λ h. let lt = exactly.1 h in omega arith)

      pub word_enough : length w ≤ length entry
          → (r ≡ Ok (copied (copy_list m list w run)))
          × (exit ≡ pairs (copy_list m list w run) ++ drop (length (copy_list m list w run) * 2) entry)
      unfolding copies_need
      word_enough h = let fits = need_fits m list w run (table_good longest_copied m list w passes).0 accepts in copies_listed (omega arith)

  -- an answer that lists copies

  module _ (n total : ℕ) (answer : r ≡ Ok (record { copies = n; total = total })) where
    tested : (eqb (table_and_word longest_copied m list w) 0 ≡ true) ⊎ (eqb (table_and_word longest_copied m list w) 0 ≡ false) → table_and_word longest_copied m list w ≡ 0
    tested (inl t) = eqb-true (table_and_word longest_copied m list w) 0 t
    tested (inr f) = absurd (not_both answer (first_refused (eqb-false (table_and_word longest_copied m list w) 0 f)).0)

    passes : table_and_word longest_copied m list w ≡ 0
    passes = tested (true_or_false (eqb (table_and_word longest_copied m list w) 0))

    followed : (accepting m list w run ≡ true) ⊎ (accepting m list w run ≡ false) → accepting m list w run ≡ true
    followed (inl t) = t
    followed (inr f) = absurd (not_both answer (run_refused passes f).0)

    accepts : accepting m list w run ≡ true
    accepts = followed (true_or_false (accepting m list w run))

    fitted : (leb (length (copy_list m list w run) * 2) (length entry) ≡ true) ⊎ (leb (length (copy_list m list w run) * 2) (length entry) ≡ false)
        → length (copy_list m list w run) * 2 ≤ length entry
    fitted (inl t) = leb-true (length (copy_list m list w run) * 2) (length entry) t
    fitted (inr f) = absurd (not_both answer (slice_refused passes accepts (leb-false (length (copy_list m list w run) * 2) (length entry) f)).0)

    all : (r ≡ Ok (copied (copy_list m list w run)))
        × (exit ≡ pairs (copy_list m list w run) ++ drop (length (copy_list m list w run) * 2) entry)
    all = copies_listed passes accepts (fitted (true_or_false (leb (length (copy_list m list w run) * 2) (length entry))))

    count : n ≡ length (copy_list m list w run)
    count = ap (λ (z : Result Copied Refusal). (copied_values z).copies) (sym answer ∙ all.0)

    -- 2. Dropped from the list

    pub listed_iff : (k : Copy)
        → ((i : ℕ) × (i < n) × (get_or exit (i * 2) 0 ≡ k.start) × (get_or exit (i * 2 + 1) 0 ≡ k.stored)) ↔ (Memᴰ k (copies_of m list w run) × (is_empty k ≡ false))
    listed_iff k =
        let ks = copy_list m list w run in
        let written = pairs ks ++ drop (length ks * 2) entry in
        let exactly = written_iff k ks (drop (length ks * 2) entry) in
        let kept = kept_iff k (copies_of m list w run) in
        let to : InFront k n exit → InFront k (length ks) written = λ z. subst (InFront k (length ks)) all.1 (subst (λ (c : ℕ). InFront k c exit) count z) in
        let from : InFront k (length ks) written → InFront k n exit = λ z. subst (λ (c : ℕ). InFront k c exit) (sym count) (subst (InFront k (length ks)) (sym all.1) z) in
        (λ z. kept.0 (exactly.0 (to z)), λ z. from (exactly.1 (kept.1 z)))

    pub no_empty : (i : ℕ) → i < n → 1 ≤ get_or exit (i * 2 + 1) 0
    no_empty i lt =
        let k : Copy = record { start = get_or exit (i * 2) 0; stored = get_or exit (i * 2 + 1) 0 } in
        let some : get_or exit (i * 2 + 1) 0 ≡ 0 → ⊥ = eqb-false (get_or exit (i * 2 + 1) 0) 0 ((listed_iff k).0 (i, lt, refl, refl)).1 in
        omega arith

    -- 4. The total

    pub total_from_last : total ≡ total_back (copy_list m list w run)
    total_from_last = ap (λ (z : Result Copied Refusal). (copied_values z).total) (sym answer ∙ all.0)

    pub total_as_before : total ≡ total_forward 0 (copies_of m list w run)
    total_as_before = total_from_last ∙ total_same (copies_of m list w run)

    pub plain_and_twice : plain_letters m list w run + times_read * total ≡ length w
    plain_and_twice =
        ap (λ (t : ℕ). plain_letters m list w run + times_read * t) total_from_last
        ∙ plain_and_copies m list w run (table_good longest_copied m list w passes).0 accepts

  -- 5. Empty copies alone

  module _ (passes : table_and_word longest_copied m list w ≡ 0) (accepts : accepting m list w run ≡ true) where
    pub empty_alone : all_in is_empty (copies_of m list w run) ≡ true → (r ≡ Ok (record { copies = 0; total = 0 })) × (exit ≡ entry)
    unfolding pairs total_back
    empty_alone h =
        let none : copy_list m list w run ≡ [] = kept_none (copies_of m list w run) h in
        let size : length (copy_list m list w run) ≡ 0 = ap length none in
        let (answer, left) = copies_listed passes accepts (omega arith) in
        (answer ∙ ap (λ (ks : List Copy). Ok (copied ks)) none, left ∙ ap (λ (ks : List Copy). pairs ks ++ drop (length ks * 2) entry) none)

    pub empty_alone_iff : (r ≡ Ok (record { copies = 0; total = 0 })) ↔ (all_in is_empty (copies_of m list w run) ≡ true)
    empty_alone_iff = (λ (e : r ≡ Ok (record { copies = 0; total = 0 })). none_kept (copies_of m list w run) (sym (count 0 0 e)), λ h. (empty_alone h).0)
