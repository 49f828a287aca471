-- The functions of src/lib.rt case by case, over plain variables: what each turn of a loop and each way through a function gives.
--
-- passed_still, passed_read == the stretch past a transition without a letter, and with one
-- read_next            == one entry on, the rest of the run reads up to the same position
-- kept_other, kept_empty, kept_copy == the copies with letters from an entry on: at another entry than 65,534, at a copy of no letters, at one with letters
-- Counting ..          == what the loop that counts has done before entry i
-- counting_start, counting_copy, counting_same, counting_end == the loop begins, meets a copy with letters, meets anything else, ends
-- Writing ..           == what the loop that writes has done before entry i
-- writing_start, writing_copy, writing_same, writing_end == the same of it
-- counting_position, writing_position == the position is at most longest_copied
-- copy_room            == at a copy with letters there is room for its two numbers
-- Adding ..            == what the loop that adds has done once the copies from k on are added
-- adding_start, adding_copy, adding_end == it begins, adds copy k - 1, ends
-- entries_fit, count_few == the entries stay in the list of transitions and the word; there are no more than most_copies copies with letters
-- early, not_accepting, no_room, listed == the ways through list_copies: its answer and the slice afterwards
-- copies_says          == the number and values of its answer
use denote.Slice.{shr_slice_at}
use Prim.Native.Nat.{ℕ, zero, suc, ◌+◌, ◌*◌, ◌-◌, ◌≤◌, ◌<◌}
use mathlib.Core.Path.{◌≡◌, refl, sym, ap, ◌∙◌}
use mathlib.Core.Bool.{true, false, cond}
use mathlib.Core.List.{List, [], ◌∷◌, ◌++◌}
use native.Mathlib.Omega.{arith}
use native.Mathlib.Numerals.{add-one}
use native.Mathlib.Nat.{add-zero}
use lib.ListN.{length, get_or, drop, set, drop_of_length-le, length-drop}
use lib.Seq.{drop-cons, paste, paste-zero, paste-suc, length-paste, take_all, get_or-drop, drop-drop}
use lib.Dec.{eqb}
use borrow.Author.Tests.{eq-eqb, ne_eqb}
use Rattle.basics.specs.Search.Loops.{first, second}
use Rattle.fsbm.specs.Machine.{well_formed, transition_at}
use Rattle.fsbm.specs.Rules.{rules}
use Rattle.fsbm.specs.Moves.{accepting, advanced, begin_buffering, begin_emptying}
use Rattle.fsbm.specs.Answers.{number_of, needed_of, by_refusal, passed as test_passed, table_and_word}
use Rattle.fsbm.specs.Answers.Laws.{passed_ok, passed_err, run_numbers, table_numbered}
use Rattle.fsbm.proofs.AnswerCases.{table_good}
use Rattle.fsbm.specs.declared.machine.Machine.{Machine}
use Rattle.fsbm.specs.declared.machine.Transition.{Transition}
use Rattle.fsbm.specs.declared.answer.Refusal.{Refusal}
use Rattle.copies.specs.declared.Copied.{Copied}
use Rattle.fsbm.specs.declared.answer.Refusal.TheVariants.{NotAccepting, ShortCopies}
use Rattle.std.specs.Prelude.{Option, None, Some, Result, Ok, Err}
use Rattle.copies.specs.declared.Stretch.{Stretch}
use Rattle.copies.specs.Copies.{Copy, copied, with_letters, copy_list, pairs, total_back, longest_copied, copies_need, copies_refusal, copies_answer, copies_after, copied_values, copies_values}
use Rattle.copies.specs.Stretches.{most_copies, passed, stretch_copy, entries_from, read_from, at_first, entry_list, entries_read}
use Rattle.copies.specs.Copies.Laws.{Leaves, need_fits}
use Rattle.copies.specs.Copies.Laws as laws
use Rattle.copies.specs.Stretches.Laws.{passed_takes, passed_forward, read_on, entries_are, entries_read_lem}

-- One entry

module _ (n : ℕ) (list : List ℕ) (s : Stretch) (e : ℕ) (not-begin : e ≡ begin_buffering → ⊥) (lt : e < n) (t : Transition) (at-t : t ≡ transition_at list e) where
  takes : record { start = s.start; position = advanced s.position t.letter } ≡ passed n list s e
  takes = ap (λ (z : Transition). record { start = s.start; position = advanced s.position z.letter }) at-t ∙ passed_takes n list s e not-begin lt

  pub passed_still : t.letter ≡ 0 → s ≡ passed n list s e
  passed_still h = ap (λ (p : ℕ). record { start = s.start; position = p }) (first _ (eq-eqb t.letter 0 h) refl) ∙ takes

  pub passed_read : (t.letter ≡ 0 → ⊥) → record { start = s.start; position = s.position + 1 } ≡ passed n list s e
  passed_read h = ap (λ (p : ℕ). record { start = s.start; position = p }) (second _ (ne_eqb t.letter 0 h) refl) ∙ takes

-- One turn of a loop through a run, from entry i to the next one

module _ (n : ℕ) (list run : List ℕ) (s next : Stretch) (i : ℕ) (at_next : next ≡ passed n list s (get_or run i 0)) (lt : i < length run) where
  pub read_next : read_from n list s (drop i run) ≡ read_from n list next (drop (i + 1) run)
  unfolding read_from
  read_next =
      ap (read_from n list s) (drop-cons run i 0 lt)
      ∙ ap (λ (z : Stretch). read_from n list z (drop (suc i) run)) (sym at_next)
      ∙ ap (λ (j : ℕ). read_from n list next (drop j run)) (sym (add-one i))

  rest_copies : entries_from n list s (drop i run)
      ≡ cond (eqb (get_or run i 0) begin_emptying) (stretch_copy s ∷ entries_from n list next (drop (i + 1) run)) (entries_from n list next (drop (i + 1) run))
  unfolding entries_from
  rest_copies =
      ap (entries_from n list s) (drop-cons run i 0 lt)
      ∙ ap (λ (z : Stretch). cond (eqb (get_or run i 0) begin_emptying) (stretch_copy s ∷ entries_from n list z (drop (suc i) run)) (entries_from n list z (drop (suc i) run))) (sym at_next)
      ∙ ap (λ (j : ℕ). cond (eqb (get_or run i 0) begin_emptying) (stretch_copy s ∷ entries_from n list next (drop j run)) (entries_from n list next (drop j run))) (sym (add-one i))

  pub kept_other : (get_or run i 0 ≡ begin_emptying → ⊥) → with_letters (entries_from n list s (drop i run)) ≡ with_letters (entries_from n list next (drop (i + 1) run))
  kept_other ne = ap with_letters (rest_copies ∙ sym (second _ (ne_eqb (get_or run i 0) begin_emptying ne) refl))

  module _ (is : get_or run i 0 ≡ begin_emptying) where
    one_copy : entries_from n list s (drop i run) ≡ stretch_copy s ∷ entries_from n list next (drop (i + 1) run)
    one_copy = rest_copies ∙ sym (first _ (eq-eqb (get_or run i 0) begin_emptying is) refl)

    pub kept_empty : s.position ≤ s.start → with_letters (entries_from n list s (drop i run)) ≡ with_letters (entries_from n list next (drop (i + 1) run))
    unfolding with_letters
    kept_empty none = ap with_letters one_copy ∙ sym (first _ (eq-eqb (s.position - s.start) 0 (omega arith)) refl)

    pub kept_copy : s.start < s.position → with_letters (entries_from n list s (drop i run)) ≡ stretch_copy s ∷ with_letters (entries_from n list next (drop (i + 1) run))
    unfolding with_letters
    kept_copy some = ap with_letters one_copy ∙ sym (second _ (ne_eqb (s.position - s.start) 0 (λ (z : s.position - s.start ≡ 0). omega arith)) refl)

-- The loop that counts

module _ (n : ℕ) (list run : List ℕ) where
  pub record Counting (s : Stretch) (count i : ℕ) : Type 0 where
    pub few : count ≤ i
    pub small : read_from n list s (drop i run) ≤ longest_copied
    pub sum : count + length (with_letters (entries_from n list s (drop i run))) ≡ length (entry_list n list run)

  pub counting_start : entries_read n list run ≤ longest_copied → Counting at_first 0 1
  counting_start small = record { few = omega arith; small = small; sum = omega arith }

  module _ {s : Stretch} {count i : ℕ} (r : Counting s count i) where
    pub counting_position : s.position ≤ longest_copied
    counting_position = let on = read_on n list s (drop i run) in omega (arith, r.small)

    pub counting_end : length run ≤ i → count ≡ length (entry_list n list run)
    unfolding entries_from with_letters
    counting_end h =
        let none : length (with_letters (entries_from n list s (drop i run))) ≡ 0 = ap (λ (es : List ℕ). length (with_letters (entries_from n list s es))) (drop_of_length-le run h) in
        omega (arith, r.sum)

    module _ (next : Stretch) (at_next : next ≡ passed n list s (get_or run i 0)) (lt : i < length run) where
      pub counting_same : with_letters (entries_from n list s (drop i run)) ≡ with_letters (entries_from n list next (drop (i + 1) run)) → Counting next count (i + 1)
      counting_same same =
          let read = read_next n list run s next i at_next lt in
          let size = ap length same in
          record { few = omega (arith, r.few); small = omega (arith, r.small); sum = omega (arith, r.sum) }

      pub counting_copy : with_letters (entries_from n list s (drop i run)) ≡ stretch_copy s ∷ with_letters (entries_from n list next (drop (i + 1) run)) → Counting next (count + 1) (i + 1)
      counting_copy copy =
          let read = read_next n list run s next i at_next lt in
          let size = ap length copy in
          record { few = omega (arith, r.few); small = omega (arith, r.small); sum = omega (arith, r.sum) }

-- The loop that writes

-- a list that holds the first j elements of all, and one more element stored
store_next : (d slice all : List ℕ) (j : ℕ) {v : ℕ} {rest : List ℕ} → slice ≡ paste d 0 all j → length all ≤ length d → drop j all ≡ v ∷ rest
    → (set slice j v ≡ paste d 0 all (j + 1)) × (drop (j + 1) all ≡ rest)
store_next d slice all j {v} {rest} holds room left =
    let size : length all - j ≡ suc (length rest) = sym (length-drop j all) ∙ ap length left in
    let value : v ≡ get_or all j 0 = ap (λ (l : List ℕ). get_or l 0 0) (sym left) ∙ get_or-drop j all 0 0 ∙ ap (λ (n : ℕ). get_or all n 0) (add-zero j) in
    let place : j ≡ 0 + j = omega arith in (
      ap (λ (l : List ℕ). set l j v) holds
          ∙ ap (λ (x : ℕ). set (paste d 0 all j) j x) value
          ∙ ap (λ (n : ℕ). set (paste d 0 all j) n (get_or all j 0)) place
          ∙ paste-suc d 0 all j 0 (omega arith) (omega arith)
          ∙ ap (paste d 0 all) (sym (add-one j)),
      sym (drop-drop 1 j all) ∙ ap (drop 1) left,
    )

pairs_length : (ks : List Copy) → length (pairs ks) ≡ length ks * 2
unfolding pairs
pairs_length [] = refl
pairs_length (k ∷ ks) = let h = pairs_length ks in omega arith

module _ (n : ℕ) (list run : List ℕ) where
  pub record Writing (slice₀ slice : List ℕ) (s : Stretch) (k i : ℕ) : Type 0 where
    pub forward : s.start ≤ s.position
    pub small : read_from n list s (drop i run) ≤ longest_copied
    pub room : length (pairs (entry_list n list run)) ≤ length slice₀
    pub done : k ≤ length (pairs (entry_list n list run))
    pub left : drop k (pairs (entry_list n list run)) ≡ pairs (with_letters (entries_from n list s (drop i run)))
    pub holds : slice ≡ paste slice₀ 0 (pairs (entry_list n list run)) k

  pub writing_start : (slice : List ℕ) → entries_read n list run ≤ longest_copied → length (entry_list n list run) * 2 ≤ length slice → Writing slice slice at_first 0 1
  writing_start slice small fits =
      let long = pairs_length (entry_list n list run) in
      record { forward = omega arith; small = small; room = omega arith; done = omega arith; left = refl; holds = paste-zero slice 0 (pairs (entry_list n list run)) }

  module _ {slice₀ slice : List ℕ} {s : Stretch} {k i : ℕ} (r : Writing slice₀ slice s k i) where
    pub slice_length : length slice ≡ length slice₀
    slice_length = ap length r.holds ∙ length-paste slice₀ 0 (pairs (entry_list n list run)) k (omega (arith, r.done, r.room)) r.done

    pub writing_position : s.position ≤ longest_copied
    writing_position = let on = read_on n list s (drop i run) in omega (arith, r.small)

    pub writing_end : length run ≤ i → slice ≡ pairs (entry_list n list run) ++ drop (length (entry_list n list run) * 2) slice₀
    unfolding entries_from with_letters pairs
    writing_end h =
        let all = pairs (entry_list n list run) in
        let none : drop k all ≡ [] = r.left ∙ ap (λ (es : List ℕ). pairs (with_letters (entries_from n list s es))) (drop_of_length-le run h) in
        let size : length all - k ≡ 0 = sym (length-drop k all) ∙ ap length none in
        let long = pairs_length (entry_list n list run) in
        let index : 0 + k ≡ length (entry_list n list run) * 2 = omega (arith, r.done) in
        r.holds ∙ ap (λ (z : List ℕ). z ++ drop (0 + k) slice₀) (take_all k all (omega arith)) ∙ ap (λ (z : ℕ). all ++ drop z slice₀) index

    module _ (next : Stretch) (at_next : next ≡ passed n list s (get_or run i 0)) (lt : i < length run) where
      next_forward : next.start ≤ next.position
      next_forward = let h = passed_forward n list s (get_or run i 0) r.forward in let a = ap (λ (z : Stretch). z.start) at_next in let b = ap (λ (z : Stretch). z.position) at_next in omega arith

      pub writing_same : with_letters (entries_from n list s (drop i run)) ≡ with_letters (entries_from n list next (drop (i + 1) run)) → Writing slice₀ slice next k (i + 1)
      writing_same same =
          let read = read_next n list run s next i at_next lt in
          record { forward = next_forward; small = omega (arith, r.small); room = r.room; done = r.done; left = r.left ∙ ap pairs same; holds = r.holds }

      module _ (copy : with_letters (entries_from n list s (drop i run)) ≡ stretch_copy s ∷ with_letters (entries_from n list next (drop (i + 1) run))) where
        left_now : drop k (pairs (entry_list n list run)) ≡ s.start ∷ (s.position - s.start) ∷ pairs (with_letters (entries_from n list next (drop (i + 1) run)))
        unfolding pairs
        left_now = r.left ∙ ap pairs copy

        pub copy_room : k + 1 < length slice
        copy_room =
            let size : length (pairs (entry_list n list run)) - k ≡ suc (suc (length (pairs (with_letters (entries_from n list next (drop (i + 1) run))))))
            = sym (length-drop k (pairs (entry_list n list run))) ∙ ap length left_now in
            let same_size = slice_length in
            omega (arith, r.room)

        pub writing_copy : Writing slice₀ (set (set slice k s.start) (k + 1) (s.position - s.start)) next (k + 2) (i + 1)
        writing_copy =
            let all = pairs (entry_list n list run) in
            let size : length all - k ≡ suc (suc (length (pairs (with_letters (entries_from n list next (drop (i + 1) run)))))) = sym (length-drop k all) ∙ ap length left_now in
            let (store₁, left₁) = store_next slice₀ slice all k r.holds r.room left_now in
            let (store₂, left₂) = store_next slice₀ (set slice k s.start) all (k + 1) store₁ r.room left₁ in
            let two : k + 1 + 1 ≡ k + 2 = omega arith in
            let read = read_next n list run s next i at_next lt in
            record {
              forward = next_forward;
              small = omega (arith, r.small);
              room = r.room;
              done = omega arith;
              left = ap (λ (j : ℕ). drop j all) (sym two) ∙ left₂;
              holds = store₂ ∙ ap (paste slice₀ 0 all) two;
            }

-- The loop that adds

added : (ks : List Copy) (rest : List ℕ) (k : ℕ) → k < length ks → total_back (drop k ks) ≡ total_back (drop (k + 1) ks) + get_or (pairs ks ++ rest) (k * 2 + 1) 0
unfolding pairs total_back
added [] rest k lt = absurd (omega arith)
added (c ∷ ks) rest zero lt = refl
added (c ∷ ks) rest (suc k) lt =
    let behind : drop (suc k + 1) (c ∷ ks) ≡ drop (k + 1) ks = ap (λ (j : ℕ). drop j (c ∷ ks)) {x = suc k + 1} {y = suc (k + 1)} (omega arith) in
    let place : suc k * 2 + 1 ≡ suc (suc (k * 2 + 1)) = omega arith in
    added ks rest k (omega arith)
    ∙ ap (λ (l : List Copy). total_back l + get_or (pairs ks ++ rest) (k * 2 + 1) 0) (sym behind)
    ∙ ap (λ (j : ℕ). total_back (drop (suc k + 1) (c ∷ ks)) + get_or (c.start ∷ c.stored ∷ (pairs ks ++ rest)) j 0) (sym place)

module _ (slice : List ℕ) (count : ℕ) where
  pub record Adding (total k : ℕ) : Type 0 where
    pub inside : k ≤ count
    pub small : total ≤ (count - k) * 65535
    pub sum : (ks : List Copy) (rest : List ℕ) → slice ≡ pairs ks ++ rest → count ≡ length ks → total ≡ total_back (drop k ks)

  pub adding_start : Adding 0 count
  unfolding total_back
  adding_start = record {
    inside = omega arith;
    small = omega arith;
    sum = λ ks rest shr_slice_at size. sym (ap total_back (drop_of_length-le ks {i = count} (omega arith)));
  }

  pub adding_copy : {total k : ℕ} → Adding total k → 0 < k → get_or slice ((k - 1) * 2 + 1) 0 ≤ 65535 → Adding (total + get_or slice ((k - 1) * 2 + 1) 0) (k - 1)
  adding_copy {total} {k} r some fits = record {
    inside = omega (arith, r.inside);
    small = omega (arith, r.inside, r.small);
    sum = λ ks rest shr_slice_at size.
        let h = added ks rest (k - 1) (omega (arith, r.inside)) in
        let back : total_back (drop (k - 1 + 1) ks) ≡ total_back (drop k ks) = ap (λ (j : ℕ). total_back (drop j ks)) {x = k - 1 + 1} {y = k} (omega arith) in
        let value : get_or slice ((k - 1) * 2 + 1) 0 ≡ get_or (pairs ks ++ rest) ((k - 1) * 2 + 1) 0 = ap (λ (l : List ℕ). get_or l ((k - 1) * 2 + 1) 0) shr_slice_at in
        omega (arith, r.sum ks rest shr_slice_at size);
  }

  pub adding_end : {total k : ℕ} → Adding total k → k ≤ 0 → (ks : List Copy) (rest : List ℕ) → slice ≡ pairs ks ++ rest → count ≡ length ks → total ≡ total_back ks
  adding_end {total} {k} r none ks rest shr_slice_at size = r.sum ks rest shr_slice_at size ∙ ap (λ (j : ℕ). total_back (drop j ks)) {x = k} {y = 0} (omega arith)

-- The public call

module _ (m : Machine) (list w run slice : List ℕ) where
  pub copies_says : (r : Result Copied Refusal) (after : List ℕ) → Leaves m list w run slice r after
      → (r ≡ copies_answer m list w run (length slice)) × (after ≡ copies_after m list w run slice) × (copied_values r ≡ copies_values m list w run (length slice))
  unfolding copies_answer copies_values copies_refusal
  copies_says r after (a, s) = (
    a,
    s,
    ap copied_values a
        ∙ (by (copies_refusal m list w run (length slice))
        ∙ run_numbers (table_and_word longest_copied m list w) (accepting m list w run) (ShortCopies (copies_need m list w run)) (length slice)
        (record { refusal = 0; needed = 0; copies = length (copy_list m list w run); total = total_back (copy_list m list w run) })
        (λ n l. record { refusal = n; needed = l; copies = 0; total = 0 }) (table_numbered longest_copied m list w)),
  )
    where
      by : (o : Option Refusal)
          → copied_values (by_refusal o (Ok (copied (copy_list m list w run))) (λ f. Err f))
          ≡ by_refusal o (record { refusal = 0; needed = 0; copies = length (copy_list m list w run); total = total_back (copy_list m list w run) })
          (λ f. record { refusal = number_of f; needed = needed_of f; copies = 0; total = 0 })
      by None = refl
      by (Some f) = refl

  pub early : (f : Refusal) → Err f ≡ test_passed (table_and_word longest_copied m list w) → Leaves m list w run slice (Err f) slice
  early f e =
      let h = passed_err (table_and_word longest_copied m list w) f e in
      let (a, s) = laws.refused_first m list w run slice h.0 in
      (ap (λ (z : Refusal). Err z) h.1 ∙ a, s)

  module _ (passes : Ok tt ≡ test_passed (table_and_word longest_copied m list w)) where
    tested : table_and_word longest_copied m list w ≡ 0
    tested = passed_ok (table_and_word longest_copied m list w) passes

    pub not_accepting : accepting m list w run ≡ false → Leaves m list w run slice (Err NotAccepting) slice
    not_accepting h = laws.refused_run m list w run slice tested h

    module _ (a : accepting m list w run ≡ true) where
      in_order : (well_formed m list ≡ true) × (length w ≤ longest_copied)
      in_order = let all = table_good longest_copied m list w tested in (all.0, all.1)

      told : entry_list m.transitions list run ≡ copy_list m list w run
      told = entries_are m list w in_order.0 run a

      pub entries_fit : (m.transitions * 3 ≤ length list) × (entries_read m.transitions list run ≤ longest_copied)
      entries_fit = let read = entries_read_lem m list w in_order.0 run a in let short = in_order.1 in ((rules m list in_order.0).list_fits, omega arith)

      module _ (count : ℕ) (at_count : count ≡ length (entry_list m.transitions list run)) where
        count_is : count ≡ length (copy_list m list w run)
        count_is = at_count ∙ ap length told

        pub count_few : count ≤ most_copies
        unfolding copies_need
        count_few = let is = count_is in let fits = need_fits m list w run in_order.0 a in let short = in_order.1 in omega arith

        pub no_room : length slice < count * 2 → Leaves m list w run slice (Err (ShortCopies (count * 2))) slice
        no_room h =
            let is = count_is in
            let (answer, kept) = laws.refused_room m list w run slice tested a (omega arith) in
            (ap (λ (z : ℕ). Err (ShortCopies (z * 2))) is ∙ answer, kept)

        pub listed : count * 2 ≤ length slice → (after : List ℕ) → after ≡ pairs (entry_list m.transitions list run) ++ drop (length (entry_list m.transitions list run) * 2) slice
            → (total : ℕ) → ((ks : List Copy) (rest : List ℕ) → after ≡ pairs ks ++ rest → count ≡ length ks → total ≡ total_back ks) → Leaves m list w run slice (Ok (record { copies = count; total = total })) after
        listed h after at_after total at-total =
            let is = count_is in
            let holds = at_after ∙ ap (λ (ks : List Copy). pairs ks ++ drop (length ks * 2) slice) told in
            let (answer, left) = laws.listed_all m list w run slice tested a (omega arith) in
            (ap (λ (z : ℕ). Ok (record { copies = z; total = total })) is ∙ ap (λ (z : ℕ). Ok (record { copies = length (copy_list m list w run); total = z })) (at-total (copy_list m list w run) _ holds is) ∙ answer, holds ∙ left)
