-- The first 64,721 bytes of a file decide: no sheet without fault is longer than 64,720 bytes.
--
-- column_past, line_past, header_past, state_past, transition_past == bytes behind what is looked at change nothing
-- fault_past       == bytes behind the first 64,721 do not change the first fault
-- listing_of_front == a program that reads at least 64,721 bytes of a file prints the listing of the whole file
use Prim.Native.Nat.{ℕ, zero, suc, ◌+◌, ◌*◌, ◌-◌, ◌<◌, ◌≤◌}
use Rattle.std.specs.Prelude.{◌≡◌, refl, Bool, not, take, drop, get_or, eqb}
use Rattle.std.proofs.Math.Path.{sym, ap}
use Rattle.std.proofs.Common.{◌∙◌, arith, take-append-drop, take_all, length-take-le}
use mathlib.Core.List.{List, ◌++◌}
use Rattle.std.proofs.Math.Decide.{dec_le, ℕ_discrete}
use Rattle.std.proofs.Math.ListN.{length, length-append, length-drop, get_or-append}
use Rattle.std.proofs.lemmas.List.{take-append-le, drop-append-le}
use Rattle.std.proofs.Math.Dec.{leb}
use borrow.Author.Tests.{le-leb, lt-leb}
use Rattle.columns.specs.Column.{column_number, no_number}
use Rattle.fsbm.specs.declared.machine.Transition.{Transition}
use Rattle.sheet.specs.Series.{or_else, first_of}
use Rattle.sheet.specs.Format.{state_start, transition_start}
use Rattle.sheet.specs.Reading.{column_at, unless, column_fault, line_fault, counts_fault, header_fault, mark_fault, state_fault, transition_in, order_fault, transition_fault, rest_fault, first_fault}
use Rattle.fsbm.specs.Rules.{Counts}
use Rattle.sheet.specs.Reading.Laws.{header_none, rest_of, header_first, no_fault}
use Rattle.stream.specs.Listing.{refused_sheet, listing}
use Rattle.stream.specs.Pieces.Laws.{opening_bad}
use Rattle.stream.specs.Whole.{listing_refused}

first_same : (n : ℕ) (f g : ℕ → ℕ) → ((k : ℕ) → k < n → f k ≡ g k) → first_of n f ≡ first_of n g
unfolding first_of
first_same zero f g h = refl
first_same (suc n) f g h =
    ap (λ (z : ℕ). or_else z (f n)) (first_same n f g (λ k l. h k (omega arith))) ∙ ap (or_else (first_of n g)) (h n (omega arith))

module _ (t u : List ℕ) where
  column_past : (i : ℕ) → i + 5 ≤ length t → column_at (t ++ u) i ≡ column_at t i
  unfolding column_at
  column_past i h =
      ap (λ (z : List ℕ). column_number (take 5 z)) (drop-append-le i t u (omega arith))
      ∙ ap column_number (take-append-le 5 (drop i t) u five)
    where
      five : 5 ≤ length (drop i t)
      five = omega (arith, length-drop i t)

  line_past : (n i : ℕ) → i + n * 5 + 1 ≤ length t → line_fault (t ++ u) n i ≡ line_fault t n i
  unfolding line_fault column_fault
  line_past n i h =
      ap (λ (z : Bool). or_else (unless z 1) (or_else (first_of n (column_fault (t ++ u) i)) (unless (eqb (get_or (t ++ u) (i + n * 5) 0) 10) 2))) long
      ∙ (ap (λ (z : ℕ). or_else (unless (leb (i + n * 5 + 1) (length t)) 1) (or_else z (unless (eqb (get_or (t ++ u) (i + n * 5) 0) 10) 2))) columns
      ∙ ap (λ (z : ℕ). or_else (unless (leb (i + n * 5 + 1) (length t)) 1) (or_else (first_of n (column_fault t i)) (unless (eqb z 10) 2))) (get_or-append t u 0 (i + n * 5) (omega arith)))
    where
      long : leb (i + n * 5 + 1) (length (t ++ u)) ≡ leb (i + n * 5 + 1) (length t)
      long = let longer : i + n * 5 + 1 ≤ length (t ++ u) = omega (arith, length-append t u) in le-leb _ _ longer ∙ sym (le-leb _ _ h)

      columns : first_of n (column_fault (t ++ u) i) ≡ first_of n (column_fault t i)
      columns =
          first_same n (column_fault (t ++ u) i) (column_fault t i)
          (λ c l. ap (λ (z : ℕ). unless (not (eqb z no_number)) 2) (column_past (i + c * 5) (omega arith)))

  module _ (long : 64721 ≤ length t) where
    header_past : header_fault (t ++ u) ≡ header_fault t
    unfolding header_fault
    header_past =
        ap (λ (z : ℕ). or_else z (counts_fault (column_at (t ++ u) 0) (column_at (t ++ u) 5) (column_at (t ++ u) 10))) (line_past 3 0 (omega arith))
        ∙ (ap (λ (z : ℕ). or_else (line_fault t 3 0) (counts_fault z (column_at (t ++ u) 5) (column_at (t ++ u) 10))) (column_past 0 (omega arith))
        ∙ (ap (λ (z : ℕ). or_else (line_fault t 3 0) (counts_fault (column_at t 0) z (column_at (t ++ u) 10))) (column_past 5 (omega arith))
        ∙ ap (λ (z : ℕ). or_else (line_fault t 3 0) (counts_fault (column_at t 0) (column_at t 5) z)) (column_past 10 (omega arith))))

    state_past : (q : ℕ) → q < 64 → state_fault (t ++ u) q ≡ state_fault t q
    unfolding state_fault
    state_past q h =
        ap (λ (z : ℕ). or_else z (mark_fault q (column_at (t ++ u) (state_start q)) (column_at (t ++ u) (state_start q + 5)))) (line_past 2 (state_start q) (omega arith))
        ∙ (ap (λ (z : ℕ). or_else (line_fault t 2 (state_start q)) (mark_fault q z (column_at (t ++ u) (state_start q + 5)))) (column_past (state_start q) (omega arith))
        ∙ ap (λ (z : ℕ). or_else (line_fault t 2 (state_start q)) (mark_fault q (column_at t (state_start q)) z)) (column_past (state_start q + 5) (omega arith)))

    numbers_past : (i : ℕ) → i + 15 ≤ length t → transition_in (t ++ u) i ≡ transition_in t i
    unfolding transition_in
    numbers_past i h = λ j. record {
      from = column_past i (omega arith) j;
      letter = column_past (i + 5) (omega arith) j;
      to = column_past (i + 10) (omega arith) j;
    }

    module _ (states letters transitions : ℕ) (counts : Counts states letters transitions) where
      transition_past : (k : ℕ) → k < transitions → transition_fault (t ++ u) states letters k ≡ transition_fault t states letters k
      unfolding transition_fault
      transition_past k h =
          let a = counts.few_states in
          let b = counts.few_transitions in
          ap (λ (z : ℕ). or_else z (order_fault states letters (eqb k 0) (transition_in (t ++ u) (transition_start states (k - 1))) (transition_in (t ++ u) (transition_start states k)))) (line_past 3 (transition_start states k) (omega arith))
          ∙ (ap (λ (z : Transition). or_else (line_fault t 3 (transition_start states k)) (order_fault states letters (eqb k 0) z (transition_in (t ++ u) (transition_start states k)))) (numbers_past (transition_start states (k - 1)) (omega arith))
          ∙ ap (λ (z : Transition). or_else (line_fault t 3 (transition_start states k)) (order_fault states letters (eqb k 0) (transition_in t (transition_start states (k - 1))) z)) (numbers_past (transition_start states k) (omega arith)))

      ends_past : leb (length (t ++ u)) (transition_start states transitions) ≡ leb (length t) (transition_start states transitions)
      ends_past =
          let a = counts.few_states in
          let b = counts.few_transitions in
          let e = length-append t u in
          let p : transition_start states transitions < length (t ++ u) = omega arith in
          let q : transition_start states transitions < length t = omega arith in
          lt-leb _ _ p ∙ sym (lt-leb _ _ q)

    rest_past : (states transitions : ℕ) → Counts states (column_at t 5) transitions → rest_fault (t ++ u) states transitions ≡ rest_fault t states transitions
    unfolding rest_fault
    rest_past states transitions counts =
        let few = counts.few_states in
        ap (λ (z : ℕ). or_else z (or_else (first_of transitions (transition_fault (t ++ u) states (column_at (t ++ u) 5))) (unless (leb (length (t ++ u)) (transition_start states transitions)) 7)))
        (first_same states (state_fault (t ++ u)) (state_fault t) (λ q l. state_past q (omega arith)))
        ∙ (ap (λ (z : ℕ). or_else F (or_else (first_of transitions (transition_fault (t ++ u) states z)) (unless (leb (length (t ++ u)) (transition_start states transitions)) 7))) (column_past 5 (omega arith))
        ∙ (ap (λ (z : ℕ). or_else F (or_else z (unless (leb (length (t ++ u)) (transition_start states transitions)) 7)))
        (first_same transitions (transition_fault (t ++ u) states (column_at t 5)) (transition_fault t states (column_at t 5)) (transition_past states (column_at t 5) transitions counts))
        ∙ ap (λ (z : Bool). or_else F (or_else (first_of transitions (transition_fault t states (column_at t 5))) (unless z 7))) (ends_past states (column_at t 5) transitions counts)))
      where
        F : ℕ
        F = first_of states (state_fault t)

    pub fault_past : first_fault (t ++ u) ≡ first_fault t
    fault_past = at (ℕ_discrete (header_fault t) 0)
      where
        at : Dec (header_fault t ≡ 0) → first_fault (t ++ u) ≡ first_fault t
        at (yes e) =
            rest_of (t ++ u) (header_past ∙ e)
            ∙ (ap (λ (z : ℕ). rest_fault (t ++ u) z (column_at (t ++ u) 10)) (column_past 0 (omega arith))
            ∙ (ap (rest_fault (t ++ u) (column_at t 0)) (column_past 10 (omega arith))
            ∙ (rest_past (column_at t 0) (column_at t 10) ((header_none t).0 e).counts ∙ sym (rest_of t e))))
        at (no n) = header_first (t ++ u) (λ z. n (sym header_past ∙ z)) ∙ (header_past ∙ sym (header_first t n))

    some_fault : first_fault t ≡ 0 → ⊥
    some_fault e =
        let s = (no_fault t).0 e in
        let a = s.ends in
        let b = s.header.counts.few_states in
        let d = s.header.counts.few_transitions in
        omega arith

    listing_past : (input : List ℕ) → listing t input ≡ listing (t ++ u) input
    listing_past input =
        sym (listing_refused t input some_fault)
        ∙ (sym (opening_bad t some_fault)
        ∙ (ap refused_sheet (sym fault_past)
        ∙ (opening_bad (t ++ u) still_fault ∙ listing_refused (t ++ u) input still_fault)))
      where
        still_fault : first_fault (t ++ u) ≡ 0 → ⊥
        still_fault z = some_fault (sym fault_past ∙ z)

pub listing_of_front : (n : ℕ) (s input : List ℕ) → 64721 ≤ n → listing (take n s) input ≡ listing s input
listing_of_front n s input h = at (dec_le (length s) n)
  where
    at : Dec (length s ≤ n) → listing (take n s) input ≡ listing s input
    at (yes short) = ap (λ (z : List ℕ). listing z input) (take_all n s short)
    at (no long) =
        let e = length-take-le n s (omega arith) in
        listing_past (take n s) (drop n s) (omega arith) input ∙ ap (λ (z : List ℕ). listing z input) (take-append-drop n s)
