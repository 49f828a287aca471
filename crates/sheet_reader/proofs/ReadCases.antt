-- The whole sheet, and what read_sheet answers, way by way.
--
-- fault-..           == the first fault of the sheet, by the part that has it
-- list_copied        == the numbers that were kept, copied to the list, are the sheet's transitions
-- rest-..            == what is refused behind line one, with the list: a fault, a list too short, nothing
-- answer-..          == the answer and the list: refused in line one or behind it, or read
-- read_says          == the same, with the number and values of the answer
use Prim.Native.Nat.{ℕ, ◌*◌, ◌<◌, ◌≤◌}
use mathlib.Core.Path.{◌≡◌, refl, sym, ap, ◌∙◌}
use mathlib.Core.List.{List, ◌++◌}
use mathlib.Core.Bool.{Bool, cond}
use native.Mathlib.Omega.{arith}
use lib.ListN.{length, take, drop}
use lib.Seq.{take_at}
use lib.Dec.{leb}
use borrow.Author.Tests.{le-leb, lt-leb, eq-eqb, ne_eqb}
use Rattle.std.specs.Prelude.{Option, None, Some, Result, Ok, Err}
use Rattle.basics.specs.Lists.{put}
use Rattle.basics.specs.Lists.Laws.{put_zero}
use Rattle.basics.specs.Each.{each_below}
use Rattle.basics.specs.Each.Laws.{each_length}
use Rattle.fsbm.specs.Answers.{refusal, by_refusal, machine_values}
use Rattle.sheet.specs.Numbers.{read_agrees}
use Rattle.fsbm.specs.declared.answer.Refusal.{Refusal}
use Rattle.fsbm.specs.declared.answer.Refusal.TheVariants.{BytesLeft, ShortList}
use Rattle.fsbm.specs.declared.machine.Machine.{Machine}
use Rattle.sheet.specs.declared.header.Header.{Header}
use Rattle.sheet.specs.Series.{or_else, first_of}
use Rattle.sheet.specs.Series.Laws.{or_none, or_fault}
use Rattle.sheet.specs.Format.{transition_start}
use Rattle.sheet.specs.Parts.{Counted, HeaderRead, RestRead}
use Rattle.sheet.specs.Reading.{unless, column_at, header_fault, state_fault, transition_fault, rest_fault, first_fault, marks_of, machine_of, numbers_in, transitions_of, read_refusal, read_answer, read_list, read_values}
use Rattle.sheet.specs.Reading.Laws.{header_first, rest_of}

-- The whole sheet

module _ (s : List ℕ) (h : Header) (read : Counted s h) where
  abbrev states_fault : ℕ
  states_fault = first_of h.states (state_fault s)

  abbrev transitions_fault : ℕ
  transitions_fault = first_of h.transitions (transition_fault s h.states h.letters)

  abbrev end_fault : ℕ
  end_fault = unless (leb (length s) (transition_start h.states h.transitions)) 7

  together : first_fault s ≡ or_else states_fault (or_else transitions_fault end_fault)
  unfolding rest_fault
  together = rest_of s read.none ∙ λ j. rest (sym read.states j) (sym read.letters j) (sym read.transitions j)
    where
      rest : ℕ → ℕ → ℕ → ℕ
      rest x y z = or_else (first_of x (state_fault s)) (or_else (first_of z (transition_fault s x y)) (unless (leb (length s) (transition_start x z)) 7))

  pub fault_state : (states_fault ≡ 0 → ⊥) → first_fault s ≡ states_fault
  fault_state z = together ∙ or_fault _ _ z

  -- no fault in the lines of the states
  module _ (good-states : first_of h.states (state_fault s) ≡ 0) where
    later : first_fault s ≡ or_else transitions_fault end_fault
    later = together ∙ or_none _ _ good-states

    pub fault_transition : (transitions_fault ≡ 0 → ⊥) → first_fault s ≡ transitions_fault
    fault_transition z = later ∙ or_fault _ _ z

    -- and none in those of the transitions
    module _ (good-transitions : first_of h.transitions (transition_fault s h.states h.letters) ≡ 0) where
      last : first_fault s ≡ end_fault
      last = later ∙ or_none _ _ good-transitions

      pub fault_bytes : transition_start h.states h.transitions < length s → first_fault s ≡ 7
      fault_bytes l = last ∙ ap (λ (t : Bool). unless t 7) (lt-leb _ _ l)

      pub fault_none : length s ≤ transition_start h.states h.transitions → first_fault s ≡ 0
      fault_none l = last ∙ ap (λ (t : Bool). unless t 7) (le-leb _ _ l)

  -- the numbers that were kept are the sheet's transitions
  pub list_copied : (kept after list written : List ℕ) → after ≡ put 0 kept (each_below h.transitions (λ k. numbers_in s (transition_start h.states k)))
      → written ≡ put 0 list (take (h.transitions * 3) after) → written ≡ transitions_of s ++ drop (column_at s 10 * 3) list
  unfolding transitions_of numbers_in
  list_copied kept after list written e w =
      w
      ∙ (ap (λ (x : List ℕ). put 0 list (take (h.transitions * 3) x)) (e ∙ put_zero kept E)
      ∙ (ap (λ (x : List ℕ). put 0 list x) (take_at E (drop (length E) kept) (h.transitions * 3) wide)
      ∙ (put_zero list E
      ∙ (ap (λ (n : ℕ). E ++ drop n list) wide ∙ λ j. all (read.states j) (read.transitions j) ++ drop (read.transitions j * 3) list))))
    where
      all : ℕ → ℕ → List ℕ
      all x z = each_below z (λ k. numbers_in s (transition_start x k))

      E : List ℕ
      E = all h.states h.transitions

      wide : length E ≡ h.transitions * 3
      wide = let n = each_length 3 (λ k. numbers_in s (transition_start h.states k)) (λ k. refl) h.transitions in omega arith

-- What is refused, and what the list holds

module _ (s list marks : List ℕ) where
  turned_down : (o : Option Refusal) (f : Refusal) → o ≡ read_refusal s (length list) → o ≡ Some f → RestRead s list (Err f) list marks
  unfolding read_list
  turned_down o f e is = (
    sym e ∙ is,
    sym (ap (λ (x : Option Refusal). by_refusal x (transitions_of s ++ drop (column_at s 10 * 3) list) (λ g. list)) (sym e ∙ is)),
  )

  abbrev lengths : Option Refusal
  lengths = cond (leb (column_at s 10 * 3) (length list)) None (Some (ShortList (column_at s 10 * 3)))

  pub rest_fault_lem : (v : ℕ) (f : Refusal) → first_fault s ≡ v → (v ≡ 0 → ⊥) → f ≡ refusal v → RestRead s list (Err f) list marks
  unfolding read_refusal
  rest_fault_lem v f e z is =
      turned_down (Some f) f
      (ap Some (is ∙ ap refusal (sym e)) ∙ ap (λ (t : Bool). cond t lengths (Some (refusal (first_fault s)))) (sym (ne_eqb (first_fault s) 0 (λ (q : first_fault s ≡ 0). z (sym e ∙ q)))))
      refl

  pub rest_bytes : first_fault s ≡ 7 → RestRead s list (Err BytesLeft) list marks
  unfolding refusal
  rest_bytes e = rest_fault_lem 7 BytesLeft e (λ (q : 7 ≡ 0). omega arith) refl

  module _ (none : first_fault s ≡ 0) (n : ℕ) (n_is : n ≡ column_at s 10) where
    no_fault : lengths ≡ read_refusal s (length list)
    unfolding read_refusal
    no_fault = ap (λ (t : Bool). cond t lengths (Some (refusal (first_fault s)))) (sym (eq-eqb (first_fault s) 0 none))

    pub rest_short : length list < n * 3 → RestRead s list (Err (ShortList (n * 3))) list marks
    rest_short h =
        turned_down lengths (ShortList (n * 3)) no_fault
        (ap (λ (t : Bool). cond t None (Some (ShortList (column_at s 10 * 3)))) (lt-leb (column_at s 10 * 3) (length list) (omega arith))
        ∙ ap (λ (k : ℕ). Some (ShortList (k * 3))) (sym n_is))

    pub rest_read : (a : ℕ) (after : List ℕ) → n * 3 ≤ length list → a ≡ column_at s 0 → marks ≡ marks_of s a → after ≡ transitions_of s ++ drop (column_at s 10 * 3) list
        → RestRead s list (Ok tt) after marks
    unfolding read_list
    rest_read a after h ea em w = (
      free,
      w ∙ sym (ap (λ (o : Option Refusal). by_refusal o (transitions_of s ++ drop (column_at s 10 * 3) list) (λ g. list)) free),
      em ∙ ap (λ (m : ℕ). marks_of s m) ea,
    )
      where
        free : read_refusal s (length list) ≡ None
        free = sym no_fault ∙ ap (λ (t : Bool). cond t None (Some (ShortList (column_at s 10 * 3)))) (le-leb (column_at s 10 * 3) (length list) (omega arith))

-- The answer

module _ (s list : List ℕ) where
  answer : (o : Option Refusal) → read_refusal s (length list) ≡ o → read_answer s (length list) ≡ by_refusal o (Ok (machine_of s)) (λ f. Err f)
  unfolding read_answer
  answer o e = ap (λ (x : Option Refusal). by_refusal {A = Result Machine Refusal} x (Ok (machine_of s)) (λ f. Err f)) e

  pub answer_refused : (f : Refusal) (after marks : List ℕ) → RestRead s list (Err f) after marks → (Err f ≡ read_answer s (length list)) × (after ≡ read_list s list)
  answer_refused f after marks rest = (sym (answer (Some f) rest.0), rest.1)

  pub answer_header : (f : Refusal) → HeaderRead s (Err f) → (Err f ≡ read_answer s (length list)) × (list ≡ read_list s list)
  answer_header f bad = answer_refused f list list (rest_fault_lem s list list (header_fault s) f (header_first s bad.0) bad.0 bad.1)

  pub answer_read : (h : Header) (after marks : List ℕ) → Counted s h → RestRead s list (Ok tt) after marks
      → (Ok (record { states = h.states; letters = h.letters; transitions = h.transitions; marks = marks }) ≡ read_answer s (length list)) × (after ≡ read_list s list)
  unfolding machine_of
  answer_read h after marks read rest = (
    (λ j. Ok (record { states = read.states j; letters = read.letters j; transitions = read.transitions j; marks = rest.2 j })) ∙ sym (answer None rest.0),
    rest.1,
  )

-- the answer and the list, with the number and values of the answer
pub read_says : (s list : List ℕ) (r : Result Machine Refusal) (after : List ℕ) → (r ≡ read_answer s (length list)) × (after ≡ read_list s list)
    → (r ≡ read_answer s (length list)) × (after ≡ read_list s list) × (machine_values r ≡ read_values s (length list))
read_says s list r after (a, l) = (a, l, ap machine_values a ∙ read_agrees s (length list))
