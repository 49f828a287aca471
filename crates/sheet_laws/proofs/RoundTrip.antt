-- The two round trips of sheets. A sheet may have blank columns, which are zeros left out.
--
-- Table m list    == a table that obeys the rules: well_formed, with a mark for each of 64 states (as every record in code has)
-- written_filled  == the sheet of a table has nothing to fill
-- filled_sound    == what is the sheet of a table, once its blank columns are filled, has no fault
-- read_machine, read_transitions == what is read from it is that table
-- sound_filled    == a sheet without fault, read and written, is the same bytes with its blank columns filled
-- sound_table     == what is read from a sheet without fault is a table
-- sheet_iff_table == a byte string is read without fault, if and only if it is the sheet of some table, once its blank columns are filled
-- good_iff_filled == a sheet has no fault, if and only if it has none once its blank columns are filled
-- filled_answer, filled_list == a sheet without fault is read as it is read once its blank columns are filled
-- sheet_length_lem    == the sheet of a table is as long as sheet_length says
-- read_table, list_table == read_sheet on what is the sheet of a table, once it is filled: the machine, and its transitions at the front of the list
-- write_sound, sheet_sound_written == write_sheet on the table of a sheet without fault: its filled bytes at the front of the slice
use Prim.Native.Nat.{ℕ, zero, suc, ◌+◌, ◌*◌, ◌-◌, ◌<◌, ◌≤◌}
use Rattle.std.specs.Prelude.{◌≡◌, ◌⊎◌, ◌↔◌, Bool, true, ◌&&◌, ◌||◌, leb, ltb, eqb}
use Rattle.std.proofs.Math.Path.{refl, sym, ap, subst}
use Rattle.std.proofs.Common.{◌∙◌, inl, inr, length-drop, drop_of_length-le, drop_at, drop-drop, get_or-drop, get_or-append-add, lt-ltb, le-ltb, le-leb, leb-true, ltb-true, eq-eqb, eqb-true}
use mathlib.Core.List.{List, [], ◌∷◌, ◌++◌, append_assoc, append-nil}
use Rattle.std.proofs.Math.Bool.{cond}
use native.Mathlib.Omega.{arith}
use Rattle.std.proofs.Math.Decide.{dec_lt}
use Rattle.std.proofs.Math.ListN.{length, take, drop, get_or, replicate, length-append, length-replicate, get_or-replicate, take-append-drop}
use Rattle.std.proofs.Math.Seq.{drop-append-add}
use Rattle.basics.specs.Search.Laws.{and_true, and_both_true}
use Rattle.columns.specs.Column.{no_number}
use Rattle.fsbm.specs.Machine.{mark_of, transition_at, good_mark, named, precedes, good_transition, well_formed}
use Rattle.fsbm.specs.Rules.{Counts, Tested, tested}
use Rattle.fsbm.specs.Answers.{refusal, by_refusal}
use Rattle.fsbm.specs.declared.machine.Machine.{Machine}
use Rattle.fsbm.specs.declared.machine.Transition.{Transition}
use Rattle.fsbm.specs.declared.answer.Refusal.{Refusal}
use Rattle.columns.specs.Line.{line_of}
use Rattle.columns.specs.Line.Laws.{line_length}
use Rattle.sheet.specs.Format.Laws.{header_wide, state_wide, transition_wide}
use Rattle.std.specs.Prelude.{Option, None, Some, Result, Ok, Err}
use Rattle.fsbm.specs.declared.answer.Refusal.TheVariants.{ShortList, BadTable, ShortSheet}
use Rattle.basics.specs.Each.{each_below}
use Rattle.basics.specs.Each.Laws.{each_length, each_same, each_drop, each_elem, each_parts}
use Rattle.sheet.specs.Format.{state_start, transition_start, sheet_length, header_line, state_line, transition_line, sheet_of}
use Rattle.sheet.specs.Reading.{column_at, first_fault, state_fault, transition_fault, transition_in, marks_of, machine_of, numbers_in, transitions_of}
use Rattle.sheet.specs.Reading.{read_refusal, read_answer, read_list}
use Rattle.sheet.specs.Reading.Laws.{GoodLine, GoodState, GoodTransition, Sound, state_none, transition_none, no_fault, good_flags}
use Rattle.sheet.specs.Writing.{write_refusal, write_answer, write_sheet}
use Rattle.sheet_laws.specs.Filled.{filled}
use Rattle.sheet_laws.proofs.FilledLaws.{filled_size, filled_again}
use Rattle.sheet_laws.proofs.Lines.{line_number, line_end, line_good, line_filled, line_kept, each_kept, each_from, three_part, each_get_d, all_zero}

pub record Table (m : Machine) (list : List ℕ) : Type 0 where
  pub obeys : well_formed m list ≡ true
  pub marked : length m.marks ≡ 64

-- Written and read

-- for every record and list; what write_sheet leaves past the sheet rests on it
pub sheet_length_lem : (m : Machine) (list : List ℕ) → length (sheet_of m list) ≡ sheet_length m
unfolding sheet_of
sheet_length_lem m list =
    let states = each_below m.states (state_line m.marks) in
    let transitions = each_below m.transitions (transition_line list) in
    let a = header_wide m in
    let b = each_length 11 (state_line m.marks) (state_wide m.marks) m.states in
    let c = each_length 16 (transition_line list) (transition_wide list) m.transitions in
    omega (arith, length-append (header_line m) (states ++ transitions), length-append states transitions)

module _ (m : Machine) (list : List ℕ) (r : Tested m list) where
  S : List ℕ
  S = sheet_of m list

  B : List ℕ
  B = each_below m.states (state_line m.marks)

  C : List ℕ
  C = each_below m.transitions (transition_line list)

  -- where the lines stand
  header_place : drop 0 S ≡ line_of 5 (m.states ∷ m.letters ∷ m.transitions ∷ []) ++ (B ++ C)
  unfolding S B C sheet_of header_line
  header_place = refl

  state_place : (q : ℕ) → q < m.states → (tail : List ℕ) × (drop (state_start q) S ≡ line_of 5 (q ∷ mark_of m.marks q ∷ []) ++ tail)
  unfolding S B C sheet_of state_line
  state_place q h =
      let d = each_drop 11 (state_line m.marks) (state_wide m.marks) m.states q C h in
      let n : state_start q ≡ length (header_line m) + 11 * q = let a = header_wide m in omega arith in
      (d.0, ap (λ (k : ℕ). drop k (header_line m ++ (B ++ C))) n ∙ (drop-append-add (header_line m) (B ++ C) (11 * q) ∙ d.1))

  transition_place : (k : ℕ) → k < m.transitions
      → (tail : List ℕ) × (drop (transition_start m.states k) S ≡ line_of 5 ((transition_at list k).from ∷ (transition_at list k).letter ∷ (transition_at list k).to ∷ []) ++ tail)
  unfolding S B C sheet_of transition_line
  transition_place k h =
      let d = each_drop 16 (transition_line list) (transition_wide list) m.transitions k [] h in
      let b = each_length 11 (state_line m.marks) (state_wide m.marks) m.states in
      let n : transition_start m.states k ≡ length (header_line m ++ B) + 16 * k = let a = header_wide m in omega (arith, length-append (header_line m) B) in (
        d.0,
        ap (λ (l : List ℕ). drop (transition_start m.states k) l) (sym (append_assoc (header_line m) B C))
            ∙ (ap (λ (j : ℕ). drop j ((header_line m ++ B) ++ C)) n
            ∙ (drop-append-add (header_line m ++ B) C (16 * k) ∙ (ap (λ (l : List ℕ). drop (16 * k) l) (sym (append-nil C)) ∙ d.1))),
      )

  -- the numbers fit a column
  two_small : (a b : ℕ) → a < 100000 → b < 100000 → (c : ℕ) → c < 2 → get_or (a ∷ b ∷ []) c 0 < 100000
  two_small a b x y zero h = x
  two_small a b x y (suc zero) h = y
  two_small a b x y (suc (suc c)) h = absurd (omega arith)

  three_small : (a b d : ℕ) → a < 100000 → b < 100000 → d < 100000 → (c : ℕ) → c < 3 → get_or (a ∷ b ∷ d ∷ []) c 0 < 100000
  three_small a b d x y z zero h = x
  three_small a b d x y z (suc zero) h = y
  three_small a b d x y z (suc (suc zero)) h = z
  three_small a b d x y z (suc (suc (suc c))) h = absurd (omega arith)

  header_small : (c : ℕ) → c < 3 → get_or (m.states ∷ m.letters ∷ m.transitions ∷ []) c 0 < 100000
  header_small = let c = r.counts in three_small _ _ _ (omega (arith, c.few_states)) (omega (arith, c.few_letters)) (omega (arith, c.few_transitions))

  mark_flags : (q : ℕ) → q < m.states → good_flags (mark_of m.marks q) ≡ true
  mark_flags q h =
      let c = r.counts in
      sym (ap (λ (z : Bool). cond z (good_flags (mark_of m.marks q)) (eqb (mark_of m.marks q) 0)) (lt-ltb q m.states h)) ∙ r.marks q (omega (arith, c.few_states))

  mark_few : (q : ℕ) → q < m.states → mark_of m.marks q ≤ 15
  mark_few q h = leb-true _ _ (and_true (leb (mark_of m.marks q) 15) _ (mark_flags q h)).0

  state_small : (q : ℕ) → q < m.states → (c : ℕ) → c < 2 → get_or (q ∷ mark_of m.marks q ∷ []) c 0 < 100000
  state_small q h = let c = r.counts in two_small q (mark_of m.marks q) (omega (arith, c.few_states)) (let n = mark_few q h in omega arith)

  transition_named : (k : ℕ) → k < m.transitions → named m.states m.letters (transition_at list k) ≡ true
  transition_named k h = (and_true (named m.states m.letters (transition_at list k)) _ (r.transitions k h)).0

  transition_small : (k : ℕ) → k < m.transitions → (c : ℕ) → c < 3 → get_or ((transition_at list k).from ∷ (transition_at list k).letter ∷ (transition_at list k).to ∷ []) c 0 < 100000
  transition_small k h =
      let t : Transition = transition_at list k in
      let x = and_true (ltb t.from m.states) (leb t.letter m.letters && ltb t.to m.states) (transition_named k h) in
      let y = and_true (leb t.letter m.letters) (ltb t.to m.states) x.1 in
      let a = ltb-true t.from m.states x.0 in
      let b = leb-true t.letter m.letters y.0 in
      let d = ltb-true t.to m.states y.1 in
      let c = r.counts in
      three_small _ _ _ (omega (arith, c.few_states)) (omega (arith, c.few_letters)) (omega (arith, c.few_states))

  -- nothing is left blank
  sheet_kept : filled S ≡ S
  unfolding S B C sheet_of header_line state_line transition_line filled
  sheet_kept =
      line_kept (m.states ∷ m.letters ∷ m.transitions ∷ []) (B ++ C) header_small
      ∙ ap (λ (x : List ℕ). header_line m ++ x)
      (each_kept m.states (state_line m.marks) C (λ q h tail. line_kept (q ∷ mark_of m.marks q ∷ []) tail (state_small q h))
      ∙ ap (λ (x : List ℕ). B ++ x)
      (ap filled (sym (append-nil C))
      ∙ (each_kept m.transitions (transition_line list) []
      (λ k h tail. line_kept ((transition_at list k).from ∷ (transition_at list k).letter ∷ (transition_at list k).to ∷ []) tail (transition_small k h))
      ∙ append-nil C)))

-- A sheet that is the table's once its blank columns are filled
module _ (m : Machine) (list : List ℕ) (r : Tested m list) (s : List ℕ) (is : filled s ≡ sheet_of m list) where
  T : List ℕ
  T = sheet_of m list

  -- where the lines stand: what is filled from a line's start on is the table's sheet from there on
  onward : (ns tail : List ℕ) (i : ℕ) → ((c : ℕ) → c < length ns → get_or ns c 0 < 100000) → filled (drop i s) ≡ drop i T → drop i T ≡ line_of 5 ns ++ tail
      → filled (drop (i + length ns * 5 + 1) s) ≡ drop (i + length ns * 5 + 1) T
  onward ns tail i f e d =
      let w = line_length 5 ns in
      let z : i + length (line_of 5 ns) ≡ i + length ns * 5 + 1 = omega arith in
      (line_end ns s tail i (e ∙ d) f).1
      ∙ (sym (ap (drop (length (line_of 5 ns))) d ∙ drop_at (line_of 5 ns) tail (length (line_of 5 ns)) refl)
      ∙ (drop-drop (length (line_of 5 ns)) i T ∙ ap (λ (k : ℕ). drop k T) z))

  header_at : filled (drop 0 s) ≡ line_of 5 (m.states ∷ m.letters ∷ m.transitions ∷ []) ++ (B m list r ++ C m list r)
  unfolding S
  header_at = is ∙ header_place m list r

  states_from : (q : ℕ) → q ≤ m.states → filled (drop (state_start q) s) ≡ drop (state_start q) T
  unfolding S T
  states_from zero h = onward (m.states ∷ m.letters ∷ m.transitions ∷ []) (B m list r ++ C m list r) 0 (header_small m list r) is (header_place m list r)
  states_from (suc q) h =
      let p = state_place m list r q (omega arith) in
      let z : state_start q + 2 * 5 + 1 ≡ state_start (suc q) = omega arith in
      subst (λ (k : ℕ). filled (drop k s) ≡ drop k T) z
      (onward (q ∷ mark_of m.marks q ∷ []) p.0 (state_start q) (state_small m list r q (omega arith)) (states_from q (omega arith)) p.1)

  transitions_from : (k : ℕ) → k ≤ m.transitions → filled (drop (transition_start m.states k) s) ≡ drop (transition_start m.states k) T
  unfolding S T
  transitions_from zero h =
      let z : state_start m.states ≡ transition_start m.states 0 = omega arith in
      subst (λ (k : ℕ). filled (drop k s) ≡ drop k T) z (states_from m.states (omega arith))
  transitions_from (suc k) h =
      let p = transition_place m list r k (omega arith) in
      let z : transition_start m.states k + 3 * 5 + 1 ≡ transition_start m.states (suc k) = omega arith in
      subst (λ (j : ℕ). filled (drop j s) ≡ drop j T) z
      (onward ((transition_at list k).from ∷ (transition_at list k).letter ∷ (transition_at list k).to ∷ []) p.0 (transition_start m.states k) (transition_small m list r k (omega arith)) (transitions_from k (omega arith)) p.1)

  state_at : (q : ℕ) → q < m.states → (tail : List ℕ) × (filled (drop (state_start q) s) ≡ line_of 5 (q ∷ mark_of m.marks q ∷ []) ++ tail)
  unfolding S T
  state_at q h = let p = state_place m list r q h in (p.0, states_from q (omega arith) ∙ p.1)

  transition_at_lem : (k : ℕ) → k < m.transitions
      → (tail : List ℕ) × (filled (drop (transition_start m.states k) s) ≡ line_of 5 ((transition_at list k).from ∷ (transition_at list k).letter ∷ (transition_at list k).to ∷ []) ++ tail)
  unfolding S T
  transition_at_lem k h = let p = transition_place m list r k h in (p.0, transitions_from k (omega arith) ∙ p.1)

  -- what is read
  read_states : column_at s 0 ≡ m.states
  read_states = line_number (m.states ∷ m.letters ∷ m.transitions ∷ []) s (B m list r ++ C m list r) 0 header_at (header_small m list r) 0 (omega arith)

  read_letters : column_at s 5 ≡ m.letters
  read_letters = line_number (m.states ∷ m.letters ∷ m.transitions ∷ []) s (B m list r ++ C m list r) 0 header_at (header_small m list r) 1 (omega arith)

  read_count : column_at s 10 ≡ m.transitions
  read_count = line_number (m.states ∷ m.letters ∷ m.transitions ∷ []) s (B m list r ++ C m list r) 0 header_at (header_small m list r) 2 (omega arith)

  module _ (q : ℕ) (h : q < m.states) where
    read_number : column_at s (state_start q) ≡ q
    read_number =
        let p = state_at q h in
        let z : state_start q ≡ state_start q + 0 * 5 = omega arith in
        ap (λ (k : ℕ). column_at s k) z ∙ line_number (q ∷ mark_of m.marks q ∷ []) s p.0 (state_start q) p.1 (state_small m list r q h) 0 (omega arith)

    read_mark : column_at s (state_start q + 5) ≡ mark_of m.marks q
    read_mark = let p = state_at q h in line_number (q ∷ mark_of m.marks q ∷ []) s p.0 (state_start q) p.1 (state_small m list r q h) 1 (omega arith)

    state_sound : state_fault s q ≡ 0
    state_sound =
        let p = state_at q h in
        (state_none s q).1
        (record {
          line = line_good (q ∷ mark_of m.marks q ∷ []) s p.0 (state_start q) p.1 (state_small m list r q h);
          number = read_number;
          flags = ap good_flags read_mark ∙ mark_flags m list r q h;
        })

  module _ (k : ℕ) (h : k < m.transitions) where
    numbers : List ℕ
    numbers = (transition_at list k).from ∷ (transition_at list k).letter ∷ (transition_at list k).to ∷ []

    read_column : (c : ℕ) → c < 3 → column_at s (transition_start m.states k + c * 5) ≡ get_or ((transition_at list k).from ∷ (transition_at list k).letter ∷ (transition_at list k).to ∷ []) c 0
    read_column =
        let p = transition_at_lem k h in
        line_number ((transition_at list k).from ∷ (transition_at list k).letter ∷ (transition_at list k).to ∷ []) s p.0 (transition_start m.states k) p.1 (transition_small m list r k h)

    read_from_lem : column_at s (transition_start m.states k) ≡ (transition_at list k).from
    read_from_lem = let z : transition_start m.states k ≡ transition_start m.states k + 0 * 5 = omega arith in ap (λ (j : ℕ). column_at s j) z ∙ read_column 0 (omega arith)

    read_transition : transition_in s (transition_start m.states k) ≡ transition_at list k
    unfolding transition_in
    read_transition = λ j. record { from = read_from_lem j; letter = read_column 1 (omega arith) j; to = read_column 2 (omega arith) j }

    transition_line_lem : GoodLine s 3 (transition_start m.states k)
    transition_line_lem =
        let p = transition_at_lem k h in
        line_good ((transition_at list k).from ∷ (transition_at list k).letter ∷ (transition_at list k).to ∷ []) s p.0 (transition_start m.states k) p.1 (transition_small m list r k h)

    read_numbers : numbers_in s (transition_start m.states k) ≡ take 3 (drop (0 + 3 * k) list)
    unfolding numbers_in
    read_numbers =
        (λ j. read_from_lem j ∷ read_column 1 (omega arith) j ∷ read_column 2 (omega arith) j ∷ [])
        ∙ (three_part list (k * 3) (let l = r.long in omega arith) ∙ ap (λ (n : ℕ). take 3 (drop n list)) z)
      where
        z : k * 3 ≡ 0 + 3 * k
        z = omega arith

  transition_sound : (k : ℕ) → k < m.transitions → transition_fault s m.states m.letters k ≡ 0
  transition_sound k h =
      (transition_none s m.states m.letters k).1
      (record {
        line = transition_line_lem k h;
        names = ap (λ (t : Transition). named m.states m.letters t) (read_transition k h) ∙ transition_named m list r k h;
        rises = order (ℕ-zero k);
      })
    where
      before : Transition
      before = transition_at list (k - 1)

      ℕ-zero : (n : ℕ) → (n ≡ 0) ⊎ (0 < n)
      ℕ-zero zero = inl refl
      ℕ-zero (suc n) = inr (omega arith)

      given : (eqb k 0 || precedes before (transition_at list k)) ≡ true
      given = (and_true (named m.states m.letters (transition_at list k)) (eqb k 0 || precedes before (transition_at list k)) (r.transitions k h)).1

      order : (k ≡ 0) ⊎ (0 < k) → (eqb k 0 || precedes (transition_in s (transition_start m.states (k - 1))) (transition_in s (transition_start m.states k))) ≡ true
      order (inl e) = ap (λ (z : Bool). z || precedes (transition_in s (transition_start m.states (k - 1))) (transition_in s (transition_start m.states k))) (eq-eqb k 0 e)
      order (inr l) =
          ap (λ (t : Transition). eqb k 0 || precedes t (transition_in s (transition_start m.states k))) (read_transition (k - 1) (omega arith))
          ∙ (ap (λ (t : Transition). eqb k 0 || precedes before t) (read_transition k h) ∙ given)

  sheet_sound : Sound s
  sheet_sound =
      record {
        header = record { line = line_good (m.states ∷ m.letters ∷ m.transitions ∷ []) s (B m list r ++ C m list r) 0 header_at (header_small m list r); counts = counts };
        states = λ q h. state_sound q (subst (λ (n : ℕ). q < n) read_states h);
        transitions = λ k h. transition k (subst (λ (n : ℕ). k < n) read_count h);
        ends = let a : length s ≡ sheet_length m = sym (filled_size s) ∙ (ap length is ∙ sheet_length_lem m list) in let b = read_states in let c = read_count in omega arith;
      }
    where
      counts : Counts (column_at s 0) (column_at s 5) (column_at s 10)
      counts =
          let c = r.counts in
          record {
            some = rw read_states c.some;
            few_states = rw read_states c.few_states;
            few_letters = rw read_letters c.few_letters;
            few_transitions = rw read_count c.few_transitions;
          }

      transition : (k : ℕ) → k < m.transitions → transition_fault s (column_at s 0) (column_at s 5) k ≡ 0
      transition k h =
          ap (λ (n : ℕ). transition_fault s n (column_at s 5) k) read_states
          ∙ (ap (λ (n : ℕ). transition_fault s m.states n k) read_letters ∙ transition_sound k h)

  sheet_transitions : transitions_of s ≡ take (m.transitions * 3) list
  unfolding transitions_of
  sheet_transitions =
      let z : 3 * m.transitions ≡ m.transitions * 3 = omega arith in
      ap (λ (n : ℕ). each_below n (λ k. numbers_in s (transition_start (column_at s 0) k))) read_count
      ∙ (ap (λ (n : ℕ). each_below m.transitions (λ k. numbers_in s (transition_start n k))) read_states
      ∙ (each_parts 3 0 list (λ k. numbers_in s (transition_start m.states k)) m.transitions read_numbers
      ∙ ap (λ (n : ℕ). take n list) z))

  sheet_marks : length m.marks ≡ 64 → marks_of s (column_at s 0) ≡ m.marks
  unfolding marks_of
  sheet_marks w =
      ap (λ (n : ℕ). each_below n (λ q. column_at s (state_start q + 5) ∷ []) ++ replicate (64 - n) 0) read_states
      ∙ (ap (λ (l : List ℕ). l ++ replicate (64 - m.states) 0) front
      ∙ (ap (λ (l : List ℕ). take m.states m.marks ++ l) (sym back) ∙ take-append-drop m.states m.marks))
    where
      few : m.states ≤ 64
      few = r.counts.few_states

      mark_is : (q : ℕ) → q < 64 → mark_of m.marks q ≡ get_or m.marks q 0
      mark_is q h = ap (λ (z : Bool). cond z (get_or m.marks q 0) 0) (lt-ltb q 64 h)

      front : each_below m.states (λ q. column_at s (state_start q + 5) ∷ []) ≡ take m.states m.marks
      front =
          each_same m.states (λ q. column_at s (state_start q + 5) ∷ []) (λ q. get_or m.marks q 0 ∷ [])
          (λ q h. ap (λ (v : ℕ). v ∷ []) (read_mark q h ∙ mark_is q (omega arith)))
          ∙ each_get_d m.marks m.states (omega arith)

      -- past the last state
      past : (q : ℕ) → q < 64 - m.states → get_or (drop m.states m.marks) q 0 ≡ 0
      past q h =
          let n : m.states + q < 64 = omega arith in
          get_or-drop m.states m.marks q 0
          ∙ (sym (mark_is (m.states + q) n)
          ∙ eqb-true _ _ (sym (ap (λ (z : Bool). cond z (good_flags (mark_of m.marks (m.states + q))) (eqb (mark_of m.marks (m.states + q)) 0)) (le-ltb (m.states + q) m.states (omega arith))) ∙ r.marks (m.states + q) n))

      back : drop m.states m.marks ≡ replicate (64 - m.states) 0
      back = all_zero (drop m.states m.marks) (64 - m.states) (length-drop m.states m.marks ∙ ap (λ (n : ℕ). n - m.states) w) past

module _ (m : Machine) (list : List ℕ) (t : Table m list) where
  ruled : Tested m list
  ruled = (tested m list).0 t.obeys

  pub written_filled : filled (sheet_of m list) ≡ sheet_of m list
  unfolding S
  written_filled = sheet_kept m list ruled

  module _ (s : List ℕ) (is : filled s ≡ sheet_of m list) where
    pub filled_sound : first_fault s ≡ 0
    filled_sound = (no_fault s).1 (sheet_sound m list ruled s is)

    pub read_machine : machine_of s ≡ m
    unfolding machine_of
    read_machine =
        λ j. record {
          states = read_states m list ruled s is j;
          letters = read_letters m list ruled s is j;
          transitions = read_count m list ruled s is j;
          marks = sheet_marks m list ruled s is t.marked j;
        }

    pub read_transitions : transitions_of s ≡ take (m.transitions * 3) list
    read_transitions = sheet_transitions m list ruled s is

-- Read and written

parts : (s : List ℕ) (i : ℕ) → GoodLine s 3 i → (c : ℕ) → c < 3
    → (column_at s (i + c * 5) ≡ get_or ((transition_in s i).from ∷ (transition_in s i).letter ∷ (transition_in s i).to ∷ []) c 0) × (column_at s (i + c * 5) ≡ no_number → ⊥)
unfolding transition_in
parts s i g zero h = let z : i + 0 * 5 ≡ i = omega arith in (ap (λ (k : ℕ). column_at s k) z, g.numbers 0 h)
parts s i g (suc zero) h = (refl, g.numbers 1 h)
parts s i g (suc (suc zero)) h = (refl, g.numbers 2 h)
parts s i g (suc (suc (suc c))) h = absurd (omega arith)

module _ (s rest : List ℕ) (sound : Sound s) where
  n : ℕ
  n = column_at s 0

  t : ℕ
  t = column_at s 10

  list : List ℕ
  list = transitions_of s ++ rest

  counted : Counts n (column_at s 5) t
  unfolding n t
  counted = sound.header.counts

  state_good : (q : ℕ) → q < n → GoodState s q
  unfolding n
  state_good q h = (state_none s q).0 (sound.states q h)

  transition_good : (k : ℕ) → k < t → GoodTransition s n (column_at s 5) k
  unfolding n t
  transition_good k h = (transition_none s (column_at s 0) (column_at s 5) k).0 (sound.transitions k h)

  -- the marks and the transitions that were read
  mark_read : (q : ℕ) → q < n → mark_of (marks_of s n) q ≡ column_at s (state_start q + 5)
  unfolding marks_of
  mark_read q h =
      let c = counted.few_states in
      let z : q ≡ 1 * q + 0 = omega arith in
      ap (λ (b : Bool). cond b (get_or (marks_of s n) q 0) 0) (lt-ltb q 64 (omega arith))
      ∙ (ap (λ (k : ℕ). get_or (marks_of s n) k 0) z
      ∙ each_elem 1 (λ k. column_at s (state_start k + 5) ∷ []) (λ k. refl) n q 0 (replicate (64 - n) 0) h (omega arith))

  mark_past : (q : ℕ) → q < 64 → n ≤ q → mark_of (marks_of s n) q ≡ 0
  unfolding marks_of
  mark_past q h g =
      let l = each_length 1 (λ k. column_at s (state_start k + 5) ∷ []) (λ k. refl) n in
      let z : q ≡ length (each_below n (λ k. column_at s (state_start k + 5) ∷ [])) + (q - n) = omega arith in
      ap (λ (b : Bool). cond b (get_or (marks_of s n) q 0) 0) (lt-ltb q 64 h)
      ∙ (ap (λ (k : ℕ). get_or (marks_of s n) k 0) z
      ∙ (get_or-append-add (each_below n (λ k. column_at s (state_start k + 5) ∷ [])) (replicate (64 - n) 0) (q - n) 0 ∙ get_or-replicate (64 - n) (q - n) 0 0 (omega arith)))

  numbers_wide : (k : ℕ) → length (numbers_in s (transition_start (column_at s 0) k)) ≡ 3
  unfolding numbers_in
  numbers_wide k = refl

  list_number : (k j : ℕ) → k < t → j < 3 → get_or list (3 * k + j) 0 ≡ get_or (numbers_in s (transition_start (column_at s 0) k)) j 0
  unfolding list transitions_of t
  list_number k j h b = each_elem 3 (λ i. numbers_in s (transition_start (column_at s 0) i)) numbers_wide (column_at s 10) k j rest h b

  transition_is : (k : ℕ) → k < t → transition_at list k ≡ transition_in s (transition_start n k)
  unfolding transition_in numbers_in n
  transition_is k h =
      λ j. record {
        from = (ap (λ (i : ℕ). get_or list i 0) z0 ∙ list_number k 0 h (omega arith)) j;
        letter = (ap (λ (i : ℕ). get_or list i 0) z1 ∙ list_number k 1 h (omega arith)) j;
        to = (ap (λ (i : ℕ). get_or list i 0) z2 ∙ list_number k 2 h (omega arith)) j;
      }
    where
      z0 : k * 3 ≡ 3 * k + 0
      z0 = omega arith

      z1 : k * 3 + 1 ≡ 3 * k + 1
      z1 = omega arith

      z2 : k * 3 + 2 ≡ 3 * k + 2
      z2 = omega arith

  -- the three parts of the sheet
  header_part : filled (drop 0 s) ≡ header_line (machine_of s) ++ filled (drop 16 s)
  unfolding header_line machine_of
  header_part = line_filled (column_at s 0 ∷ column_at s 5 ∷ column_at s 10 ∷ []) s 0 sound.header.line.long each sound.header.line.ends
    where
      each : (c : ℕ) → c < 3 → (column_at s (0 + c * 5) ≡ get_or (column_at s 0 ∷ column_at s 5 ∷ column_at s 10 ∷ []) c 0) × (column_at s (0 + c * 5) ≡ no_number → ⊥)
      each zero h = (refl, sound.header.line.numbers 0 h)
      each (suc zero) h = (refl, sound.header.line.numbers 1 h)
      each (suc (suc zero)) h = (refl, sound.header.line.numbers 2 h)
      each (suc (suc (suc c))) h = absurd (omega arith)

  state_part : (q : ℕ) → q < n → filled (drop (16 + 11 * q) s) ≡ state_line (marks_of s n) q ++ filled (drop (16 + 11 * q + 11) s)
  unfolding state_line
  state_part q h =
      line_filled (q ∷ mark_of (marks_of s n) q ∷ []) s (state_start q) (state_good q h).line.long each (state_good q h).line.ends
      ∙ ap (λ (k : ℕ). state_line (marks_of s n) q ++ filled (drop k s)) z
    where
      z : state_start q + 2 * 5 + 1 ≡ 16 + 11 * q + 11
      z = omega arith

      each : (c : ℕ) → c < 2 → (column_at s (state_start q + c * 5) ≡ get_or (q ∷ mark_of (marks_of s n) q ∷ []) c 0) × (column_at s (state_start q + c * 5) ≡ no_number → ⊥)
      each zero b =
          let z : state_start q + 0 * 5 ≡ state_start q = omega arith in
          (ap (λ (k : ℕ). column_at s k) z ∙ (state_good q h).number, (state_good q h).line.numbers 0 b)
      each (suc zero) b = (sym (mark_read q h), (state_good q h).line.numbers 1 b)
      each (suc (suc c)) b = absurd (omega arith)

  transition_part : (k : ℕ) → k < t → filled (drop (16 + 11 * n + 16 * k) s) ≡ transition_line list k ++ filled (drop (16 + 11 * n + 16 * k + 16) s)
  unfolding transition_line
  transition_part k h =
      line_filled (u.from ∷ u.letter ∷ u.to ∷ []) s (transition_start n k) (transition_good k h).line.long (λ c b. each c b) (transition_good k h).line.ends
      ∙ (ap (λ (k : ℕ). line_of 5 (u.from ∷ u.letter ∷ u.to ∷ []) ++ filled (drop k s)) z
      ∙ ap (λ (v : Transition). line_of 5 (v.from ∷ v.letter ∷ v.to ∷ []) ++ filled (drop (16 + 11 * n + 16 * k + 16) s)) (sym (transition_is k h)))
    where
      z : transition_start n k + 3 * 5 + 1 ≡ 16 + 11 * n + 16 * k + 16
      z = omega arith

      u : Transition
      u = transition_in s (transition_start n k)

      each : (c : ℕ) → c < 3 → (column_at s (transition_start n k + c * 5) ≡ get_or (u.from ∷ u.letter ∷ u.to ∷ []) c 0) × (column_at s (transition_start n k + c * 5) ≡ no_number → ⊥)
      each = parts s (transition_start n k) (transition_good k h).line

  sheet_filled : sheet_of (machine_of s) list ≡ filled s
  unfolding sheet_of machine_of n t
  sheet_filled =
      sym (header_part
      ∙ ap (λ (x : List ℕ). header_line (machine_of s) ++ x)
      (each_from 11 16 (λ k. filled (drop k s)) (state_line (marks_of s (column_at s 0))) (column_at s 0) state_part
      ∙ ap (λ (x : List ℕ). each_below (column_at s 0) (state_line (marks_of s (column_at s 0))) ++ x)
      (each_from 16 (16 + 11 * column_at s 0) (λ k. filled (drop k s)) (transition_line list) (column_at s 10) transition_part
      ∙ (ap (λ (x : List ℕ). each_below (column_at s 10) (transition_line list) ++ x) nothing ∙ append-nil _))))
    where
      nothing : filled (drop (16 + 11 * column_at s 0 + 16 * column_at s 10) s) ≡ []
      nothing = unfold filled in ap filled (drop_of_length-le s sound.ends)

  -- the table that was read obeys the rules
  marks_wide : length (marks_of s n) ≡ 64
  unfolding marks_of
  marks_wide =
      let l = each_length 1 (λ k. column_at s (state_start k + 5) ∷ []) (λ k. refl) n in
      let c = counted.few_states in
      omega (arith, length-append (each_below n (λ k. column_at s (state_start k + 5) ∷ [])) (replicate (64 - n) 0), length-replicate {A = ℕ} (64 - n) 0)

  sheet_rules : Tested (machine_of s) list
  unfolding machine_of n t list transitions_of
  sheet_rules =
      record {
        counts = counted;
        long =
            let l = each_length 3 (λ i. numbers_in s (transition_start (column_at s 0) i)) numbers_wide (column_at s 10) in
            omega (arith, length-append (each_below (column_at s 10) (λ i. numbers_in s (transition_start (column_at s 0) i))) rest);
        marks = λ q h. mark q h (dec_lt q (column_at s 0));
        transitions = transition;
      }
    where
      M : List ℕ
      M = marks_of s (column_at s 0)

      mark : (q : ℕ) → q < 64 → Dec (q < column_at s 0) → good_mark (machine_of s) q ≡ true
      mark q h (yes l) =
          ap (λ (z : Bool). cond z (good_flags (mark_of M q)) (eqb (mark_of M q) 0)) (lt-ltb q (column_at s 0) l)
          ∙ (ap good_flags (mark_read q l) ∙ (state_good q l).flags)
      mark q h (no d) =
          let g : column_at s 0 ≤ q = omega arith in
          ap (λ (z : Bool). cond z (good_flags (mark_of M q)) (eqb (mark_of M q) 0)) (le-ltb q (column_at s 0) g)
          ∙ eq-eqb _ _ (mark_past q h g)

      transition : (k : ℕ) → k < column_at s 10 → good_transition (column_at s 0) (column_at s 5) list k ≡ true
      transition k h =
          and_both_true (named (column_at s 0) (column_at s 5) (transition_at list k)) (eqb k 0 || precedes (transition_at list (k - 1)) (transition_at list k))
          (ap (λ (u : Transition). named (column_at s 0) (column_at s 5) u) (transition_is k h) ∙ (transition_good k h).names)
          (order (ℕ-zero k))
        where
          ℕ-zero : (j : ℕ) → (j ≡ 0) ⊎ (0 < j)
          ℕ-zero zero = inl refl
          ℕ-zero (suc j) = inr (omega arith)

          order : (k ≡ 0) ⊎ (0 < k) → (eqb k 0 || precedes (transition_at list (k - 1)) (transition_at list k)) ≡ true
          order (inl e) = ap (λ (z : Bool). z || precedes (transition_at list (k - 1)) (transition_at list k)) (eq-eqb k 0 e)
          order (inr l) =
              ap (λ (u : Transition). eqb k 0 || precedes u (transition_at list k)) (transition_is (k - 1) (omega arith))
              ∙ (ap (λ (u : Transition). eqb k 0 || precedes (transition_in s (transition_start (column_at s 0) (k - 1))) u) (transition_is k h) ∙ (transition_good k h).rises)

-- Public laws

module _ (s : List ℕ) (none : first_fault s ≡ 0) (rest : List ℕ) where
  pub sound_filled : sheet_of (machine_of s) (transitions_of s ++ rest) ≡ filled s
  unfolding list
  sound_filled = sheet_filled s rest ((no_fault s).0 none)

  pub sound_table : Table (machine_of s) (transitions_of s ++ rest)
  unfolding list n machine_of
  sound_table = record { obeys = (tested (machine_of s) (transitions_of s ++ rest)).1 (sheet_rules s rest ((no_fault s).0 none)); marked = marks_wide s rest ((no_fault s).0 none) }

pub sheet_iff_table : (s : List ℕ) → (first_fault s ≡ 0) ↔ ((m : Machine) × (list : List ℕ) × Table m list × (filled s ≡ sheet_of m list))
sheet_iff_table s = (
  λ none. (machine_of s, transitions_of s ++ [], sound_table s none [], sym (sound_filled s none [])),
  λ w. filled_sound w.0 w.1 w.2 s w.3,
)

-- A sheet is read as it is read once its blank columns are filled

pub good_iff_filled : (s : List ℕ) → (first_fault s ≡ 0) ↔ (first_fault (filled s) ≡ 0)
good_iff_filled s = (
  λ none. let w = (sheet_iff_table s).0 none in (sheet_iff_table (filled s)).1 (w.0, w.1, w.2, filled_again s ∙ w.3),
  λ none. let w = (sheet_iff_table (filled s)).0 none in (sheet_iff_table s).1 (w.0, w.1, w.2, sym (filled_again s) ∙ w.3),
)

module _ (s : List ℕ) (none : first_fault s ≡ 0) where
  same_machine_lem : machine_of (filled s) ≡ machine_of s
  same_machine_lem =
      let w = (sheet_iff_table s).0 none in
      read_machine w.0 w.1 w.2 (filled s) (filled_again s ∙ w.3) ∙ sym (read_machine w.0 w.1 w.2 s w.3)

  same_count : column_at (filled s) 10 ≡ column_at s 10
  unfolding machine_of
  same_count = ap (λ (m : Machine). m.transitions) same_machine_lem

  same_transitions : transitions_of (filled s) ≡ transitions_of s
  same_transitions =
      let w = (sheet_iff_table s).0 none in
      read_transitions w.0 w.1 w.2 (filled s) (filled_again s ∙ w.3) ∙ sym (read_transitions w.0 w.1 w.2 s w.3)

  same_refusal : (len : ℕ) → read_refusal (filled s) len ≡ read_refusal s len
  unfolding read_refusal
  same_refusal len =
      let of : ℕ → ℕ → Option Refusal = λ fault count. cond (eqb fault 0) (cond (leb (count * 3) len) None (Some (ShortList (count * 3)))) (Some (refusal fault)) in
      ap (λ (fault : ℕ). of fault (column_at (filled s) 10)) ((good_iff_filled s).0 none ∙ sym none) ∙ ap (of (first_fault s)) same_count

  pub filled_answer : (len : ℕ) → read_answer (filled s) len ≡ read_answer s len
  unfolding read_answer
  filled_answer len =
      let of : Option Refusal → Machine → Result Machine Refusal = λ o m. by_refusal o (Ok m) (λ f. Err f) in
      ap (λ (o : Option Refusal). of o (machine_of (filled s))) (same_refusal len) ∙ ap (of (read_refusal s len)) same_machine_lem

  pub filled_list : (entry : List ℕ) → read_list (filled s) entry ≡ read_list s entry
  unfolding read_list
  filled_list entry =
      let of : Option Refusal → List ℕ → ℕ → List ℕ = λ o l count. by_refusal o (l ++ drop (count * 3) entry) (λ f. entry) in
      ap (λ (o : Option Refusal). of o (transitions_of (filled s)) (column_at (filled s) 10)) (same_refusal (length entry))
      ∙ (ap (λ (l : List ℕ). of (read_refusal s (length entry)) l (column_at (filled s) 10)) same_transitions
      ∙ ap (of (read_refusal s (length entry)) (transitions_of s)) same_count)

-- The calls

module _ (m : Machine) (list : List ℕ) (t : Table m list) (s : List ℕ) (is : filled s ≡ sheet_of m list) (entry : List ℕ) (long : m.transitions * 3 ≤ length entry) where
  no_refusal : read_refusal s (length entry) ≡ None
  unfolding read_refusal
  no_refusal =
      let c : column_at s 10 ≡ m.transitions = read_count m list (ruled m list t) s is in
      ap (λ (b : Bool). cond b (cond (leb (column_at s 10 * 3) (length entry)) None (Some (ShortList (column_at s 10 * 3)))) (Some (refusal (first_fault s))))
      (eq-eqb _ _ (filled_sound m list t s is))
      ∙ ap (λ (b : Bool). cond b None (Some (ShortList (column_at s 10 * 3))))
      (le-leb (column_at s 10 * 3) (length entry) (omega arith))

  -- what read_sheet answers, and what it leaves in the list
  pub read_table : read_answer s (length entry) ≡ Ok m
  unfolding read_answer
  read_table =
      ap (λ (o : Option Refusal). by_refusal {A = Result Machine Refusal} o (Ok (machine_of s)) (λ f. Err f)) no_refusal
      ∙ ap (λ (x : Machine). Ok x) (read_machine m list t s is)

  pub list_table : read_list s entry ≡ take (m.transitions * 3) list ++ drop (m.transitions * 3) entry
  unfolding read_list
  list_table =
      let c : column_at s 10 ≡ m.transitions = read_count m list (ruled m list t) s is in
      ap (λ (o : Option Refusal). by_refusal o (transitions_of s ++ drop (column_at s 10 * 3) entry) (λ f. entry)) no_refusal
      ∙ (ap (λ (l : List ℕ). l ++ drop (column_at s 10 * 3) entry) (read_transitions m list t s is)
      ∙ ap (λ (k : ℕ). take (m.transitions * 3) list ++ drop (k * 3) entry) c)

module _ (s : List ℕ) (none : first_fault s ≡ 0) (rest entry : List ℕ) (long : length s ≤ length entry) where
  length_is : sheet_length (machine_of s) ≡ length s
  length_is = sym (sheet_length_lem (machine_of s) (transitions_of s ++ rest)) ∙ (ap length (sound_filled s none rest) ∙ filled_size s)

  fits : write_refusal (machine_of s) (transitions_of s ++ rest) (length entry) ≡ None
  unfolding write_refusal
  fits =
      ap (λ (b : Bool). cond b (cond (leb (sheet_length (machine_of s)) (length entry)) None (Some (ShortSheet (sheet_length (machine_of s))))) (Some BadTable))
      (sound_table s none rest).obeys
      ∙ ap (λ (b : Bool). cond b None (Some (ShortSheet (sheet_length (machine_of s)))))
      (le-leb (sheet_length (machine_of s)) (length entry) (subst (λ (k : ℕ). k ≤ length entry) (sym length_is) long))

  -- what write_sheet answers to the table of a sheet without fault, and what it leaves in the slice
  pub write_sound : write_answer (machine_of s) (transitions_of s ++ rest) (length entry) ≡ Ok (length s)
  unfolding write_answer
  write_sound =
      ap (λ (o : Option Refusal). by_refusal {A = Result ℕ Refusal} o (Ok (sheet_length (machine_of s))) (λ f. Err f)) fits ∙ ap (λ (k : ℕ). Ok k) length_is

  pub sheet_sound_written : write_sheet (machine_of s) (transitions_of s ++ rest) entry ≡ filled s ++ drop (length s) entry
  unfolding write_sheet
  sheet_sound_written =
      ap (λ (o : Option Refusal). by_refusal o (sheet_of (machine_of s) (transitions_of s ++ rest) ++ drop (sheet_length (machine_of s)) entry) (λ f. entry)) fits
      ∙ (ap (λ (l : List ℕ). l ++ drop (sheet_length (machine_of s)) entry) (sound_filled s none rest) ∙ ap (λ (k : ℕ). filled s ++ drop k entry) length_is)
