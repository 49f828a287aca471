-- Lines put into a list one after the other.
--
-- line_two, line_three == columns and the byte 10, put one by one, are the line
-- write_ill, write_short, write_long, write_says == the ways through write_sheet, and the number and values of its answer
use Prim.Native.Nat.{ℕ, ◌+◌, ◌*◌, ◌<◌, ◌≤◌}
use mathlib.Core.Path.{◌≡◌, refl, ap, ◌∙◌, subst}
use mathlib.Core.List.{List, [], ◌∷◌, ◌++◌, append_assoc}
use mathlib.Core.Bool.{Bool, true, false, cond}
use native.Mathlib.Omega.{arith}
use lib.ListN.{length, drop, set, length-append}
use lib.Dec.{leb}
use borrow.Author.Tests.{le-leb, lt-leb}
use Rattle.basics.specs.Each.{each_below}
use Rattle.basics.specs.Each.Laws.{each_length}
use Rattle.basics.specs.Lists.{put}
use Rattle.basics.specs.Lists.Laws.{put_more, put_zero}
use Rattle.columns.specs.Column.{column_of}
use Rattle.columns.specs.Line.{line_of}
use Rattle.columns.specs.Line.Laws.{columns_of, columns_none, columns_more, columns_end, line_length}
use Rattle.fsbm.specs.Machine.{mark_of, transition_at, well_formed}
use Rattle.fsbm.specs.Answers.{by_refusal, count_values}
use Rattle.fsbm.specs.Rules.{rules}
use Rattle.fsbm.specs.declared.machine.Machine.{Machine}
use Rattle.fsbm.specs.declared.machine.Transition.{Transition}
use Rattle.fsbm.specs.declared.answer.Refusal.{Refusal}
use Rattle.sheet.specs.Format.Laws.{state_wide, transition_wide}
use Rattle.fsbm.specs.declared.answer.Refusal.TheVariants.{BadTable, ShortSheet}
use Rattle.std.specs.Prelude.{Option, None, Some, Result, Ok, Err}
use Rattle.sheet.specs.Format.{Short, header_line, state_line, transition_line, sheet_length, sheet_of}
use Rattle.sheet.specs.Writing.{write_refusal, write_answer, write_sheet, write_values}

module _ (l l1 l2 : List ℕ) (at a b : ℕ) (first : l1 ≡ put at l (column_of 5 a)) (second : l2 ≡ put (at + 5) l1 (column_of 5 b)) where
  two_columns : at + 10 ≤ length l → l2 ≡ put at l (columns_of 5 (a ∷ b ∷ []))
  two_columns h =
      let one = columns_more 5 l at [] l at (columns_none 5 l at) (omega arith) a l1 first (omega arith) in
      columns_more 5 l at (a ∷ []) l1 (at + 5) one (omega arith) b l2 second (omega arith)

  pub line_two : at + 11 ≤ length l → set l2 (at + 10) 10 ≡ put at l (line_of 5 (a ∷ b ∷ []))
  line_two h = columns_end 5 l at (a ∷ b ∷ []) l2 (at + 10) (two_columns (omega arith)) (omega arith) (omega arith)

  pub line_three : (l3 : List ℕ) (d : ℕ) → l3 ≡ put (at + 10) l2 (column_of 5 d) → at + 16 ≤ length l → set l3 (at + 15) 10 ≡ put at l (line_of 5 (a ∷ b ∷ d ∷ []))
  line_three l3 d third h =
      let three = columns_more 5 l at (a ∷ b ∷ []) l2 (at + 10) (two_columns (omega arith)) (omega arith) d l3 third (omega arith) in
      columns_end 5 l at (a ∷ b ∷ d ∷ []) l3 (at + 15) three (omega arith) (omega arith)

pub length_two : (a b : ℕ) → length (line_of 5 (a ∷ b ∷ [])) ≡ 11
length_two a b = line_length 5 (a ∷ b ∷ [])

pub length_three : (a b d : ℕ) → length (line_of 5 (a ∷ b ∷ d ∷ [])) ≡ 16
length_three a b d = line_length 5 (a ∷ b ∷ d ∷ [])

-- what a table that obeys the rules says of its transitions
well_formed_short : (m : Machine) (list : List ℕ) → well_formed m list ≡ true → (k : ℕ) → k < m.transitions → Short (transition_at list k)
well_formed_short m list w k l =
    let r = rules m list w in
    (omega (arith, r.states_fit, r.from_below k l), omega (arith, r.letters_fit, r.letter_below k l), omega (arith, r.states_fit, r.to_below k l))

-- the pieces of the loops

pub state_piece : (marks : List ℕ) (q v : ℕ) → v ≡ mark_of marks q → line_of 5 (q ∷ v ∷ []) ≡ state_line marks q
unfolding state_line
state_piece marks q v e = ap (λ (x : ℕ). line_of 5 (q ∷ x ∷ [])) e

module _ (list : List ℕ) (k : ℕ) (t : Transition) (t_is : t ≡ transition_at list k) (a b d : ℕ) (a_is : a ≡ t.from) (b_is : b ≡ t.letter) (d_is : d ≡ t.to) where
  pub transition_piece : line_of 5 (a ∷ b ∷ d ∷ []) ≡ transition_line list k
  unfolding transition_line
  transition_piece =
      (λ j. line_of 5 (a_is j ∷ b_is j ∷ d_is j ∷ [])) ∙ ap (λ (u : Transition). line_of 5 (u.from ∷ u.letter ∷ u.to ∷ [])) t_is

  pub transition_short : (m : Machine) → well_formed m list ≡ true → k < m.transitions → (a < 100) × (b < 1000) × (d < 100)
  transition_short m w l =
      let (x, y, z) = well_formed_short m list w k l in
      let from = a_is ∙ ap (λ (u : Transition). u.from) t_is in
      let letter = b_is ∙ ap (λ (u : Transition). u.letter) t_is in
      let to = d_is ∙ ap (λ (u : Transition). u.to) t_is in
      (omega arith, omega arith, omega arith)

-- The answer

module _ (m : Machine) (list sheet : List ℕ) where
  -- what write_sheet answers, and what it leaves in the slice
  abbrev pub Leaves : Result ℕ Refusal → List ℕ → Type 0
  Leaves r after = (r ≡ write_answer m list (length sheet)) × (after ≡ write_sheet m list sheet)

  says : (o : Option Refusal) (n : ℕ) (after : List ℕ) → o ≡ write_refusal m list (length sheet) → n ≡ sheet_length m
      → after ≡ by_refusal o (sheet_of m list ++ drop (sheet_length m) sheet) (λ f. sheet) → Leaves (by_refusal o (Ok n) (λ f. Err f)) after
  unfolding write_answer write_sheet
  says o n after e q a = (
    (λ j. by_refusal (e j) (Ok (q j)) (λ f. Err f)),
    a ∙ ap (λ (x : Option Refusal). by_refusal x (sheet_of m list ++ drop (sheet_length m) sheet) (λ f. sheet)) e,
  )

  pub write_ill : well_formed m list ≡ false → Leaves (Err BadTable) sheet
  unfolding write_refusal
  write_ill w = says (Some BadTable) (sheet_length m) sheet (simp w) refl refl

  module _ (w : well_formed m list ≡ true) (n : ℕ) (q : n ≡ sheet_length m) where
    pub write_short : length sheet < n → Leaves (Err (ShortSheet n)) sheet
    unfolding write_refusal
    write_short h =
        let l : leb (sheet_length m) (length sheet) ≡ false = lt-leb _ _ (subst (λ (k : ℕ). length sheet < k) q h) in
        says (Some (ShortSheet n)) (sheet_length m) sheet (ap (λ (k : ℕ). Some (ShortSheet k)) q ∙ simp (w, l)) refl refl

    pub write_long : (after : List ℕ) → n ≤ length sheet → after ≡ sheet_of m list ++ drop (sheet_length m) sheet → Leaves (Ok n) after
    unfolding write_refusal
    write_long after h a =
        let l : leb (sheet_length m) (length sheet) ≡ true = le-leb _ _ (subst (λ (k : ℕ). k ≤ length sheet) q h) in
        says None n after (simp (w, l)) q a

  -- the answer and the slice, with the answer's number and values
  pub write_says : (r : Result ℕ Refusal) (after : List ℕ) → Leaves r after
      → (r ≡ write_answer m list (length sheet)) × (after ≡ write_sheet m list sheet) × (count_values r ≡ write_values m list (length sheet))
  unfolding write_answer write_refusal write_values
  write_says r after (a, s) = (a, s, ap count_values a ∙ at (well_formed m list) (leb (sheet_length m) (length sheet)) (sheet_length m))
    where
      at : (w l : Bool) (n : ℕ)
          → count_values (by_refusal (cond w (cond l None (Some (ShortSheet n))) (Some BadTable)) (Ok n) (λ f. Err f))
          ≡ cond w (cond l (record { refusal = 0; needed = 0; count = n }) (record { refusal = 19; needed = n; count = 0 })) (record { refusal = 16; needed = 0; count = 0 })
      at true true n = refl
      at true false n = refl
      at false l n = refl

  -- the three parts of a sheet, put one after the other
  pub sheet_put : (l1 l2 l3 : List ℕ) (start : ℕ) → l1 ≡ put 0 sheet (line_of 5 (m.states ∷ m.letters ∷ m.transitions ∷ []))
      → l2 ≡ put 16 l1 (each_below m.states (state_line m.marks)) → l3 ≡ put start l2 (each_below m.transitions (transition_line list))
      → start ≡ 16 + 11 * m.states → start + 16 * m.transitions ≤ length sheet → l3 ≡ sheet_of m list ++ drop (sheet_length m) sheet
  unfolding sheet_of header_line
  sheet_put l1 l2 l3 start e f g s h =
      let a = length_three m.states m.letters m.transitions in
      let b = each_length 11 (state_line m.marks) (state_wide m.marks) m.states in
      let d = each_length 16 (transition_line list) (transition_wide list) m.transitions in
      let n : length (A ++ B) ≡ 16 + 11 * m.states = omega (arith, length-append A B) in
      let o : length ((A ++ B) ++ C) ≡ sheet_length m = omega (arith, length-append (A ++ B) C) in
      let x : l2 ≡ put 0 sheet (A ++ B) = put_more sheet l1 l2 A B 0 16 e f (omega arith) (omega arith) in
      put_more sheet l2 l3 (A ++ B) C 0 start x g (omega arith) (omega arith)
      ∙ (put_zero sheet ((A ++ B) ++ C)
      ∙ (ap (λ (k : ℕ). ((A ++ B) ++ C) ++ drop k sheet) o ∙ ap (λ (l : List ℕ). l ++ drop (sheet_length m) sheet) (append_assoc A B C)))
    where
      A : List ℕ
      A = line_of 5 (m.states ∷ m.letters ∷ m.transitions ∷ [])

      B : List ℕ
      B = each_below m.states (state_line m.marks)

      C : List ℕ
      C = each_below m.transitions (transition_line list)
