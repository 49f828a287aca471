-- The definitions of specs/Line.antt and specs/Steps.antt case by case, over plain variables: what each way through a function gives.
--
-- refused_long                     == a line that is too long is refused by 9
-- fault_long, fault_part, fault_column, no_fault == the ways through read_word
-- Read line n word k == what read_word has after k columns of n; read_none, read_stops, read_more == where it starts, a column that holds no
--                       number, one column more
-- word_refused, word_taken         == what read_word leaves
-- line_written, line_length        == a printed line, written in parts
-- as_byte_good, as_byte_kept       == a number as a byte is a letter where it was one, and then is itself
use Prim.Native.Nat.{ℕ, ◌+◌, ◌/◌, ◌%◌, ◌≤◌, ◌<◌}
use mathlib.Core.Path.{◌≡◌, refl, sym, ◌∙◌, ap}
use mathlib.Core.Bool.{true, false, not}
use mathlib.Core.List.{List, [], ◌∷◌, ◌++◌}
use native.Mathlib.Omega.{arith}
use native.Mathlib.Numerals.{add-one}
use native.Mathlib.Decide.{dec_le}
use lib.ListN.{length, take, set, length-set, length-append}
use lib.Seq.{take-suc-set}
use lib.Dec.{leb}
use borrow.Author.Tests.{le-leb, lt-leb, eq-eqb, ne_eqb}
use Rattle.basics.specs.Search.{all_below}
use Rattle.basics.specs.Search.Laws.{all_below_false, and_both_true, and_false_right}
use Rattle.basics.specs.Search.Loops.{pass, stop, first, second}
use Rattle.basics.specs.Lists.{put}
use Rattle.basics.specs.Lists.Laws.{put_put, put_next}
use Rattle.std.specs.Prelude.{None, Some, Ok, Err}
use Rattle.columns.specs.Column.{no_number, some_number, column_of}
use Rattle.columns.specs.Column.Laws.{none_answered, number_answered}
use Rattle.fsbm.specs.Answers.{refusal, passed}
use Rattle.fsbm.specs.Answers.Laws.{unless_refused}
use Rattle.fsbm.specs.declared.answer.Refusal.{Refusal}
use Rattle.columns.specs.Column.Laws.{column_length}
use Rattle.fsbm.specs.Answers.{good_letter}
use Rattle.lines.specs.Line.{longest_line, letter_at, tabulate, holds_number, line_refusal, answer_line}
use Rattle.lines.specs.Steps.{as_byte, columns_fault, WordRead}

pub refused_long : (letters : ℕ) (line : List ℕ) → longest_line < length line → 9 ≡ line_refusal letters line
unfolding line_refusal
refused_long letters line h = second _ (lt-leb _ _ h) refl

module _ (line : List ℕ) where
  pub fault_long : longest_line < length line → 9 ≡ columns_fault line
  unfolding columns_fault
  fault_long h = second _ (lt-leb _ _ h) refl

  module _ (h : length line ≤ longest_line) where
    pub fault_part : (length line % 5 ≡ 0 → ⊥) → 2 ≡ columns_fault line
    unfolding columns_fault
    fault_part n = first _ (le-leb _ _ h) (second _ (sym (stop (all_below (length line / 5) (holds_number line)) (ne_eqb _ _ n))) refl)

    pub fault_column : length line % 5 ≡ 0 → all_below (length line / 5) (holds_number line) ≡ false → 2 ≡ columns_fault line
    unfolding columns_fault
    fault_column z n = first _ (le-leb _ _ h) (second _ (sym (pass (eq-eqb _ _ z) (sym n))) refl)

    pub no_fault : length line % 5 ≡ 0 → all_below (length line / 5) (holds_number line) ≡ true → 0 ≡ columns_fault line
    unfolding columns_fault
    no_fault z all = first _ (le-leb _ _ h) (first _ (sym (pass (eq-eqb _ _ z) (sym all))) refl)

-- what read_word has after k columns
pub record Read (line : List ℕ) (n : ℕ) (word : List ℕ) (k : ℕ) : Type 0 where
  pub within : k ≤ n
  pub numbers : all_below k (holds_number line) ≡ true
  pub word_so_far : take k word ≡ tabulate k (λ j. as_byte (letter_at line j))
  pub room : 255 ≤ length word

pub read_none : (line : List ℕ) (n : ℕ) (word : List ℕ) → 255 ≤ length word → Read line n word 0
unfolding all_below tabulate
read_none line n word room = record { within = omega arith; numbers = refl; word_so_far = refl; room = room }

module _ (line : List ℕ) (n : ℕ) (word : List ℕ) (k : ℕ) (sofar : Read line n word k) (inside : k < n) where
  pub read_stops : None ≡ some_number (letter_at line k) → all_below n (holds_number line) ≡ false
  read_stops e = (all_below_false (holds_number line) n).1 (k, inside, ap not (eq-eqb _ _ (none_answered (letter_at line k) e)))

  pub read_more : (v : ℕ) → Some v ≡ some_number (letter_at line k) → n ≤ 255 → (b : ℕ) → b ≡ as_byte v → Read line n (set word k b) (k + 1)
  unfolding all_below tabulate
  read_more v e fits b at_b =
      let at-v : v ≡ letter_at line k = (number_answered (letter_at line k) v e).0 in
      let h : v ≡ no_number → ⊥ = (number_answered (letter_at line k) v e).1 in
      record {
        within = omega arith;
        numbers = ap (λ (z : ℕ). all_below z (holds_number line)) (add-one k)
            ∙ and_both_true (holds_number line k) (all_below k (holds_number line)) (ap not (ne_eqb _ _ (λ d. h (at-v ∙ d)))) sofar.numbers;
        word_so_far = ap (λ (z : ℕ). take z (set word k b)) (add-one k)
            ∙ (take-suc-set word k b (omega (arith, sofar.room))
            ∙ (ap (λ (z : List ℕ). z ++ (b ∷ [])) sofar.word_so_far
            ∙ (ap (λ (z : ℕ). tabulate k (λ j. as_byte (letter_at line j)) ++ (z ∷ [])) (at_b ∙ ap as_byte at-v)
            ∙ ap (λ (z : ℕ). tabulate z (λ j. as_byte (letter_at line j))) (sym (add-one k)))));
        room = let d = length-set word k b in omega (arith, sofar.room);
      }

-- a refusal says nothing of the buffer
pub word_refused : (line : List ℕ) (r : ℕ) (word : List ℕ) → 0 < r → r ≡ columns_fault line → (f : Refusal) → f ≡ refusal r → WordRead line (Err f) word
word_refused line r word p e f is =
    let some : columns_fault line ≡ 0 → ⊥ = λ (z : columns_fault line ≡ 0). omega arith in
    record { refusal = ap (λ (x : Refusal). Err x) (is ∙ ap refusal e) ∙ unless_refused (columns_fault line) (Ok tt) some; word_read = λ z. absurd (some z) }

pub word_taken : (line word : List ℕ) (k : ℕ) → Read line (length line / 5) word k → length line / 5 ≤ k → length line ≤ longest_line → length line % 5 ≡ 0 → WordRead line (Ok tt) word
word_taken line word k sofar done h z =
    let e : k ≡ length line / 5 = let w = sofar.within in omega arith in
    record {
      refusal = ap passed (no_fault line h z (ap (λ (j : ℕ). all_below j (holds_number line)) (sym e) ∙ sofar.numbers));
      word_read = λ r. ap (λ (j : ℕ). take j word) (sym e) ∙ (sofar.word_so_far ∙ ap (λ (j : ℕ). tabulate j (λ i. as_byte (letter_at line i))) e);
    }

-- three columns and byte 10, written one after the other
pub line_written : (at : ℕ) (l : List ℕ) (n a r : ℕ) (o₁ o₂ o₃ : List ℕ) → at + 16 ≤ length l
    → o₁ ≡ put at l (column_of 5 n) → o₂ ≡ put (at + 5) o₁ (column_of 5 a) → o₃ ≡ put (at + 10) o₂ (column_of 5 r) → set o₃ (at + 15) 10 ≡ put at l (answer_line n a r)
unfolding answer_line
line_written at l n a r o₁ o₂ o₃ fits e₁ e₂ e₃ =
    ap (λ (z : List ℕ). set z (at + 15) 10) (third e₃)
    ∙ (ap (λ (z : ℕ). set (put at l (column_of 5 n ++ column_of 5 a ++ column_of 5 r)) (at + z) 10) (sym len₃)
    ∙ put_next at l (column_of 5 n ++ column_of 5 a ++ column_of 5 r) 10 (omega (arith, len₃)))
  where
    len₁ : length (column_of 5 n) ≡ 5
    len₁ = column_length 5 n

    len₂ : length (column_of 5 n ++ column_of 5 a) ≡ 10
    len₂ = length-append (column_of 5 n) (column_of 5 a) ∙ (let p = column_length 5 n in let q = column_length 5 a in omega arith)

    len₃ : length (column_of 5 n ++ column_of 5 a ++ column_of 5 r) ≡ 15
    len₃ = length-append (column_of 5 n ++ column_of 5 a) (column_of 5 r) ∙ (let q = column_length 5 r in omega (arith, len₂))

    second_put : o₂ ≡ put at l (column_of 5 n ++ column_of 5 a)
    second_put =
        e₂
        ∙ (ap (λ (z : List ℕ). put (at + 5) z (column_of 5 a)) e₁
        ∙ (ap (λ (z : ℕ). put (at + z) (put at l (column_of 5 n)) (column_of 5 a)) (sym len₁)
        ∙ put_put at (at + length (column_of 5 n)) l (column_of 5 n) (column_of 5 a) refl (let q = column_length 5 a in omega (arith, len₁))))

    third : o₃ ≡ put (at + 10) o₂ (column_of 5 r) → o₃ ≡ put at l (column_of 5 n ++ column_of 5 a ++ column_of 5 r)
    third e =
        e
        ∙ (ap (λ (z : List ℕ). put (at + 10) z (column_of 5 r)) second_put
        ∙ (ap (λ (z : ℕ). put (at + z) (put at l (column_of 5 n ++ column_of 5 a)) (column_of 5 r)) (sym len₂)
        ∙ put_put at (at + length (column_of 5 n ++ column_of 5 a)) l (column_of 5 n ++ column_of 5 a) (column_of 5 r) refl (let q = column_length 5 r in omega (arith, len₂))))

pub line_length : (n a r : ℕ) → length (answer_line n a r) ≡ 16
unfolding answer_line
line_length n a r =
    length-append (column_of 5 n ++ column_of 5 a ++ column_of 5 r) (10 ∷ [])
    ∙ (let p = length-append (column_of 5 n ++ column_of 5 a) (column_of 5 r) in
    let q = length-append (column_of 5 n) (column_of 5 a) in
    let x = column_length 5 n in let y = column_length 5 a in let z = column_length 5 r in omega arith)

module _ (letters : ℕ) (few : letters ≤ 250) where
  pub as_byte_kept : (v : ℕ) → v ≤ letters → as_byte v ≡ v
  as_byte_kept v h = sym (first _ (le-leb v 255 (omega arith)) refl)

  pub as_byte_good : (v : ℕ) → good_letter letters (as_byte v) ≡ good_letter letters v
  as_byte_good v = at (dec_le v 255)
    where
      at : Dec (v ≤ 255) → good_letter letters (as_byte v) ≡ good_letter letters v
      at (yes h) = ap (good_letter letters) (sym (first {r = v} {x = v} 0 (le-leb v 255 h) refl))
      at (no h) = ap (good_letter letters) (sym (second {r = 0} {y = 0} v (lt-leb v 255 (omega arith)) refl)) ∙ sym (and_false_right (leb 1 v) (leb v letters) (lt-leb v letters (omega arith)))
