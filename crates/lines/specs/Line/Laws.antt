-- The laws of specs/Line.antt: a line's answer is the answer to the word that it holds, by accepts.
--
-- short_line    == a line whose columns hold numbers is short
-- line_refused  == a line is refused for its columns, or for its letters
-- turned_down   == the answer to a line whose columns do not hold numbers, or that is too long
-- line_answered == the answer to any other line is the answer to its word by accepts, also with numbers that are no letters replaced by
--                  others that are none
-- listed_by_accepts == the answer to such a line is the answer to its word by accepts
use Prim.Native.Nat.{ℕ, zero, suc, ◌/◌, ◌%◌, ◌≤◌, ◌<◌}
use Rattle.std.specs.Prelude.{◌≡◌, Bool, ◌&&◌, ◌⊎◌, length, leb, eqb}
use Rattle.std.proofs.Math.Path.{refl, sym, ap}
use Rattle.std.proofs.Common.{◌∙◌, inl, inr, arith, length-append, le-leb, leb-true, eq-eqb, ne_eqb}
use Rattle.std.proofs.Math.Bool.{true, false, cond, and_comm}
use mathlib.Core.List.{List, [], ◌∷◌, ◌++◌}
use Rattle.basics.specs.Search.{all_below, all_in}
use Rattle.basics.specs.Search.Laws.{true_or_false, and_true, all_below_true}
use Rattle.basics.specs.Search.Loops.{first, second}
use Rattle.fsbm.specs.Machine.{well_formed}
use Rattle.fsbm.specs.Accepted.{accepted}
use Rattle.fsbm.specs.Answers.{longest_recognized, good_letter, good_letters, table_and_word, number_of, refusal, passed, unless}
use Rattle.fsbm.specs.declared.machine.Machine.{Machine}
use Rattle.accepts.specs.Decision.{decision}
use Rattle.std.specs.Prelude.{Ok, Err}
use Rattle.fsbm.specs.declared.answer.Refusal.{Refusal}
use Rattle.fsbm.specs.Answers.Laws.{Numbered, numbered_none, numbered_by, numbered_2, numbered_9, passed_err}
use Rattle.lines.specs.Line.{longest_line, letter_at, tabulate, word_of, holds_number, holds_letter, line_refusal, line_answer}
use Rattle.lines.specs.Steps.{columns_fault, answer_of}
use Rattle.lines.specs.declared.Answer.{Answer}

tabulate_length : (n : ℕ) (f : ℕ → ℕ) → length (tabulate n f) ≡ n
unfolding tabulate
tabulate_length zero f = refl
tabulate_length (suc n) f = length-append (tabulate n f) (f n ∷ []) ∙ (let z = tabulate_length n f in omega arith)

module _ (p : ℕ → Bool) where
  all_more : (l : List ℕ) (x : ℕ) → all_in p (l ++ (x ∷ [])) ≡ (all_in p l && p x)
  unfolding all_in
  all_more [] x = and_comm (p x) true
  all_more (y ∷ l) x = at (p y) (all_more l x)
    where
      at : (b : Bool) → all_in p (l ++ (x ∷ [])) ≡ (all_in p l && p x) → (b && all_in p (l ++ (x ∷ []))) ≡ ((b && all_in p l) && p x)
      at true e = e
      at false e = refl

  all_tabulated : (n : ℕ) (f : ℕ → ℕ) → all_in p (tabulate n f) ≡ all_below n (λ k. p (f k))
  unfolding all_in tabulate all_below
  all_tabulated zero f = refl
  all_tabulated (suc n) f =
      all_more (tabulate n f) (f n) ∙ (and_comm (all_in p (tabulate n f)) (p (f n)) ∙ ap (λ (b : Bool). p (f n) && b) (all_tabulated n f))

all_same : (n : ℕ) (p q : ℕ → Bool) → ((k : ℕ) → p k ≡ q k) → all_below n p ≡ all_below n q
unfolding all_below
all_same zero p q e = refl
all_same (suc n) p q e = ap (λ (b : Bool). b && all_below n p) (e n) ∙ ap (λ (b : Bool). q n && b) (all_same n p q e)

tabulate_same : (n : ℕ) (f g : ℕ → ℕ) → ((k : ℕ) → k < n → f k ≡ g k) → tabulate n f ≡ tabulate n g
unfolding tabulate
tabulate_same zero f g e = refl
tabulate_same (suc n) f g e =
    ap (λ (l : List ℕ). l ++ (f n ∷ [])) (tabulate_same n f g (λ k h. e k (omega arith))) ∙ ap (λ (x : ℕ). tabulate n g ++ (x ∷ [])) (e n (omega arith))

pub short_line : (line : List ℕ) → columns_fault line ≡ 0 → length line ≤ longest_line
unfolding columns_fault
short_line line e = at (true_or_false (leb (length line) longest_line))
  where
    at : (leb (length line) longest_line ≡ true) ⊎ (leb (length line) longest_line ≡ false) → length line ≤ longest_line
    at (inl t) = leb-true _ _ t
    at (inr f) = absurd (let d = second {r = 9} _ f refl ∙ e in omega arith)

pub line_refused : (letters : ℕ) (line : List ℕ)
    → line_refusal letters line ≡ cond (eqb (columns_fault line) 0) (cond (all_below (length line / 5) (holds_letter letters line)) 0 8) (columns_fault line)
unfolding line_refusal columns_fault
line_refused letters line =
    by (leb (length line) longest_line) (eqb (length line % 5) 0 && all_below (length line / 5) (holds_number line)) (all_below (length line / 5) (holds_letter letters line))
  where
    by : (a b c : Bool) → ◌≡◌ {A = ℕ} (cond a (cond b (cond c 0 8) 2) 9) (cond (eqb (cond a (cond b 0 2) 9) 0) (cond c 0 8) (cond a (cond b 0 2) 9))
    by true true c = refl
    by true false c = refl
    by false b c = refl

-- what is printed for a word with a letter that is not there
letter_absent : answer_of (Err (refusal 8)) ≡ record { answer = 2; refusal = 8 }
unfolding refusal
letter_absent = refl

module _ (m : Machine) (list line : List ℕ) where
  answered_as : (r : ℕ) → r ≡ line_refusal m.letters line
      → cond (eqb r 0) (record { answer = cond (accepted m list (word_of line)) 1 0; refusal = 0 }) (record { answer = 2; refusal = r }) ≡ line_answer m list line
  unfolding line_answer
  answered_as r e =
      ap {B = Answer} (λ (z : ℕ). cond (eqb z 0) (record { answer = cond (accepted m list (word_of line)) 1 0; refusal = 0 }) (record { answer = 2; refusal = z })) e

  columns_numbered : Numbered (columns_fault line)
  unfolding columns_fault
  columns_numbered =
      numbered_by (leb (length line) longest_line) _ 9 (numbered_by (eqb (length line % 5) 0 && all_below (length line / 5) (holds_number line)) 0 2 numbered_none numbered_2) numbered_9

  pub turned_down : (f : Refusal) → Err f ≡ passed (columns_fault line) → answer_of (Err f) ≡ line_answer m list line
  turned_down f is =
      let h = passed_err (columns_fault line) f is in
      let r : number_of f ≡ columns_fault line = ap number_of h.1 ∙ columns_numbered.number h.0 in
      let t : eqb (number_of f) 0 ≡ false = ne_eqb (number_of f) 0 (λ (z : number_of f ≡ 0). h.0 (sym r ∙ z)) in
      second {r = record { answer = 2; refusal = number_of f }} _ t refl
      ∙ answered_as (number_of f) (second _ (ap (λ (z : ℕ). eqb z 0) (sym r) ∙ t) r ∙ sym (line_refused m.letters line))

  module _ (obeys : well_formed m list ≡ true) (numbers : columns_fault line ≡ 0) (f : ℕ → ℕ) (same : (v : ℕ) → good_letter m.letters (f v) ≡ good_letter m.letters v)
      (kept : (v : ℕ) → v ≤ m.letters → f v ≡ v) where
    abbrev word : List ℕ
    word = tabulate (length line / 5) (λ k. f (letter_at line k))

    few : length word ≤ longest_recognized
    few = let s = short_line line numbers in let n = tabulate_length (length line / 5) (λ k. f (letter_at line k)) in omega arith

    letters_are : good_letters m.letters word ≡ all_below (length line / 5) (holds_letter m.letters line)
    letters_are =
        all_tabulated (good_letter m.letters) (length line / 5) (λ k. f (letter_at line k))
        ∙ all_same (length line / 5) (λ k. good_letter m.letters (f (letter_at line k))) (holds_letter m.letters line) (λ k. same (letter_at line k))

    refusal_is : (b : Bool) → all_below (length line / 5) (holds_letter m.letters line) ≡ b → cond b 0 8 ≡ line_refusal m.letters line
    refusal_is b e = ap {B = ℕ} (λ (z : Bool). cond z 0 8) (sym e) ∙ (first _ (eq-eqb (columns_fault line) 0 numbers) refl ∙ sym (line_refused m.letters line))

    number_is : (b : Bool) → all_below (length line / 5) (holds_letter m.letters line) ≡ b → cond b 0 8 ≡ table_and_word longest_recognized m list word
    unfolding table_and_word
    number_is b e = first _ obeys (first _ (le-leb _ _ few) (ap {B = ℕ} (λ (z : Bool). cond z 0 8) (sym e ∙ sym letters_are)))

    decision_is : (b : Bool) → all_below (length line / 5) (holds_letter m.letters line) ≡ b
        → unless (cond b 0 8) (Ok (accepted m list word)) ≡ decision m list word
    unfolding decision
    decision_is b e = ap (λ (z : ℕ). unless z (Ok (accepted m list word))) (number_is b e)

    pub line_answered : answer_of (decision m list word) ≡ line_answer m list line
    unfolding word_of
    line_answered = at (all_below (length line / 5) (holds_letter m.letters line)) refl
      where
        whole : all_below (length line / 5) (holds_letter m.letters line) ≡ true → word ≡ word_of line
        whole t =
            tabulate_same (length line / 5) (λ k. f (letter_at line k)) (letter_at line)
            (λ k h. kept (letter_at line k) (leb-true _ _ (and_true (leb 1 (letter_at line k)) (leb (letter_at line k) m.letters) ((all_below_true (holds_letter m.letters line) (length line / 5)).0 t k h)).1))

        at : (b : Bool) → all_below (length line / 5) (holds_letter m.letters line) ≡ b → answer_of (decision m list word) ≡ line_answer m list line
        at true t =
            ap answer_of (sym (decision_is true t))
            ∙ (ap {B = Answer} (λ (w : List ℕ). record { answer = cond (accepted m list w) 1 0; refusal = 0 }) (whole t) ∙ answered_as 0 (refusal_is true t))
        at false t = ap answer_of (sym (decision_is false t)) ∙ (letter_absent ∙ answered_as 8 (refusal_is false t))

  pub listed_by_accepts : well_formed m list ≡ true → columns_fault line ≡ 0 → line_answer m list line ≡ answer_of (decision m list (word_of line))
  unfolding word_of
  listed_by_accepts obeys numbers = sym (line_answered obeys numbers (λ v. v) (λ v. refl) (λ v h. refl))
