-- The laws of specs/Answers.antt.
--
-- unless_refused, unless_done   == an answer by its number, in its two cases
-- unless_ok, unless_err         == what an answer says of its number
-- passed_ok, passed_err         == what a call that only tests says of its number
-- not_both                      == no answer is both a value and a refusal
-- handed_on                     == its refusal, handed on by a call that goes on after it
-- Numbered n                    == n is 0, or the number of the refusal that stands for it, which has no length
-- numbered_by, numbered_2, .., word_numbered, table_numbered == the numbers of tests, and of what is chosen between them, are such
-- input_refused, run_refused, slice_refused, none_refused == run_refusal in its four cases; run_numbers == its numbers
use Rattle.std.specs.Prelude.{ℕ, ◌≤◌, ◌<◌, ◌≡◌, ◌⊎◌, Bool, true, false, cond, List, length, leb, eqb, Option, None, Some, Result, Ok, Err, ⊤}
use Rattle.std.proofs.Math.Decide.{ℕ_discrete}
use Rattle.std.proofs.Math.Path.{refl}
use Rattle.std.proofs.Common.{eq-eqb, ne_eqb, le-leb, inl, inr, sym, ◌∙◌, ap}
use Rattle.std.proofs.lemmas.Bool.{lt-leb, true≢false}
use borrow.Author.Tests.{eqb-true, eqb-false}
use Rattle.basics.specs.Search.Laws.{true_or_false}
use Rattle.basics.specs.Search.Loops.{first, second}
use Rattle.fsbm.specs.Machine.{well_formed}
use Rattle.fsbm.specs.Answers.{number_of, needed_of, refusal, unless, passed, good_letters, word_fault, table_and_word, by_refusal, run_refusal}
use Rattle.fsbm.specs.declared.machine.Machine.{Machine}
use Rattle.fsbm.specs.declared.answer.Refusal.{Refusal}
use Rattle.fsbm.specs.declared.answer.Refusal.TheVariants.{NotAccepting}

pub unless_refused : {A : Type 0} (n : ℕ) (a : Result A Refusal) → (n ≡ 0 → ⊥) → Err (refusal n) ≡ unless n a
unless_refused n a h = second _ (ne_eqb n 0 h) refl

pub unless_done : {A : Type 0} (n : ℕ) (a : Result A Refusal) → n ≡ 0 → a ≡ unless n a
unless_done n a h = first _ (eq-eqb n 0 h) refl

module _ {A : Type 0} (n : ℕ) (a : A) where
  by_test : (b : Bool) → eqb n 0 ≡ b → unless n (Ok a) ≡ cond b (Ok a) (Err (refusal n))
  by_test b e = ap (λ (t : Bool). cond {A = Result A Refusal} t (Ok a) (Err (refusal n))) e

  pub unless_ok : {v : A} → Ok v ≡ unless n (Ok a) → (n ≡ 0) × (v ≡ a)
  unless_ok {v} e = at (true_or_false (eqb n 0))
    where
      at : (eqb n 0 ≡ true) ⊎ (eqb n 0 ≡ false) → (n ≡ 0) × (v ≡ a)
      at (inl t) = let h = e ∙ by_test true t in (eqb-true n 0 t, cc)
      at (inr f) = let h = e ∙ by_test false f in absurd (cc)

  pub unless_err : {f : Refusal} → Err f ≡ unless n (Ok a) → (n ≡ 0 → ⊥) × (f ≡ refusal n)
  unless_err {f} e = at (true_or_false (eqb n 0))
    where
      at : (eqb n 0 ≡ true) ⊎ (eqb n 0 ≡ false) → (n ≡ 0 → ⊥) × (f ≡ refusal n)
      at (inl t) = let h = e ∙ by_test true t in absurd (cc)
      at (inr g) = let h = e ∙ by_test false g in (eqb-false n 0 g, cc)

has_value : {A : Type 0} → Result A Refusal → Bool
has_value (Ok x) = true
has_value (Err f) = false

the_refusal : Refusal → Result ⊤ Refusal → Refusal
the_refusal d (Ok x) = d
the_refusal d (Err f) = f

module _ (n : ℕ) where
  pub passed_ok : Ok tt ≡ passed n → n ≡ 0
  unfolding has_value
  passed_ok e = at (true_or_false (eqb n 0))
    where
      at : (eqb n 0 ≡ true) ⊎ (eqb n 0 ≡ false) → n ≡ 0
      at (inl t) = eqb-true n 0 t
      at (inr f) = absurd (true≢false (ap has_value e ∙ ap (λ (b : Bool). has_value (cond b (Ok tt) (Err (refusal n)))) f))

  pub passed_err : (f : Refusal) → Err f ≡ passed n → (n ≡ 0 → ⊥) × (f ≡ refusal n)
  unfolding has_value the_refusal
  passed_err f e = at (true_or_false (eqb n 0))
    where
      at : (eqb n 0 ≡ true) ⊎ (eqb n 0 ≡ false) → (n ≡ 0 → ⊥) × (f ≡ refusal n)
      at (inl t) = absurd (true≢false (sym (ap has_value e ∙ ap (λ (b : Bool). has_value (cond b (Ok tt) (Err (refusal n)))) t)))
      at (inr g) = (eqb-false n 0 g, ap (the_refusal f) e ∙ ap (λ (b : Bool). the_refusal f (cond b (Ok tt) (Err (refusal n)))) g)

-- no answer is both a value and a refusal
pub not_both : {A : Type 0} {r : Result A Refusal} {a : A} {f : Refusal} → r ≡ Ok a → r ≡ Err f → ⊥
unfolding has_value
not_both {A} {r} {a} {f} x y = true≢false (ap has_value (sym x ∙ y))

-- a call that goes on after a call that only tests: f is what the test refuses by, and r what is handed on
pub handed_on : {A : Type 0} {r : Result A Refusal} {f : Refusal} (n : ℕ) → (x : Refusal) × (r ≡ Err x) × (x ≡ f) → Err f ≡ passed n → (a : Result A Refusal) → r ≡ unless n a
handed_on {A} {r} {f} n p e a = let q = passed_err n f e in p.1 ∙ (ap (λ (x : Refusal). Err x) (p.2 ∙ q.1) ∙ unless_refused n a q.0)

-- a number that is 0, or that of the refusal that stands for it
pub record Numbered (n : ℕ) : Type 0 where
  pub number : (n ≡ 0 → ⊥) → number_of (refusal n) ≡ n
  pub needed : (n ≡ 0 → ⊥) → needed_of (refusal n) ≡ 0

pub numbered_none : Numbered 0
numbered_none = record { number = λ h. absurd (h refl); needed = λ h. absurd (h refl) }

pub numbered_by : (b : Bool) (x y : ℕ) → Numbered x → Numbered y → Numbered (cond b x y)
numbered_by true x y h g = h
numbered_by false x y h g = g

pub numbered_2 : Numbered 2
unfolding refusal
numbered_2 = record { number = λ h. refl; needed = λ h. refl }

pub numbered_8 : Numbered 8
unfolding refusal
numbered_8 = record { number = λ h. refl; needed = λ h. refl }

pub numbered_9 : Numbered 9
unfolding refusal
numbered_9 = record { number = λ h. refl; needed = λ h. refl }

pub numbered_16 : Numbered 16
unfolding refusal
numbered_16 = record { number = λ h. refl; needed = λ h. refl }

pub numbered_1 : Numbered 1
unfolding refusal
numbered_1 = record { number = λ h. refl; needed = λ h. refl }

pub numbered_3 : Numbered 3
unfolding refusal
numbered_3 = record { number = λ h. refl; needed = λ h. refl }

pub numbered_4 : Numbered 4
unfolding refusal
numbered_4 = record { number = λ h. refl; needed = λ h. refl }

pub numbered_5 : Numbered 5
unfolding refusal
numbered_5 = record { number = λ h. refl; needed = λ h. refl }

pub numbered_6 : Numbered 6
unfolding refusal
numbered_6 = record { number = λ h. refl; needed = λ h. refl }

pub numbered_7 : Numbered 7
unfolding refusal
numbered_7 = record { number = λ h. refl; needed = λ h. refl }

pub numbered_10 : Numbered 10
unfolding refusal
numbered_10 = record { number = λ h. refl; needed = λ h. refl }

pub numbered_11 : Numbered 11
unfolding refusal
numbered_11 = record { number = λ h. refl; needed = λ h. refl }

pub numbered_12 : Numbered 12
unfolding refusal
numbered_12 = record { number = λ h. refl; needed = λ h. refl }

pub numbered_13 : Numbered 13
unfolding refusal
numbered_13 = record { number = λ h. refl; needed = λ h. refl }

pub numbered_21 : Numbered 21
unfolding refusal
numbered_21 = record { number = λ h. refl; needed = λ h. refl }

pub numbered_22 : Numbered 22
unfolding refusal
numbered_22 = record { number = λ h. refl; needed = λ h. refl }

pub word_numbered : (longest letters : ℕ) (w : List ℕ) → Numbered (word_fault longest letters w)
word_numbered longest letters w = numbered_by (leb (length w) longest) _ 9 (numbered_by (good_letters letters w) 0 8 numbered_none numbered_8) numbered_9

pub table_numbered : (longest : ℕ) (m : Machine) (list w : List ℕ) → Numbered (table_and_word longest m list w)
unfolding table_and_word
table_numbered longest m list w = numbered_by (well_formed m list) _ 16 (word_numbered longest m.letters w) numbered_16

module _ (fault : ℕ) (accepts : Bool) (short : Refusal) (room : ℕ) where
  pub input_refused : (fault ≡ 0 → ⊥) → Some (refusal fault) ≡ run_refusal fault accepts short room
  unfolding run_refusal
  input_refused h = second _ (ne_eqb fault 0 h) refl

  module _ (good : fault ≡ 0) where
    pub run_refused : accepts ≡ false → Some NotAccepting ≡ run_refusal fault accepts short room
    unfolding run_refusal
    run_refused h = first _ (eq-eqb fault 0 good) (second _ h refl)

    module _ (a : accepts ≡ true) where
      pub slice_refused : room < needed_of short → Some short ≡ run_refusal fault accepts short room
      unfolding run_refusal
      slice_refused h = first _ (eq-eqb fault 0 good) (first _ a (second _ (lt-leb (needed_of short) room h) refl))

      pub none_refused : needed_of short ≤ room → None ≡ run_refusal fault accepts short room
      unfolding run_refusal
      none_refused h = first _ (eq-eqb fault 0 good) (first _ a (first _ (le-leb (needed_of short) room h) refl))

-- the numbers of run_refusal: g of the number and the length needed of a refusal, and a where there is none
pub run_numbers : {V : Type 0} (fault : ℕ) (accepts : Bool) (short : Refusal) (room : ℕ) (a : V) (g : ℕ → ℕ → V) → Numbered fault
    → by_refusal (run_refusal fault accepts short room) a (λ f. g (number_of f) (needed_of f))
    ≡ cond (eqb fault 0) (cond accepts (cond (leb (needed_of short) room) a (g (number_of short) (needed_of short))) (g 14 0)) (g fault 0)
unfolding run_refusal
run_numbers {V} fault accepts short room a g numbered = at (ℕ_discrete fault 0)
  where
    chosen : Option Refusal → V
    chosen o = by_refusal o a (λ f. g (number_of f) (needed_of f))

    tested : (b c : Bool) → chosen (cond b (cond c None (Some short)) (Some NotAccepting)) ≡ cond b (cond c a (g (number_of short) (needed_of short))) (g 14 0)
    tested false c = refl
    tested true false = refl
    tested true true = refl

    at : Dec (fault ≡ 0) → chosen (run_refusal fault accepts short room)
        ≡ cond (eqb fault 0) (cond accepts (cond (leb (needed_of short) room) a (g (number_of short) (needed_of short))) (g 14 0)) (g fault 0)
    at (yes e) = ap chosen (sym (first _ (eq-eqb fault 0 e) refl)) ∙ (tested accepts (leb (needed_of short) room) ∙ first _ (eq-eqb fault 0 e) refl)
    at (no d) =
        ap chosen (sym (second {r = Some (refusal fault)} _ (ne_eqb fault 0 d) refl))
        ∙ (ap (λ (n : ℕ). g n (needed_of (refusal fault))) (numbered.number d) ∙ (ap (g fault) (numbered.needed d) ∙ second _ (ne_eqb fault 0 d) refl))
