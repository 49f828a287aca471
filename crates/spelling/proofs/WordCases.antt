-- The cases of translation by any spelling.
--
-- letter_none, letter_some == the test of a byte's letter
-- letters_more, letters_done == the loop that writes letters
-- translate_says           == the answer by the fixed spelling, with its number and values
use Prim.Native.Nat.{ℕ, suc, ◌+◌, ◌<◌, ◌≤◌}
use mathlib.Core.Path.{◌≡◌, refl, sym, ap, ◌∙◌}
use mathlib.Core.List.{List, [], ◌∷◌, ◌++◌, map}
use mathlib.Core.Bool.{Bool, true, false, cond, not}
use native.Mathlib.Omega.{arith}
use native.Mathlib.Numerals.{add-one}
use lib.ListN.{length, take, drop, get_or, set, length-map}
use lib.Seq.{drop-cons, take-suc, take_all, set_at, length-take-le, append_snoc}
use lib.Dec.{leb}
use borrow.Author.Tests.{eq-eqb, ne_eqb}
use Rattle.fsbm.specs.Answers.{count_values}
use Rattle.std.specs.Prelude.{None, Some, Result}
use Rattle.basics.specs.Search.{all_in}
use Rattle.fsbm.specs.declared.answer.Refusal.{Refusal}
use Rattle.fsbm.specs.declared.answer.Refusal.TheVariants.{TooLong, AbsentLetter, ShortWord}
use Rattle.spelling.specs.Words.{longest_written, has_letter, word_refusal, answer_by, word_by}
use Rattle.spelling.specs.Spelling as fixed
use Rattle.spelling.specs.Spelling.{letter_of, translate_refusal, translate_answer, translate_word, translate_values}

module _ (f : ℕ → ℕ) where
  pub letter_none : (b v : ℕ) → v ≡ f b → v ≡ 0 → false ≡ has_letter f b
  letter_none b v e z = ap not (sym (eq-eqb (f b) 0 (sym e ∙ z)))

  pub letter_some : (b v : ℕ) → v ≡ f b → (v ≡ 0 → ⊥) → true ≡ has_letter f b
  letter_some b v e z = ap not (sym (ne_eqb (f b) 0 (λ (q : f b ≡ 0). z (e ∙ q))))

  map_append : (l r : List ℕ) → map f (l ++ r) ≡ map f l ++ map f r
  map_append [] r = refl
  map_append (x ∷ l) r = ap (λ (z : List ℕ). f x ∷ z) (map_append l r)

  pub letters_more : (bytes word entry : List ℕ) (i v : ℕ) → i < length bytes → length bytes ≤ length entry → word ≡ map f (take i bytes) ++ drop i entry
      → v ≡ f (get_or bytes i 0) → set word i v ≡ map f (take (i + 1) bytes) ++ drop (i + 1) entry
  letters_more bytes word entry i v h l e q =
      ap (λ (x : List ℕ). set x i v) (e ∙ ap (λ (x : List ℕ). P ++ x) (drop-cons entry i 0 (omega arith)))
      ∙ (set_at P (get_or entry i 0) (drop (suc i) entry) v i (length-map (take i bytes) f ∙ length-take-le i bytes (omega arith))
      ∙ (ap (λ (x : ℕ). P ++ x ∷ drop (suc i) entry) q
      ∙ (sym (append_snoc P (f (get_or bytes i 0)) (drop (suc i) entry))
      ∙ (ap (λ (x : List ℕ). x ++ drop (suc i) entry) (sym (map_append (take i bytes) (get_or bytes i 0 ∷ [])) ∙ ap (λ (x : List ℕ). map f x) (sym (take-suc bytes i 0 h)))
      ∙ ap (λ (k : ℕ). map f (take k bytes) ++ drop k entry) (sym (add-one i))))))
    where
      P : List ℕ
      P = map f (take i bytes)

  pub letters_done : (bytes word entry : List ℕ) (i : ℕ) → i ≤ length bytes → length bytes ≤ i → word ≡ map f (take i bytes) ++ drop i entry → word ≡ map f bytes ++ drop (length bytes) entry
  letters_done bytes word entry i h l e =
      let q : i ≡ length bytes = omega arith in
      e ∙ (ap (λ (x : List ℕ). map f x ++ drop i entry) (take_all i bytes l) ∙ ap (λ (k : ℕ). map f bytes ++ drop k entry) q)

pub translate_says : (bytes word : List ℕ) (r : Result ℕ Refusal) (after : List ℕ)
    → (r ≡ answer_by (word_refusal letter_of bytes (length word)) (length bytes)) × (after ≡ word_by (word_refusal letter_of bytes (length word)) letter_of bytes word)
    → (r ≡ translate_answer bytes (length word)) × (after ≡ translate_word bytes word) × (count_values r ≡ translate_values bytes (length word))
unfolding translate_answer translate_word translate_refusal translate_values word_refusal
translate_says bytes word r after (e, s) =
    (e, s, ap count_values e ∙ by (leb (length bytes) longest_written) (all_in fixed.has_letter bytes) (leb (length bytes) (length word)) (length bytes))
  where
    by : (f k l : Bool) (n : ℕ)
        → count_values (answer_by (cond f (cond k (cond l None (Some (ShortWord n))) (Some AbsentLetter)) (Some TooLong)) n)
        ≡ cond f
        (cond k (cond l (record { refusal = 0; needed = 0; count = n }) (record { refusal = 18; needed = n; count = 0 })) (record { refusal = 8; needed = 0; count = 0 }))
        (record { refusal = 9; needed = 0; count = 0 })
    by true true true n = refl
    by true true false n = refl
    by true false l n = refl
    by false k l n = refl
