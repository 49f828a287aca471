-- The cases of translate.
--
-- translate_broken == the answer for a record that no loading gives
-- translate_says   == the answer for one that some loading gives, by that of the word
use Rattle.fsbm.specs.Answers.{count_values}
use Rattle.std.specs.Prelude.{ℕ, ◌≡◌, List, Option, None, Some, Result, Err, Bool, true, false, cond, length, leb}
use Rattle.std.proofs.Common.{refl, ap, ◌∙◌}
use Rattle.basics.specs.Search.{all_in}
use Rattle.basics.specs.Search.Loops.{first, second}
use Rattle.fsbm.specs.declared.answer.Refusal.{Refusal}
use Rattle.fsbm.specs.declared.answer.Refusal.TheVariants.{TooLong, AbsentLetter, ShortWord, BadTable}
use Rattle.letters.specs.Alphabet.{letter_in, good_alphabet}
use Rattle.letters.specs.Translation.{longest_written, has_letter, word_refusal, answer_by, word_by, translate_refusal, translate_answer, translate_word, translate_values}
use Rattle.letters.specs.declared.alphabet.Alphabet.{Alphabet}

module _ (a : Alphabet) (bytes word : List ℕ) where
  abbrev f : ℕ → ℕ
  f = letter_in a.letters

  says : (o : Option Refusal) (after : List ℕ) → o ≡ translate_refusal a bytes (length word) → after ≡ word_by o f bytes word
      → (answer_by o (length bytes) ≡ translate_answer a bytes (length word)) × (after ≡ translate_word a bytes word) × (count_values (answer_by o (length bytes)) ≡ translate_values a bytes (length word))
  unfolding translate_answer translate_word translate_refusal word_refusal translate_values
  says o after e s = (
    ap (λ (z : Option Refusal). answer_by z (length bytes)) e,
    s ∙ ap (λ (z : Option Refusal). word_by z f bytes word) e,
    ap (λ (z : Option Refusal). count_values (answer_by z (length bytes))) e ∙ by (good_alphabet a) (leb (length bytes) longest_written) (all_in (has_letter f) bytes) (leb (length bytes) (length word)) (length bytes),
  )
    where
      by : (g h k l : Bool) (n : ℕ)
          → count_values (answer_by (cond g (cond h (cond k (cond l None (Some (ShortWord n))) (Some AbsentLetter)) (Some TooLong)) (Some BadTable)) n)
          ≡ cond g
          (cond h
          (cond k (cond l (record { refusal = 0; needed = 0; count = n }) (record { refusal = 18; needed = n; count = 0 })) (record { refusal = 8; needed = 0; count = 0 }))
          (record { refusal = 9; needed = 0; count = 0 }))
          (record { refusal = 16; needed = 0; count = 0 })
      by true true true true n = refl
      by true true true false n = refl
      by true true false l n = refl
      by true false k l n = refl
      by false h k l n = refl

  pub translate_broken : good_alphabet a ≡ false
      → (Err BadTable ≡ translate_answer a bytes (length word)) × (word ≡ translate_word a bytes word) × (count_values (Err BadTable) ≡ translate_values a bytes (length word))
  unfolding translate_refusal
  translate_broken h = says (Some BadTable) word (second _ h refl) refl

  pub translate_says : good_alphabet a ≡ true → (r : Result ℕ Refusal) (after : List ℕ)
      → (r ≡ answer_by (word_refusal f bytes (length word)) (length bytes)) × (after ≡ word_by (word_refusal f bytes (length word)) f bytes word)
      → (r ≡ translate_answer a bytes (length word)) × (after ≡ translate_word a bytes word) × (count_values r ≡ translate_values a bytes (length word))
  unfolding translate_refusal
  translate_says h r after (e, s) =
      let all = says (word_refusal f bytes (length word)) after (first _ h refl) s in
      (e ∙ all.0, all.1, ap count_values e ∙ all.2)
