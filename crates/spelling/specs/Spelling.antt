-- Written words (document 01, "Written words"): bytes to letters.
--
-- letter_of b               == the letter of a byte: a to z are 1 to 26, hyphen is 27, apostrophe is 28; 0 where it has none
-- has_letter b             == the byte has a letter
-- translate_refusal bytes len == 9, 8, 18 with the length needed, or none
-- translate_answer bytes len == what translate answers to a word slice of this length
-- translate_word bytes word == what the word slice holds afterwards
-- translate_values bytes len == the number and values that the rules give
use Rattle.std.specs.Prelude.{ℕ, ◌-◌, List, Option, Result, Bool, cond, ◌&&◌, length, leb, eqb}
use Rattle.basics.specs.Search.{all_in}
use Rattle.fsbm.specs.Answers.{CountValues}
use Rattle.fsbm.specs.declared.answer.Refusal.{Refusal}
pub use Rattle.spelling.specs.Words.{longest_written}
use Rattle.spelling.specs.Words.{word_refusal, answer_by, word_by}
use Rattle.spelling.specs.Words as words

-- bytes 97 to 122 are a to z, 45 is the hyphen, 39 the apostrophe
unfoldable pub letter_of : ℕ → ℕ
letter_of b = cond (leb 97 b && leb b 122) (b - 96) (cond (eqb b 45) 27 (cond (eqb b 39) 28 0))

abbrev pub has_letter : ℕ → Bool
has_letter b = words.has_letter letter_of b

unfoldable pub translate_refusal : List ℕ → ℕ → Option Refusal
translate_refusal bytes len = word_refusal letter_of bytes len

unfoldable pub translate_answer : List ℕ → ℕ → Result ℕ Refusal
translate_answer bytes len = answer_by (translate_refusal bytes len) (length bytes)

unfoldable pub translate_word : List ℕ → List ℕ → List ℕ
translate_word bytes word = word_by (translate_refusal bytes (length word)) letter_of bytes word

unfoldable pub translate_values : List ℕ → ℕ → CountValues
translate_values bytes len =
    cond (leb (length bytes) longest_written)
    (cond (all_in has_letter bytes)
    (cond (leb (length bytes) len) (record { refusal = 0; needed = 0; count = length bytes }) (record { refusal = 18; needed = length bytes; count = 0 }))
    (record { refusal = 8; needed = 0; count = 0 }))
    (record { refusal = 9; needed = 0; count = 0 })
