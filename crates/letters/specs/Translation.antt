-- Written words to letters (document 01, "Written words"; document 02, change 2): each byte gets the letter that the customer's record has for it.
--
-- translate_refusal a bytes len == 16, then those of the word
-- translate_answer a bytes len == what translate answers to a word slice of this length
-- translate_word a bytes word == what the word slice holds afterwards
-- translate_values a bytes len == the number and values that the rules give
use Rattle.std.specs.Prelude.{ℕ, List, Option, Some, Result, cond, length, leb}
use Rattle.basics.specs.Search.{all_in}
use Rattle.fsbm.specs.Answers.{CountValues}
use Rattle.fsbm.specs.declared.answer.Refusal.{Refusal}
use Rattle.fsbm.specs.declared.answer.Refusal.TheVariants.{BadTable}
pub use Rattle.spelling.specs.Words.{longest_written, has_letter, written, answer_by, word_by}
unfoldable pub use Rattle.spelling.specs.Words.{word_refusal}
use Rattle.letters.specs.Alphabet.{letter_in, good_alphabet}
use Rattle.letters.specs.declared.alphabet.Alphabet.{Alphabet}

-- 16 the record is one that no loading gives
unfoldable pub translate_refusal : Alphabet → List ℕ → ℕ → Option Refusal
translate_refusal a bytes len = cond (good_alphabet a) (word_refusal (letter_in a.letters) bytes len) (Some BadTable)

unfoldable pub translate_answer : Alphabet → List ℕ → ℕ → Result ℕ Refusal
translate_answer a bytes len = answer_by (translate_refusal a bytes len) (length bytes)

unfoldable pub translate_word : Alphabet → List ℕ → List ℕ → List ℕ
translate_word a bytes word = word_by (translate_refusal a bytes (length word)) (letter_in a.letters) bytes word

unfoldable pub translate_values : Alphabet → List ℕ → ℕ → CountValues
translate_values a bytes len =
    cond (good_alphabet a)
    (cond (leb (length bytes) longest_written)
    (cond (all_in (has_letter (letter_in a.letters)) bytes)
    (cond (leb (length bytes) len) (record { refusal = 0; needed = 0; count = length bytes }) (record { refusal = 18; needed = length bytes; count = 0 }))
    (record { refusal = 8; needed = 0; count = 0 }))
    (record { refusal = 9; needed = 0; count = 0 }))
    (record { refusal = 16; needed = 0; count = 0 })
