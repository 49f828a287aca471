-- Written words to letters by any spelling, where the letter of byte b is f b, and 0 where it has none.
--
-- longest_written         == the longest word that is translated
-- has_letter f b          == byte b has a letter
-- word_refusal f bytes len == 9, 8, 18 with the length needed, or none
-- written f bytes word    == the letters of the bytes at the front of the word
-- answer_by o n           == what is answered by the refusal o, if it is one: the number of letters where it is none
-- word_by o f bytes word  == what the word slice holds afterwards
use Rattle.std.specs.Prelude.{ℕ, List, ◌++◌, map, Option, None, Some, Result, Ok, Err, Bool, cond, not, length, drop, leb, eqb}
use Rattle.basics.specs.Search.{all_in}
use Rattle.fsbm.specs.Answers.{by_refusal}
use Rattle.fsbm.specs.declared.answer.Refusal.{Refusal}
use Rattle.fsbm.specs.declared.answer.Refusal.TheVariants.{TooLong, AbsentLetter, ShortWord}

abbrev pub longest_written : ℕ
longest_written = 255

abbrev pub has_letter : (ℕ → ℕ) → ℕ → Bool
has_letter f b = not (eqb (f b) 0)

-- 9 the word is too long, 8 it has a byte with no letter, 18 the slice is too short
unfoldable pub word_refusal : (ℕ → ℕ) → List ℕ → ℕ → Option Refusal
word_refusal f bytes len =
    cond (leb (length bytes) longest_written)
    (cond (all_in (has_letter f) bytes) (cond (leb (length bytes) len) None (Some (ShortWord (length bytes)))) (Some AbsentLetter))
    (Some TooLong)

abbrev pub written : (ℕ → ℕ) → List ℕ → List ℕ → List ℕ
written f bytes word = map f bytes ++ drop (length bytes) word

abbrev pub answer_by : Option Refusal → ℕ → Result ℕ Refusal
answer_by o n = by_refusal o (Ok n) (λ r. Err r)

abbrev pub word_by : Option Refusal → (ℕ → ℕ) → List ℕ → List ℕ → List ℕ
word_by o f bytes word = by_refusal o (written f bytes word) (λ r. word)
