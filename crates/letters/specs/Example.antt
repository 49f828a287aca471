-- The example file data/letters/a-to-z.txt, and the fixed table that letters had before a customer loaded them (document 01, "Written words"; document
-- 02, change 2). That translation with the file gives the results of the table is a theorem about the calls (demands/specs/Letters.antt).
--
-- example_text          == the bytes of the file: a to z are letters 1 to 26, hyphen is 27, apostrophe is 28, a line each
-- fixed_letter_of b      == the letter of a byte in the fixed table; 0 where it has none
-- fixed_answer bytes len, fixed_word bytes word == what translation answered by it, and what the word slice held afterwards
use Rattle.std.specs.Prelude.{ℕ, suc, ◌+◌, ◌-◌, List, [], ◌∷◌, ◌++◌, Result, cond, ◌&&◌, length, leb, eqb}
use Rattle.basics.specs.Each.{each_below}
use Rattle.columns.specs.Line.{line_of}
use Rattle.letters.specs.Translation.{word_refusal, answer_by, word_by}
use Rattle.fsbm.specs.declared.answer.Refusal.{Refusal}

-- bytes 97 to 122 are a to z, 45 is the hyphen, 39 the apostrophe
unfoldable pub example_text : List ℕ
example_text =
    each_below 26 (λ k. line_of 5 ((97 + k) ∷ suc k ∷ [])) ++ (line_of 5 (45 ∷ 27 ∷ []) ++ line_of 5 (39 ∷ 28 ∷ []))

unfoldable pub fixed_letter_of : ℕ → ℕ
fixed_letter_of b = cond (leb 97 b && leb b 122) (b - 96) (cond (eqb b 45) 27 (cond (eqb b 39) 28 0))

-- refusals 9, 8, 18 by the fixed table
unfoldable pub fixed_answer : List ℕ → ℕ → Result ℕ Refusal
fixed_answer bytes len = answer_by (word_refusal fixed_letter_of bytes len) (length bytes)

unfoldable pub fixed_word : List ℕ → List ℕ → List ℕ
fixed_word bytes word = word_by (word_refusal fixed_letter_of bytes (length word)) fixed_letter_of bytes word
