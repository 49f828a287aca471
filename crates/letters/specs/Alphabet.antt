-- The letters of a customer, as a record: for each byte value its letter (document 02, change 2). The laws stand in specs/Alphabet/Laws.antt.
--
-- byte_values           == the number of byte values
-- max_lines             == the most lines of a text of letters, and so the most bytes that have letters
-- letter_in letters v   == the letter of byte v; 0 where it has none
-- largest_of n f        == the largest of f 0, .., f (n - 1); 0 where n is 0
-- gapless n f          == every number from 1 to the largest of them is one of them
-- lettered n f         == how many of them are not 0
-- good_alphabet a       == the record is one that some text of letters gives (refusal 16 where not)
use Rattle.std.specs.Prelude.{ℕ, zero, suc, List, Bool, cond, ◌&&◌, get_or, leb, ltb, eqb}
use Rattle.basics.specs.Search.{any_below, all_below}
use Rattle.letters.specs.declared.alphabet.Alphabet.{Alphabet}
pub mod Laws

abbrev pub byte_values : ℕ
byte_values = 256

abbrev pub max_lines : ℕ
max_lines = 250

abbrev pub letter_in : List ℕ → ℕ → ℕ
letter_in letters v = cond (ltb v byte_values) (get_or letters v 0) 0

unfoldable pub largest_of : ℕ → (ℕ → ℕ) → ℕ
largest_of zero f = 0
largest_of (suc n) f = cond (leb (largest_of n f) (f n)) (f n) (largest_of n f)

unfoldable pub gapless : ℕ → (ℕ → ℕ) → Bool
gapless n f = all_below (largest_of n f) (λ k. any_below n (λ i. eqb (f i) (suc k)))

unfoldable pub lettered : ℕ → (ℕ → ℕ) → ℕ
lettered zero f = 0
lettered (suc n) f = cond (eqb (f n) 0) (lettered n f) (suc (lettered n f))

-- at most as many bytes have letters as a text has lines, the count is the largest letter, and the letters run from 1 without a gap; that
-- these are the records that loading gives is a theorem about the calls (demands/specs/Letters.antt)
unfoldable pub good_alphabet : Alphabet → Bool
good_alphabet a =
    leb (lettered byte_values (letter_in a.letters)) max_lines
    && (eqb a.count (largest_of byte_values (letter_in a.letters)) && gapless byte_values (letter_in a.letters))
