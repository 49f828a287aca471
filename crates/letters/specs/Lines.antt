-- What the reader of a customer's letters promises of its lines.
--
-- kept x               == a letter as it is kept until all lines are read: itself, or 255 for one that no text without fault names
-- LettersKept text after == after has the letters of the lines as they are kept, at their bytes
-- LinesRead text r after == r refuses the first fault of the lines; where there is none, after has their letters
use Rattle.std.specs.Prelude.{ℕ, ◌<◌, ◌≡◌, List, Result, ⊤, cond, length, get_or, ltb, eqb}
use Rattle.fsbm.specs.Machine.{max_letters}
use Rattle.fsbm.specs.declared.answer.Refusal.{Refusal}
use Rattle.sheet.specs.Series.{first_of}
use Rattle.sheet.specs.Parts.{Read}
use Rattle.letters.specs.Alphabet.{byte_values}
use Rattle.letters.specs.Loading.{byte_at, letter_at, lines_begun, entry_fault, last_of}

unfoldable pub kept : ℕ → ℕ
kept x = cond (eqb x 0) 255 (cond (ltb max_letters x) 255 x)

pub record LettersKept (text after : List ℕ) : Type 0 where
  pub long : length after ≡ byte_values
  pub letters : (b : ℕ) → b < byte_values → get_or after b 0 ≡ last_of (byte_at text) (λ i. kept (letter_at text i)) (lines_begun text) b

abbrev pub LinesRead : List ℕ → Result ⊤ Refusal → List ℕ → Type 0
LinesRead text r after = Read (first_of (lines_begun text) (entry_fault text)) (λ _. LettersKept text after) r
