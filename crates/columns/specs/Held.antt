-- What one pass over a column, from its first byte on, holds after some of its bytes (document 02, change 4): told by these bytes alone, with no
-- word of a pass. Held is the code's type, held_next and held_number are what its two methods promise. How these go together, what is meant by what
-- is held, and that the number is that of specs/Column.antt, stands in specs/Held/Laws.antt.
--
-- unpadded l       == the bytes l without the spaces at their front
-- value_from v l    == the number whose digits are those of v and then the bytes l
-- held_digits l     == what is held after the bytes l, behind the spaces
-- held l           == what is held after the bytes l
-- held_next h b     == what is held after one byte more
-- so_far h          == the number so far; 0 where there are no digits
-- held_number h     == the number of a column that ends here; None where it holds none
-- NoColumn l       == no column begins with the bytes l
-- Says h l         == what h says of the bytes after which it is held
use Rattle.std.specs.Prelude.{ℕ, ◌+◌, ◌*◌, ◌-◌, ◌^◌, ◌<◌, ◌≡◌, Option, Some, None, List, [], ◌∷◌, ◌++◌, cond, length, replicate, eqb}
use Rattle.basics.specs.Search.{all_in}
use Rattle.columns.specs.Column.{blank_number, is_digit, column_of}
use Rattle.columns.specs.declared.Held.{Held}
use Rattle.columns.specs.declared.Held.TheVariants.{Blank, Nought, Digits, Broken}
pub mod Laws

unfoldable pub unpadded : List ℕ → List ℕ
unpadded [] = []
unpadded (b ∷ l) = cond (eqb b 32) (unpadded l) (b ∷ l)

unfoldable pub value_from : ℕ → List ℕ → ℕ
value_from v [] = v
value_from v (b ∷ l) = value_from (v * 10 + (b - 48)) l

-- nothing; a single 0; digits, the first of them not 0; anything else
unfoldable pub held_digits : List ℕ → Held
held_digits [] = Blank
held_digits (b ∷ l) =
    cond (all_in is_digit (b ∷ l)) (cond (eqb b 48) (cond (eqb (length l) 0) Nought Broken) (Digits (value_from 0 (b ∷ l)))) Broken

unfoldable pub held : List ℕ → Held
held l = held_digits (unpadded l)

unfoldable pub held_next : Held → ℕ → Held
held_next Blank b = cond (eqb b 32) Blank (cond (is_digit b) (cond (eqb b 48) Nought (Digits (b - 48))) Broken)
held_next Nought b = Broken
held_next (Digits v) b = cond (is_digit b) (Digits (v * 10 + (b - 48))) Broken
held_next Broken b = Broken

unfoldable pub so_far : Held → ℕ
so_far Blank = 0
so_far Nought = 0
so_far (Digits v) = v
so_far Broken = 0

abbrev pub held_number : Held → Option ℕ
held_number Blank = Some blank_number
held_number Nought = Some 0
held_number (Digits v) = Some v
held_number Broken = None

abbrev pub NoColumn : List ℕ → Type 0
NoColumn l = (w n : ℕ) (r : List ℕ) → n < 10 ^ w → column_of w n ≡ l ++ r → ⊥

-- only spaces so far; a single 0, which nothing may follow; the digits of v so far; no column begins so
unfoldable pub Says : Held → List ℕ → Type 0
Says Blank l = l ≡ replicate (length l) 32
Says Nought l = (0 < length l) × (l ≡ column_of (length l) 0) × ((b : ℕ) → NoColumn (l ++ (b ∷ [])))
Says (Digits v) l = (0 < v) × (v < 10 ^ length l) × (l ≡ column_of (length l) v)
Says Broken l = NoColumn l
