-- What is held after the bytes of some beginnings of columns, and the number in some columns, by computation.
use Rattle.std.specs.Prelude.{◌≡◌, refl, [], ◌∷◌}
use Rattle.basics.specs.Search.{all_in}
use Rattle.columns.specs.Column.{no_number, next, pass_from, found, column_number, digit_or, padded, column_of, is_blank, filled_column}
use Rattle.columns.specs.Held.{unpadded, value_from, held_digits, held}
use Rattle.columns.specs.declared.Held.TheVariants.{Blank, Nought, Digits, Broken}

pub blanks : (held [] ≡ Blank) × (held (32 ∷ 32 ∷ 32 ∷ []) ≡ Blank)
unfolding held unpadded held_digits
blanks = (refl, refl)

-- "0", "  0", "12", " 305"
pub numbers : (held (48 ∷ []) ≡ Nought) × (held (32 ∷ 32 ∷ 48 ∷ []) ≡ Nought) × (held (49 ∷ 50 ∷ []) ≡ Digits 12) × (held (32 ∷ 51 ∷ 48 ∷ 53 ∷ []) ≡ Digits 305)
unfolding held unpadded held_digits value_from all_in
numbers = (refl, refl, refl, refl)

-- "07", "00", " 0 ", "12 ", "1 2", "/1", a line end
pub broken :
    (held (48 ∷ 55 ∷ []) ≡ Broken) × (held (48 ∷ 48 ∷ []) ≡ Broken) × (held (32 ∷ 48 ∷ 32 ∷ []) ≡ Broken) × (held (49 ∷ 50 ∷ 32 ∷ []) ≡ Broken)
    × (held (49 ∷ 32 ∷ 50 ∷ []) ≡ Broken)
    × (held (47 ∷ 49 ∷ []) ≡ Broken)
    × (held (10 ∷ []) ≡ Broken)
unfolding held unpadded held_digits value_from all_in
broken = (refl, refl, refl, refl, refl, refl, refl)

-- five spaces and ten are 0, as "    0" is; "   0 " is no column
pub zeros :
    (column_number (32 ∷ 32 ∷ 32 ∷ 32 ∷ 32 ∷ []) ≡ 0)
    × (column_number (32 ∷ 32 ∷ 32 ∷ 32 ∷ 32 ∷ 32 ∷ 32 ∷ 32 ∷ 32 ∷ 32 ∷ []) ≡ 0)
    × (column_number (32 ∷ 32 ∷ 32 ∷ 32 ∷ 48 ∷ []) ≡ 0)
    × (column_number (32 ∷ 32 ∷ 32 ∷ 48 ∷ 32 ∷ []) ≡ no_number)
unfolding column_number found pass_from next
zeros = (refl, refl, refl, refl)

-- five spaces are filled to "    0"; "   12" stays
pub filled :
    (filled_column (32 ∷ 32 ∷ 32 ∷ 32 ∷ 32 ∷ []) ≡ 32 ∷ 32 ∷ 32 ∷ 32 ∷ 48 ∷ []) × (filled_column (32 ∷ 32 ∷ 32 ∷ 49 ∷ 50 ∷ []) ≡ 32 ∷ 32 ∷ 32 ∷ 49 ∷ 50 ∷ [])
unfolding filled_column is_blank all_in column_of padded digit_or
filled = (refl, refl)
