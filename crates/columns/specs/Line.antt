-- A line of columns: numbers one after the other, each in a column of the same width, and the byte that ends the line (document 01,
-- "The sheet"; document 02, change 1). The laws stand in specs/Line/Laws.antt.
--
-- line_of w numbers   == each number in a column of w bytes, and byte 10
-- number_at w bytes k == the number in the column of w bytes that begins at byte k
use Rattle.std.specs.Prelude.{ℕ, List, [], ◌∷◌, ◌++◌, take, drop}
use Rattle.columns.specs.Column.{column_number, column_of}
pub mod Laws

unfoldable pub line_of : ℕ → List ℕ → List ℕ
line_of w [] = 10 ∷ []
line_of w (n ∷ l) = column_of w n ++ line_of w l

abbrev pub number_at : ℕ → List ℕ → ℕ → ℕ
number_at w bytes k = column_number (take w (drop k bytes))
