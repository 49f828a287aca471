-- What is exported for the comparison with the reference alone.
--
-- column_or_none bytes == the number in a column of at most widest_column bytes; no_number where they are not a column, or are more
use Rattle.std.specs.Prelude.{ℕ, List, cond, length, leb}
use Rattle.columns.specs.Column.{widest_column, column_number, no_number}

unfoldable pub column_or_none : List ℕ → ℕ
column_or_none bytes = cond (leb (length bytes) widest_column) (column_number bytes) no_number
