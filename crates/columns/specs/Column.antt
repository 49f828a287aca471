-- How one column is read and written: a decimal number, right-justified, padded on the left with spaces, no leading zero but in 0
-- itself (document 01, "The sheet"). Everything that reads or writes columns cites these definitions and the laws in
-- specs/Column/Laws.antt; the width is the length of the list. A column of spaces alone is 0 (document 02, change 8). Else how a column is
-- read is defined here as it was before the code made one pass (change 4); what that pass holds stands in specs/Held.antt and is compared
-- with this by its law as_before.
--
-- widest_column       == the most bytes of a column that the code reads
-- no_number           == stands for a number where there is none
-- blank_number        == the number in a column of spaces alone
-- is_digit b          == whether the byte b is a digit
-- Pass               == what has been seen after some bytes of a column
-- next p b           == the same after one byte more
-- pass_from p l       == the same after the bytes l more
-- found p            == the number of a column that ends so
-- column_number l     == the number that the bytes l are, 0 where they are spaces alone; no_number where they are not a column
-- some_number n       == the number n as code answers it: None where n is no_number
-- digit_or q          == the last digit of q, or a space where q is 0
-- padded w q         == the digits of q at the end of w bytes, spaces before them; spaces alone where q is 0
-- column_of w n       == the column of w bytes that holds n
-- is_blank l          == whether the bytes l are spaces alone
-- filled_column l     == the column l as it is, or where it is blank the column of 0
use Rattle.std.specs.Prelude.{ℕ, zero, suc, ◌+◌, ◌*◌, ◌-◌, ◌/◌, ◌%◌, Option, Some, None, List, [], ◌∷◌, ◌++◌, Bool, cond, ◌&&◌, length, leb, eqb}
use Rattle.basics.specs.Search.{all_in}
pub mod Laws

abbrev pub widest_column : ℕ
widest_column = 10

-- more than any column of widest_column bytes holds
abbrev pub no_number : ℕ
no_number = 10000000000

-- who writes a column may leave its 0 out
abbrev pub blank_number : ℕ
blank_number = 0

-- bytes 48 to 57 are the digits 0 to 9, byte 32 is the space
abbrev pub is_digit : ℕ → Bool
is_digit b = leb 48 b && leb b 57

pub data Pass : Type 0 where
  -- spaces alone
  blank : Pass
  -- spaces and the digit 0, after which nothing may follow
  nought : Pass
  -- spaces and digits of this number, after which digits may follow
  digits : ℕ → Pass
  -- not the beginning of a column
  broken : Pass

unfoldable pub next : Pass → ℕ → Pass
next blank b = cond (eqb b 32) blank (cond (eqb b 48) nought (cond (is_digit b) (digits (b - 48)) broken))
next nought b = broken
next (digits v) b = cond (is_digit b) (digits (v * 10 + (b - 48))) broken
next broken b = broken

unfoldable pub pass_from : Pass → List ℕ → Pass
pass_from p [] = p
pass_from p (b ∷ l) = pass_from (next p b) l

-- what a pass has found at the column's end
unfoldable pub found : Pass → ℕ
found blank = blank_number
found nought = 0
found (digits v) = v
found broken = no_number

unfoldable pub column_number : List ℕ → ℕ
column_number l = found (pass_from blank l)

unfoldable pub some_number : ℕ → Option ℕ
some_number n = cond (eqb n no_number) None (Some n)

unfoldable pub digit_or : ℕ → ℕ
digit_or q = cond (eqb q 0) 32 (48 + q % 10)

unfoldable pub padded : ℕ → ℕ → List ℕ
padded zero q = []
padded (suc w) q = padded w (q / 10) ++ (digit_or q ∷ [])

-- the last digit is written in any case
unfoldable pub column_of : ℕ → ℕ → List ℕ
column_of zero n = []
column_of (suc w) n = padded w (n / 10) ++ ((48 + n % 10) ∷ [])

unfoldable pub is_blank : List ℕ → Bool
is_blank l = all_in (λ b. eqb b 32) l

unfoldable pub filled_column : List ℕ → List ℕ
filled_column l = cond (is_blank l) (column_of (length l) 0) l
