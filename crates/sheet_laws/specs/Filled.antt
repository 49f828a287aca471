-- A sheet and its blank columns (document 02, change 8). Where a column would begin, byte 10 is a line end, and any other byte begins a column of
-- five; fewer bytes than five at the end are no column. Nothing here speaks of how a sheet is read. The laws stand in specs/Filled/Laws.antt.
--
-- filled s    == the sheet s with each blank column written as 0, all other bytes as they are
-- has_blank s  == whether some column of s is blank
use Rattle.std.specs.Prelude.{ℕ, List, [], ◌∷◌, ◌++◌, Bool, false, cond, ◌||◌, eqb}
use Rattle.columns.specs.Column.{is_blank, filled_column}

unfoldable pub filled : List ℕ → List ℕ
filled [] = []
filled (a ∷ []) = a ∷ []
filled (a ∷ b ∷ []) = a ∷ b ∷ []
filled (a ∷ b ∷ c ∷ []) = a ∷ b ∷ c ∷ []
filled (a ∷ b ∷ c ∷ d ∷ []) = a ∷ b ∷ c ∷ d ∷ []
filled (a ∷ b ∷ c ∷ d ∷ e ∷ s) = cond (eqb a 10) (a ∷ filled (b ∷ c ∷ d ∷ e ∷ s)) (filled_column (a ∷ b ∷ c ∷ d ∷ e ∷ []) ++ filled s)

unfoldable pub has_blank : List ℕ → Bool
has_blank [] = false
has_blank (a ∷ []) = false
has_blank (a ∷ b ∷ []) = false
has_blank (a ∷ b ∷ c ∷ []) = false
has_blank (a ∷ b ∷ c ∷ d ∷ []) = false
has_blank (a ∷ b ∷ c ∷ d ∷ e ∷ s) = cond (eqb a 10) (has_blank (b ∷ c ∷ d ∷ e ∷ s)) (is_blank (a ∷ b ∷ c ∷ d ∷ e ∷ []) || has_blank s)
