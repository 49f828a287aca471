-- What a memo of the subset construction holds.
--
-- Holds G m        == what is kept in the memo is right in the graph (Kept)
-- SamePlaces a b   == the two are of one machine and stand in the same lent numbers
use Rattle.std.specs.Prelude.{◌≡◌}
use Rattle.images.specs.Graph.{Graph}
use Rattle.subsets.specs.Rows.{Kept}
use Rattle.subsets.specs.declared.Memo.{Memo}

abbrev pub Holds : Graph → Memo → Type 0
Holds G m = Kept G m.columns m.rows.now m.steps.now

pub record SamePlaces (a b : Memo) : Type 0 where
  pub columns : b.columns ≡ a.columns
  pub rows : b.rows.ghost_name ≡ a.rows.ghost_name
  pub steps : b.steps.ghost_name ≡ a.steps.ghost_name
