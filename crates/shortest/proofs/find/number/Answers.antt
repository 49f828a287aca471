use mathlib.Core.Path.{sym}
use Rattle.pieces.proofs.BlocksLaws.{cell_inside}
use Rattle.shortest.proofs.find.number.Goals as goal

pub returns : goal.returns
returns c = sym (cell_inside _ _ _ c.requires.0 c.requires.1)
