use mathlib.Core.Path.{refl}
use Rattle.subsets.proofs.MemoCases.{kept_rowed}
use Rattle.subsets.proofs.Memo.with_row.Goals as goal

pub returns : goal.returns
returns c = (refl, (λ G k. kept_rowed c.row_for.ensures.0 c.row_for.ensures.1.columns k), c.row_for.ensures.1)
