use mathlib.Core.Path.{refl}
use Rattle.subsets.proofs.MemoCases.{same_join, kept_rowed, kept_noted}
use Rattle.subsets.proofs.Memo.keep.Goals as goal

pub returns-in-None : goal.returns-in-None
returns-in-None c = (refl, (λ G k m. kept_rowed c.row_for.ensures.0 c.row_for.ensures.1.columns k), c.row_for.ensures.1)

pub returns-in-Some : goal.returns-in-Some
returns-in-Some c = (refl, (λ G k m. kept_noted c.note.ensures.0 c.note.ensures.1 c.note.ensures.2.columns (kept_rowed c.row_for.ensures.0 c.row_for.ensures.1.columns k) m), same_join c.row_for.ensures.1 c.note.ensures.2)
