use mathlib.Core.Path.{refl}
use Rattle.shortest.specs.Find.Laws.{finds_by}
use Rattle.shortest.proofs.traced.Traced.find_letter.Goals as goal

pub returns : goal.returns
returns c = finds_by _ _ _ _ _ _ c.find_into.ensures (λ k l e. e.good refl) (λ k l e h. e.bad refl h)
