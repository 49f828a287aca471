use mathlib.Core.Path.{refl, sym, ◌∙◌}
use Rattle.basics.specs.Search.Laws.{not_both}
use Rattle.shortest.specs.Find.Laws.{finds_by}
use Rattle.shortest.proofs.traced.Traced.find_store.Goals as goal

pub returns : goal.returns
returns c = finds_by _ _ _ _ _ _ c.find_into.ensures (λ k l e. sym e) (λ k l e h. not_both (e ∙ h) refl)
