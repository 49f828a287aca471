use Prim.Native.Nat.{ℕ}
use mathlib.Core.Path.{refl, sym, ap, ◌∙◌}
use Rattle.basics.specs.Search.Laws.{not_both}
use Rattle.shortest.specs.Find.{normal_test}
use Rattle.shortest.specs.Find.Laws.{finds_by}
use Rattle.shortest.proofs.traced.Traced.find_normal.Goals as goal

pub returns : goal.returns
returns c =
    let same = λ (k : ℕ). ap (λ (w : ℕ). normal_test c.args.self.now.searched.now.table.machine.marks c.args.self.now.searched.now.table.list.now c.args.self.now.weights.now.least w k) c.cost-want.ensures in
    finds_by _ _ _ _ _ _ c.find_into.ensures (λ k l e. sym (e ∙ same k)) (λ k l e h. not_both (e ∙ (same k ∙ h)) refl)
