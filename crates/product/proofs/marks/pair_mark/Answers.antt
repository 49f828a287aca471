use Rattle.std.proofs.Common.{sym, ◌∙◌}
use Rattle.basics.specs.Search.Loops.{pass, stop}
use Rattle.product.proofs.FaultCases.{pair_mark_is}
use Rattle.product.proofs.marks.pair_mark.Goals as goal
use Rattle.product.proofs.marks.pair_mark.Goals.{then-is_initial, else-is_initial, then-is_final, else-is_final}

pub returns : goal.returns
returns c =
    pair_mark_is c.args.first.now c.args.p c.args.second.now c.args.r
    (elim c.if-is_initial.branch [
      | then-is_initial w ↦ pass (sym c.is_initial.ensures ∙ w.if-is_initial.true) (w.initial'-is ∙ w.is_initial-initial.ensures)
      | else-is_initial w ↦ w.initial'-is ∙ (w.if-is_initial.false ∙ stop _ (sym c.is_initial.ensures ∙ w.if-is_initial.false))
    ])
    (elim c.if-is_final.branch [
      | then-is_final w ↦ pass (sym c.is_final.ensures ∙ w.if-is_final.true) (w.accepts-is ∙ w.is_final-accepts.ensures)
      | else-is_final w ↦ w.accepts-is ∙ (w.if-is_final.false ∙ stop _ (sym c.is_final.ensures ∙ w.if-is_final.false))
    ])
    c.is_buffering-buffering.ensures
    c.is_matching-matching.ensures
    c.from.ensures
    c.from-2.ensures
    c.from-3.ensures
    c.from-4.ensures
