use Prim.Native.Nat.{ℕ}
use mathlib.Core.Path.{sym, subst, ap, ◌∙◌}
use Rattle.std.specs.Prelude.{Option, Some}
use Rattle.fsbm.specs.declared.machine.Transition.{Transition}
use Rattle.product.specs.Letters.{NextMove}
use Rattle.product.proofs.WriteCases.{next_end, next_jump}
use Rattle.product.proofs.write.next_move.Goals as goal

pub returns-in_err-b : goal.returns-in_err-b
returns-in_err-b c =
    subst (λ (o : Option ℕ). NextMove c.args.first.now.table.now.list.now c.args.letters.now c.args.i c.args.hi o) (sym c.from_residual.ensures)
    (next_end c.requires c.if-hi-i.false c.from-x.result (c.from-x.ensures ∙ ap (λ (z : Transition). z.letter) c.transition_at-t.ensures) c.in_err-b.ensures)

pub returns : goal.returns
returns c =
    subst (λ (r : ℕ). NextMove c.args.first.now.table.now.list.now c.args.letters.now c.args.i c.args.hi (Some r)) (sym c.from.ensures)
    (next_jump c.requires c.if-hi-i.false c.from-x.result (c.from-x.ensures ∙ ap (λ (z : Transition). z.letter) c.transition_at-t.ensures) c.in_ok-b.b c.in_ok-b.ensures c.if-b-x.false)
