use native.Mathlib.Omega.{arith}
use mathlib.Core.Path.{sym, ap, ◌∙◌}
use Rattle.stateset.specs.Set.{width}
use Rattle.stateset.specs.Set.Laws.{in_lt, has_in}
use Rattle.fsbm.specs.declared.machine.Transition.{Transition}
use Rattle.least.specs.Turns.Laws.{entered_is}
use Rattle.least.proofs.turns.with_entered.Goals as goal

pub returns : goal.returns
returns c =
    let held = sym c.member.ensures ∙ c.if-not-member.false in
    entered_is _ _ _ _ (c.from-to.ensures ∙ ap (λ (t : Transition). t.to) c.transition-t.ensures) (in_lt {w = width} {x = c.args.h} {q = c.from-to.result} (omega (arith, c.ranges.h)) ((has_in _ _).0 held)) held c.add.ensures
