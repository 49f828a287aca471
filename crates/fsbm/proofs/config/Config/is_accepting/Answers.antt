use mathlib.Core.Path.{refl, sym, ap, ◌∙◌}
use borrow.Author.Tests.{eq-eqb, ne_eqb}
use Rattle.fsbm.specs.Moves.{accepts, is_normal}
use Rattle.basics.specs.Search.Loops.{pass, stop}
use Rattle.fsbm.proofs.config.Config.is_accepting.Goals as goal

pub returns-then-not-is_final : goal.returns-then-not-is_final
unfolding accepts
returns-then-not-is_final c = stop _ (sym c.is_final.ensures ∙ c.if-not-is_final.true)

pub returns-in-Buffering : goal.returns-in-Buffering
unfolding accepts
returns-in-Buffering c = pass (sym c.is_final.ensures ∙ c.if-not-is_final.false) (stop _ (ap is_normal c.in-Buffering.is))

pub returns-in-Emptying : goal.returns-in-Emptying
unfolding accepts
returns-in-Emptying c = pass (sym c.is_final.ensures ∙ c.if-not-is_final.false) (stop _ (ap is_normal c.in-Emptying.is))

pub returns-then-self : goal.returns-then-self
unfolding accepts
returns-then-self c = pass (sym c.is_final.ensures ∙ c.if-not-is_final.false) (pass (ap is_normal c.in-Normal.is) (stop _ (ne_eqb _ _ c.if-self.true)))

pub returns : goal.returns
unfolding accepts
returns c = pass (sym c.is_final.ensures ∙ c.if-not-is_final.false) (pass (ap is_normal c.in-Normal.is) (pass (eq-eqb _ _ c.if-self.false) refl))
