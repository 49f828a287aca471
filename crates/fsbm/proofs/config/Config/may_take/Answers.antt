use Rattle.fsbm.specs.Moves.{may_take}
use Rattle.basics.specs.Search.Loops.{pass, stop}
use borrow.Author.Tests.{eq-eqb, ne_eqb}
use mathlib.Core.Path.{sym, ◌∙◌}
use Rattle.fsbm.proofs.config.Config.may_take.Goals as goal

pub returns-then-t-self : goal.returns-then-t-self
unfolding may_take
returns-then-t-self c = stop _ (ne_eqb _ _ c.if-t-self.true)

pub returns-then-not-passes : goal.returns-then-not-passes
unfolding may_take
returns-then-not-passes c = pass (eq-eqb _ _ c.if-t-self.false) (stop _ (sym c.passes.ensures ∙ c.if-not-passes.true))

pub returns-then-not-reads_letter : goal.returns-then-not-reads_letter
unfolding may_take
returns-then-not-reads_letter c = pass (eq-eqb _ _ c.if-t-self.false) (pass (sym c.passes.ensures ∙ c.if-not-passes.false) (stop _ (sym c.reads_letter.ensures ∙ c.if-not-reads_letter.true)))

pub returns : goal.returns
unfolding may_take
returns c = pass (eq-eqb _ _ c.if-t-self.false) (pass (sym c.passes.ensures ∙ c.if-not-passes.false) (pass (sym c.reads_letter.ensures ∙ c.if-not-reads_letter.false) c.reads_stored.ensures))
