use mathlib.Core.Path.{sym, ◌∙◌}
use borrow.Author.Tests.{eq-eqb, ne_eqb}
use Rattle.fsbm.specs.Moves.{changes}
use Rattle.fsbm.proofs.ConfigCases.{goes_not, goes_yes}
use Rattle.basics.specs.Search.Loops.{pass, stop}
use Rattle.fsbm.proofs.config.Config.begin_buffering.Goals as goal

pub returns-then-entry-ne-BEGIN_BUFFERING : goal.returns-then-entry-ne-BEGIN_BUFFERING
unfolding changes
returns-then-entry-ne-BEGIN_BUFFERING c = goes_not _ c.stay.ensures (stop _ (ne_eqb _ _ c.if-entry-ne-BEGIN_BUFFERING.true))

pub returns-then-not-is_buffering : goal.returns-then-not-is_buffering
unfolding changes
returns-then-not-is_buffering c = goes_not _ c.stay-then-not-is_buffering.ensures (pass (eq-eqb _ _ c.if-entry-ne-BEGIN_BUFFERING.false) (stop _ (sym c.is_buffering.ensures ∙ c.if-not-is_buffering.true)))

pub returns-then-self : goal.returns-then-self
unfolding changes
returns-then-self c = goes_not _ c.stay-then-self.ensures (pass (eq-eqb _ _ c.if-entry-ne-BEGIN_BUFFERING.false) (pass (sym c.is_buffering.ensures ∙ c.if-not-is_buffering.false) (sym (ne_eqb _ _ c.if-self.true))))

pub returns : goal.returns
unfolding changes
returns c = goes_yes _ _ (pass (eq-eqb _ _ c.if-entry-ne-BEGIN_BUFFERING.false) (pass (sym c.is_buffering.ensures ∙ c.if-not-is_buffering.false) (sym (eq-eqb _ _ c.if-self.false))))
