use mathlib.Core.Path.{sym, ◌∙◌}
use borrow.Author.Tests.{eq-eqb, ne_eqb}
use Rattle.fsbm.specs.Moves.{changes}
use Rattle.fsbm.proofs.ConfigCases.{goes_not, goes_yes}
use Rattle.basics.specs.Search.Loops.{pass, stop}
use Rattle.fsbm.proofs.config.Config.back_to_normal.Goals as goal

pub returns-then-entry-ne-BACK_TO_NORMAL : goal.returns-then-entry-ne-BACK_TO_NORMAL
unfolding changes
returns-then-entry-ne-BACK_TO_NORMAL c = goes_not _ c.stay.ensures (stop _ (ne_eqb _ _ c.if-entry-ne-BACK_TO_NORMAL.true))

pub returns-then-not-is_matching : goal.returns-then-not-is_matching
unfolding changes
returns-then-not-is_matching c = goes_not _ c.stay-then-not-is_matching.ensures (pass (eq-eqb _ _ c.if-entry-ne-BACK_TO_NORMAL.false) (stop _ (sym c.is_matching.ensures ∙ c.if-not-is_matching.true)))

pub returns-then-self : goal.returns-then-self
unfolding changes
returns-then-self c = goes_not _ c.stay-then-self.ensures (pass (eq-eqb _ _ c.if-entry-ne-BACK_TO_NORMAL.false) (pass (sym c.is_matching.ensures ∙ c.if-not-is_matching.false) (sym (ne_eqb _ _ c.if-self.true))))

pub returns : goal.returns
unfolding changes
returns c = goes_yes _ _ (pass (eq-eqb _ _ c.if-entry-ne-BACK_TO_NORMAL.false) (pass (sym c.is_matching.ensures ∙ c.if-not-is_matching.false) (sym (eq-eqb _ _ c.if-self.false))))
