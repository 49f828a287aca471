use Rattle.std.proofs.Common.{sym, ◌∙◌, ap, refl}
use Rattle.basics.specs.Search.Loops.{first, second}
use Rattle.fsbm.specs.Answers.{passed, refusal, table_and_word}
use Rattle.fsbm.proofs.answer.table_and_word.Goals as goal

pub returns-then-not-is_well_formed : goal.returns-then-not-is_well_formed
unfolding refusal table_and_word
returns-then-not-is_well_formed c = ap passed (second {r = 16} _ (sym c.is_well_formed.ensures ∙ c.if-not-is_well_formed.true) refl)

pub returns : goal.returns
unfolding table_and_word
returns c = c.word_fault.ensures ∙ ap passed (first _ (sym c.is_well_formed.ensures ∙ c.if-not-is_well_formed.false) refl)
