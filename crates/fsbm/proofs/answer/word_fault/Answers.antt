use Rattle.std.proofs.Common.{sym, ◌∙◌, ap, refl}
use borrow.Author.Tests.{le-leb, lt-leb}
use Rattle.basics.specs.Search.Loops.{first, second}
use Rattle.fsbm.specs.Answers.{passed, refusal}
use Rattle.fsbm.proofs.answer.word_fault.Goals as goal

pub returns-then-longest-word : goal.returns-then-longest-word
unfolding refusal
returns-then-longest-word c = ap passed (second {r = 9} _ (lt-leb _ _ c.if-longest-word.true) refl)

pub returns-then-not-good_letters : goal.returns-then-not-good_letters
unfolding refusal
returns-then-not-good_letters c = ap passed (first _ (le-leb _ _ c.if-longest-word.false) (second {r = 8} _ (sym c.good_letters.ensures ∙ c.if-not-good_letters.true) refl))

pub returns : goal.returns
returns c = ap passed (first {r = 0} _ (le-leb _ _ c.if-longest-word.false) (first _ (sym c.good_letters.ensures ∙ c.if-not-good_letters.false) refl))
