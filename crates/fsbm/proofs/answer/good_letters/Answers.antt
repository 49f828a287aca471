use Rattle.basics.specs.Search.Loops.{in_fails, in_goes_on, in_done}
use Rattle.fsbm.specs.Answers.{good_letter}
use Rattle.fsbm.proofs.answer.good_letters.Goals as goal

pub returns-then-not-good_letter : goal.returns-then-not-good_letter
returns-then-not-good_letter c = in_fails (good_letter c.args.letters) c.args.word.now c.loop-x.x-index 0 c.good_letter.result c.loop-x.invariant c.loop-x-test.true c.good_letter.ensures c.if-not-good_letter.true

pub loop-x-preserved : goal.loop-x-preserved
loop-x-preserved c = in_goes_on (good_letter c.args.letters) c.args.word.now c.loop-x.x-index 0 c.good_letter.result c.loop-x.invariant c.loop-x-test.true c.good_letter.ensures c.if-not-good_letter.false

pub returns : goal.returns
returns c = in_done (good_letter c.args.letters) c.args.word.now c.loop-x.x-index c.loop-x.invariant c.loop-x-test.false
