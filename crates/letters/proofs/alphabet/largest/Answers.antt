use Rattle.std.proofs.Common.{get_or, ◌∙◌}
use Rattle.letters.proofs.AlphabetCases.{greater, largest_none, largest_next}
use Rattle.letters.proofs.alphabet.largest.Goals as goal

pub loop-letter-init : goal.loop-letter-init
loop-letter-init c = largest_none c.args.letters.now

pub loop-letter-preserved : goal.loop-letter-preserved
loop-letter-preserved c =
    largest_next c.args.letters.now c.loop-letter.letter-index c.loop-letter.most _ c.loop-letter-test.true c.loop-letter.invariant (c.max-most.ensures ∙ greater c.loop-letter.most (get_or c.args.letters.now c.loop-letter.letter-index 0))
