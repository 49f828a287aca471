use Rattle.std.proofs.Common.{arith}
use Rattle.spelling.proofs.LetterTable.{letters, letter_rule}
use Rattle.spelling.proofs.FixedSpelling.letter.Goals as goal

pub returns : goal.returns
unfolding letters
returns c = rw c.from.ensures (letter_rule c.args.b (omega arith))
