use Rattle.std.proofs.Common.{◌≡◌}
use Rattle.letters.specs.Alphabet.{letter_in, lettered}
use Rattle.letters.proofs.alphabet.with_letters.Given as goal

abbrev pub invariant-loop-letter : goal.invariant-loop-letter
invariant-loop-letter l = l.count ≡ lettered l.letter-index (letter_in l.letters)
