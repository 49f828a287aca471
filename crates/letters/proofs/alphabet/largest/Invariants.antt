use Rattle.std.proofs.Common.{◌≡◌}
use Rattle.letters.specs.Alphabet.{letter_in, largest_of}
use Rattle.letters.proofs.alphabet.largest.Given as goal

abbrev pub invariant-loop-letter : goal.invariant-loop-letter
invariant-loop-letter l = l.most ≡ largest_of l.letter-index (letter_in l.letters)
