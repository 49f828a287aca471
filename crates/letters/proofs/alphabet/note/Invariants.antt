use Rattle.letters.specs.Alphabet.{letter_in}
use Rattle.letters.specs.Seen.{Seen}
use Rattle.letters.proofs.alphabet.note.Given as goal

abbrev pub invariant-loop-letter : goal.invariant-loop-letter
invariant-loop-letter l = Seen l.letter-index (letter_in l.letters) l.seen
