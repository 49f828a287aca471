use Rattle.std.proofs.Common.{ℕ, not, eqb, get_or, ◌+◌, ap, ◌∙◌, arith}
use Rattle.letters.specs.Alphabet.{letter_in}
use Rattle.letters.specs.Alphabet.Laws.{lettered_small}
use Rattle.letters.proofs.AlphabetCases.{counted, one_more, lettered_none, lettered_next}
use Rattle.letters.proofs.alphabet.with_letters.Goals as goal

pub loop-letter-init : goal.loop-letter-init
loop-letter-init c = lettered_none c.args.letters.now

pub overflow_add-count : goal.overflow_add-count
overflow_add-count c = omega (arith, lettered_small (letter_in c.args.letters.now) c.loop-letter.letter-index, c.loop-letter.invariant, c.from-count.ensures, one_more (not (eqb (get_or c.args.letters.now c.loop-letter.letter-index 0) 0)))

pub loop-letter-preserved : goal.loop-letter-preserved
loop-letter-preserved c =
    lettered_next c.args.letters.now c.loop-letter.letter-index c.loop-letter.count _ c.loop-letter-test.true c.loop-letter.invariant (ap (λ (n : ℕ). c.loop-letter.count + n) c.from-count.ensures ∙ counted _ _)
