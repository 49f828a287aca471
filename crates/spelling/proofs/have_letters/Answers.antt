use Rattle.std.proofs.Common.{refl, true, false}
use Rattle.basics.specs.Search.Loops.{in_fails, in_goes_on, in_done}
use Rattle.spelling.specs.Words.{has_letter}
use Rattle.spelling.proofs.WordCases.{letter_none, letter_some}
use Rattle.spelling.proofs.have_letters.Goals as goal

pub returns-then-letter-eq-NO_LETTER : goal.returns-then-letter-eq-NO_LETTER
returns-then-letter-eq-NO_LETTER g c =
    in_fails (has_letter (g.S.Spelling.letters c.args.spelling.now)) c.args.bytes.now c.loop-b.b-index 0 false c.loop-b.invariant c.loop-b-test.true (letter_none (g.S.Spelling.letters c.args.spelling.now) _ _ c.letter.ensures c.if-letter-eq-NO_LETTER.true) refl

pub loop-b-preserved : goal.loop-b-preserved
loop-b-preserved g c =
    in_goes_on (has_letter (g.S.Spelling.letters c.args.spelling.now)) c.args.bytes.now c.loop-b.b-index 0 true c.loop-b.invariant c.loop-b-test.true (letter_some (g.S.Spelling.letters c.args.spelling.now) _ _ c.letter.ensures c.if-letter-eq-NO_LETTER.false) refl

pub returns : goal.returns
returns g c = in_done (has_letter (g.S.Spelling.letters c.args.spelling.now)) c.args.bytes.now c.loop-b.b-index c.loop-b.invariant c.loop-b-test.false
