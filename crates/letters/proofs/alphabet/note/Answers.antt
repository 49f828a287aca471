use Rattle.std.proofs.Common.{sym, ◌∙◌, arith}
use Rattle.letters.specs.Alphabet.Laws.{letter_in_lem}
use Rattle.letters.proofs.AlphabetCases.{seen_none, seen_next}
use Rattle.letters.proofs.alphabet.note.Goals as goal

pub loop-letter-init : goal.loop-letter-init
loop-letter-init c = seen_none _ _ c.requires

pub loop-letter-preserved : goal.loop-letter-preserved
loop-letter-preserved c =
    seen_next _ _ c.loop-letter.letter-index _ c.loop-letter.invariant (c.from.ensures ∙ sym (letter_in_lem c.args.letters.now c.loop-letter.letter-index (omega arith))) (omega arith)
