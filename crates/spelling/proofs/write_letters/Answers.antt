use Rattle.std.proofs.Common.{arith}
use Rattle.spelling.proofs.WordCases.{letters_more, letters_done}
use Rattle.spelling.proofs.write_letters.Goals as goal

pub loop-i-preserved : goal.loop-i-preserved
loop-i-preserved g c = letters_more (g.S.Spelling.letters c.args.spelling.now) c.args.bytes.now c.loop-i.word c.args.word.now c.loop-i.i _ c.loop-i-test.true c.requires c.loop-i.invariant c.letter.ensures

pub returns : goal.returns
returns g c = letters_done (g.S.Spelling.letters c.args.spelling.now) c.args.bytes.now c.loop-i.word c.args.word.now c.loop-i.i (omega arith) c.loop-i-test.false c.loop-i.invariant
