use Rattle.stream.proofs.PieceCases.{byte_full, byte_end, byte_more}
use native.Mathlib.Omega.{arith}
use Rattle.stream.proofs.take_byte.Goals as goal

pub returns-then-p-ge-MOST_WORDS : goal.returns-then-p-ge-MOST_WORDS
returns-then-p-ge-MOST_WORDS c = record { byte_taken = byte_full c.args.m c.args.list.now c.args.b c.args.p c.args.line.now c.args.out.now c.if-p-ge-MOST_WORDS.true c.requires.lent.within; working = c.requires.ready.1 }

pub end_line-requires : goal.end_line-requires
end_line-requires c = record { ready = c.requires.ready; kept_in_bounds = (omega (arith, c.requires.lent.room, c.requires.lent.within), omega (arith, c.if-p-ge-MOST_WORDS.false), omega (arith, c.requires.lent.space)) }

pub returns-then-b-eq10 : goal.returns-then-b-eq10
returns-then-b-eq10 c = record { byte_taken = byte_end c.args.m c.args.list.now c.args.b c.args.p c.args.line.now c.args.out.now c.if-p-ge-MOST_WORDS.false c.if-b-eq10.true c.end_line.result c.end_line.new.out c.end_line.ensures.value; working = c.end_line.ensures.working }

pub returns : goal.returns
returns c = record { byte_taken = byte_more c.args.m c.args.list.now c.args.b c.args.p c.args.line.now c.args.out.now c.requires.lent.room c.if-p-ge-MOST_WORDS.false c.if-b-eq10.false c.keep-kept.result c.keep-kept.new.line c.keep-kept.ensures; working = c.requires.ready.1 }
