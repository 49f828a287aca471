use Rattle.product.proofs.WriteCases.{letter_start, letter_room, letter_next, letter_end}
use Rattle.product.proofs.write.write_letter.Goals as goal

pub loop-u-init : goal.loop-u-init
loop-u-init c = letter_start c.args.second_list.now c.args.span.start c.args.span.end c.args.from c.args.letter c.args.base c.args.list.now c.args.k c.requires.lo_le_hi c.requires.lo_in_bounds

pub put-requires : goal.put-requires
put-requires c = letter_room c.args.second_list.now c.args.span.start c.args.span.end c.args.from c.args.letter c.args.base c.args.list.now c.args.k c.loop-u.invariant c.loop-u-test.true

pub loop-u-preserved : goal.loop-u-preserved
loop-u-preserved c = letter_next c.args.second_list.now c.args.span.start c.args.span.end c.args.from c.args.letter c.args.base c.args.list.now c.args.k c.loop-u.invariant c.loop-u-test.true c.transition_at-t.result c.transition_at-t.ensures _ c.put.ensures

pub returns : goal.returns
returns c = letter_end c.args.second_list.now c.args.span.start c.args.span.end c.args.from c.args.letter c.args.base c.args.list.now c.args.k c.loop-u.invariant c.loop-u-test.false
