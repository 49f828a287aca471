use Rattle.copies.specs.Stretches.Laws.{passed_begin, passed_other}
use Rattle.copies.proofs.CopyCases.{passed_still, passed_read}
use Rattle.copies.proofs.Stretch.passed.Goals as goal

pub returns-then-entry-eq-BEGIN_BUFFERING : goal.returns-then-entry-eq-BEGIN_BUFFERING
returns-then-entry-eq-BEGIN_BUFFERING c = passed_begin c.args.t.now.machine.transitions c.args.t.now.list.now c.args.self c.args.entry c.if-entry-eq-BEGIN_BUFFERING.true

pub returns-then-t-k : goal.returns-then-t-k
returns-then-t-k c = passed_other c.args.t.now.machine.transitions c.args.t.now.list.now c.args.self c.args.entry c.if-entry-eq-BEGIN_BUFFERING.false c.if-t-k.true

pub returns-then-s-eq0 : goal.returns-then-s-eq0
returns-then-s-eq0 c = passed_still c.args.t.now.machine.transitions c.args.t.now.list.now c.args.self c.args.entry c.if-entry-eq-BEGIN_BUFFERING.false c.if-t-k.false c.transition-s.result c.transition-s.ensures c.if-s-eq0.true

pub returns : goal.returns
returns c = passed_read c.args.t.now.machine.transitions c.args.t.now.list.now c.args.self c.args.entry c.if-entry-eq-BEGIN_BUFFERING.false c.if-t-k.false c.transition-s.result c.transition-s.ensures c.if-s-eq0.false
