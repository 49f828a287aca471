use Rattle.stream.proofs.PieceCases.{end_full, end_empty, end_last}
use Rattle.stream.proofs.finish.Goals as goal

pub returns-then-held-ge-MOST_WORDS : goal.returns-then-held-ge-MOST_WORDS
returns-then-held-ge-MOST_WORDS c = end_full c.args.m c.args.list.now c.args.line.now c.args.out.now c.args.held c.if-held-ge-MOST_WORDS.true

pub returns-then-held-eq0 : goal.returns-then-held-eq0
returns-then-held-eq0 c = end_empty c.args.m c.args.list.now c.args.line.now c.args.out.now c.args.held c.if-held-ge-MOST_WORDS.false c.if-held-eq0.true

pub returns : goal.returns
returns c = end_last c.args.m c.args.list.now c.args.line.now c.args.out.now c.args.held c.requires.kept_in_bounds.0 c.if-held-ge-MOST_WORDS.false c.if-held-eq0.false c.end_line-last.result c.end_line-last.new.out c.end_line-last.ensures.value
