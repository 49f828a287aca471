use Rattle.stream.proofs.PieceCases.{kept_full, kept_more}
use Rattle.stream.proofs.keep.Goals as goal

pub returns-then-line-kept : goal.returns-then-line-kept
returns-then-line-kept c = kept_full c.args.line.now c.args.kept c.args.b c.requires c.if-line-kept.true

pub returns : goal.returns
returns c = kept_more c.args.line.now c.args.kept c.args.b c.if-line-kept.false
