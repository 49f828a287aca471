use Rattle.std.proofs.Common.{◌∙◌}
use Rattle.accepts.proofs.WordsCases.{ends_fall, ends_pass, ends_go_on, ends_done}
use Rattle.accepts.proofs.words.are_good.Goals as goal

pub returns-then-end-from : goal.returns-then-end-from
returns-then-end-from c = ends_fall c.args.letters c.loop-end.from c.args.ends.now c.loop-end.end-index c.loop-end-test.true c.if-end-from.true ∙ c.loop-end.invariant

pub returns-then-letters-end : goal.returns-then-letters-end
returns-then-letters-end c = ends_pass c.args.letters c.loop-end.from c.args.ends.now c.loop-end.end-index c.loop-end-test.true c.if-end-from.false c.if-letters-end.true ∙ c.loop-end.invariant

pub loop-end-preserved : goal.loop-end-preserved
loop-end-preserved c = ends_go_on c.args.letters c.loop-end.from c.args.ends.now c.loop-end.end-index c.loop-end-test.true c.if-end-from.false c.if-letters-end.false ∙ c.loop-end.invariant

pub returns : goal.returns
returns c = ends_done c.args.letters c.loop-end.from c.args.ends.now c.loop-end.end-index c.loop-end-test.false ∙ c.loop-end.invariant
