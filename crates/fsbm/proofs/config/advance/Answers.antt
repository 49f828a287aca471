use Rattle.fsbm.proofs.ConfigCases.{advanced_epsilon, advanced_letter}
use Rattle.fsbm.proofs.config.advance.Goals as goal

pub returns-then-x-eq0 : goal.returns-then-x-eq0
returns-then-x-eq0 c = advanced_epsilon c.args.p c.args.x c.if-x-eq0.true

pub overflow_add-result : goal.overflow_add-result
overflow_add-result c = record { fits = c.requires c.if-x-eq0.false }

pub returns : goal.returns
returns c = advanced_letter c.args.p c.args.x c.if-x-eq0.false
