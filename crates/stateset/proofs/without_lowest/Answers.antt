use borrow.Author.Rules.{rules}
use Rattle.stateset.specs.Set.Laws.{rest_is, rest_none}
use Rattle.stateset.proofs.without_lowest.Goals as goal

pub returns-then-set-eq0 : goal.returns-then-set-eq0
returns-then-set-eq0 c = rest_none c.args.set c.if-set-eq0.true

pub returns : goal.returns
returns c = rest_is c.args.set (search rules) (search rules)
