use borrow.Author.Rules.{rules}
use Rattle.stateset.specs.Set.Laws.{without_is}
use Rattle.stateset.proofs.difference.Goals as goal

pub returns : goal.returns
returns c = without_is c.args.a c.args.b (search rules) (search rules)
