use borrow.Author.Rules.{rules}
use Rattle.stateset.specs.Set.Laws.{lowest_is}
use Rattle.stateset.proofs.lowest.Goals as goal

pub returns : goal.returns
returns c = lowest_is c.args.set (search rules)
