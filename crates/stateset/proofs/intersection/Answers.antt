use borrow.Author.Rules.{rules}
use Rattle.stateset.specs.Set.Laws.{intersection_is}
use Rattle.stateset.proofs.intersection.Goals as goal

pub returns : goal.returns
returns c = intersection_is c.args.a c.args.b (search rules) (search rules)
