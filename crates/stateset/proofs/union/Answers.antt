use borrow.Author.Rules.{rules}
use Rattle.stateset.specs.Set.Laws.{union_is}
use Rattle.stateset.proofs.union.Goals as goal

pub returns : goal.returns
returns c = union_is c.args.a c.args.b (search rules) (search rules)
