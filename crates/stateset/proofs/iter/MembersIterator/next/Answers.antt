use Rattle.std.proofs.Common.{arith}
use Rattle.stateset.specs.Set.Laws.{drop_lowest, lowest_removed}
use Rattle.stateset.proofs.iter.MembersIterator.next.Goals as goal

pub returns-clause-goes : goal.returns-clause-goes
returns-clause-goes c =
    let less = drop_lowest c.args.self.now.rest c.lowest-p.result c.without_lowest-self.result (omega arith) (omega arith) c.lowest-p.ensures (lowest_removed c.lowest-p.ensures c.without_lowest-self.ensures).value in
    record { on = λ _. (tt, tt, less); keeps = tt; rests = λ _. tt }
