use Rattle.fsbm.specs.Rules.{rules as rules_of}
use Rattle.accepts.proofs.prepared.prepare.Goals as goal

pub kinds_of-kinds-requires : goal.kinds_of-kinds-requires
kinds_of-kinds-requires c = (rules_of c.args.m c.args.list.now c.requires.0).states_fit

pub prepare-requires : goal.prepare-requires
prepare-requires c = (c.requires.1, c.requires.2, c.kinds_of-kinds.ensures)

pub returns : goal.returns
returns c = record { good = c.requires.0; prepared = c.prepare.ensures.0; sets = c.kinds_of-kinds.ensures }
