use Rattle.fsbm.proofs.AnswerCases.{table_good}
use Rattle.accepts.proofs.prepared.reach.Goals as goal

pub invariant_of-t : goal.invariant_of-t
invariant_of-t c = record { obeys = (table_good 255 c.args.m c.args.list.now c.args.word.now c.requires.0).0 }

pub prepare_for-requires : goal.prepare_for-requires
prepare_for-requires c = let (good, short, letters) = table_good 255 c.args.m c.args.list.now c.args.word.now c.requires.0 in (letters, c.requires.1, c.requires.2)

pub decide-requires : goal.decide-requires
decide-requires c = let (good, short, letters) = table_good 255 c.args.m c.args.list.now c.args.word.now c.requires.0 in (short, c.prepare_for.ensures, c.requires.3)

pub returns : goal.returns
returns c = (c.decide.ensures.0, c.decide.ensures.1, c.prepare_for.ensures)
