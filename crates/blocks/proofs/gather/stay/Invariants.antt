use Rattle.blocks.specs.Gathered.{Adding, Stay}
use Rattle.blocks.specs.Numbers.Laws.{Left, Rest}
use Rattle.blocks.proofs.gather.stay.Given as goal

abbrev pub invariant-loop-t : goal.invariant-loop-t
invariant-loop-t l = Rest l.row.matching l.t-iterator.rest × Adding (Stay l.row.top l.b l.row.storing (Left l.row.matching l.t-iterator.rest)) l.initial.p 0 l.p l.got
