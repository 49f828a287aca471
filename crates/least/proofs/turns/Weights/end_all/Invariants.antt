use Rattle.blocks.specs.Numbers.Laws.{Left, Rest}
use Rattle.least.specs.Falls.{Falls, CopyEnds}
use Rattle.least.proofs.turns.Weights.end_all.Given as goal

abbrev pub invariant-loop-z : goal.invariant-loop-z
invariant-loop-z l =
    Rest l.h l.z-iterator.rest × Falls (CopyEnds l.top l.b l.guess (Left l.h l.z-iterator.rest)) (CopyEnds l.top l.b l.guess (Left l.h l.z-iterator.rest)) l.initial.self.least l.got l.self.least l.all
