use Rattle.blocks.specs.Numbers.{Lowers}
use Rattle.blocks.specs.Numbers.Laws.{Left, Rest}
use Rattle.blocks.specs.Settling.{Begins}
use Rattle.blocks.proofs.block.begin_all.Given as goal

abbrev pub invariant-loop-q : goal.invariant-loop-q
invariant-loop-q l = Rest l.set l.q-iterator.rest × Lowers (Begins l.top l.guess (Left l.set l.q-iterator.rest) l.costs) l.initial.pairs.numbers l.initial.pairs.marks l.pairs.numbers l.pairs.marks
