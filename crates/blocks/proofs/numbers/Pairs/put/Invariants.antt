use Rattle.blocks.specs.Numbers.{Lowers, Put}
use Rattle.blocks.specs.Numbers.Laws.{Left, Rest}
use Rattle.blocks.proofs.numbers.Pairs.put.Given as goal

abbrev pub invariant-loop-t : goal.invariant-loop-t
invariant-loop-t l = Rest l.got l.t-iterator.rest × Lowers (Put l.s (Left l.got l.t-iterator.rest) l.p) l.initial.self.numbers l.initial.self.marks l.self.numbers l.self.marks
