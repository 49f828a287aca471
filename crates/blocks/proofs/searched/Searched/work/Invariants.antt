use Prim.Native.Nat.{◌+◌, ◌*◌}
use Rattle.blocks.specs.Numbers.{total, marked}
use Rattle.blocks.specs.Settling.{WorkOn}
use Rattle.blocks.proofs.searched.Searched.work.Given as goal

abbrev pub invariant-loop-s : goal.invariant-loop-s
invariant-loop-s l = WorkOn l.self.table.machine l.self.table.list.now l.top l.initial.pairs.numbers l.initial.pairs.marks l.pairs.numbers l.pairs.marks

abbrev pub decreases-loop-s : goal.decreases-loop-s
decreases-loop-s l = 2 * total l.pairs.numbers + marked l.pairs.marks
