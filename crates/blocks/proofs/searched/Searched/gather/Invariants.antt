use Prim.Native.Nat.{◌+◌}
use Rattle.blocks.specs.Gathered.{Adding, From}
use Rattle.blocks.specs.Numbers.Laws.{Left, Rest}
use Rattle.blocks.proofs.searched.Searched.gather.Given as goal

abbrev pub invariant-loop-t : goal.invariant-loop-t
invariant-loop-t l =
    Rest l.held l.t-iterator.rest
    × Adding (From l.self.table.list.now l.self.index.now l.row.top (l.self.table.machine.letters + 1) l.x l.w l.self.kinds.matching l.b l.row.storing (Left l.held l.t-iterator.rest)) l.initial.p 0 l.p l.got
