use Prim.Native.Nat.{◌≤◌, ◌-◌}
use Rattle.blocks.specs.Works.{RowOn}
use Rattle.blocks.proofs.searched.Searched.groups.Given as goal

abbrev pub invariant-loop-k : goal.invariant-loop-k
invariant-loop-k l =
    (l.lo ≤ l.k)
    × RowOn l.self.table.machine l.self.table.list.now l.row.top l.row.storing l.row.matching l.lo l.initial.pairs.numbers l.initial.pairs.marks l.k l.pairs.numbers l.pairs.marks

abbrev pub decreases-loop-k : goal.decreases-loop-k
decreases-loop-k l = l.end - l.k
