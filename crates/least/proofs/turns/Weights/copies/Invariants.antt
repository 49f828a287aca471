use Prim.Native.Nat.{◌≤◌}
use Rattle.blocks.specs.Numbers.Laws.{Left, Rest}
use Rattle.blocks.specs.Settling.{Past}
use Rattle.least.specs.Falls.{Falls}
use Rattle.least.specs.Turns.{Made, Bound, Limit}
use Rattle.least.proofs.turns.Weights.copies.Given as goal

abbrev pub invariant-loop-guess : goal.invariant-loop-guess
invariant-loop-guess l =
    Past l.searched.table.machine l.pairs.numbers
    × Rest l.storing l.guess-iterator.rest
    × Falls (Made l.searched.table.machine l.searched.table.list.now l.set l.initial.self.least)
    (Bound l.searched.table.machine l.searched.table.list.now l.limit l.set l.initial.self.least (Left l.storing l.guess-iterator.rest)) l.initial.self.least 0 l.self.least l.got
    × (l.limit ≤ l.first)
    × (Limit l.searched.table.machine.marks l.initial.self.least l.first → Limit l.searched.table.machine.marks l.self.least l.limit)
