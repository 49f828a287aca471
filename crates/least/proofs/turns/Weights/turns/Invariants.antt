use Prim.Native.Nat.{◌+◌, ◌*◌}
use Rattle.std.specs.Int.Count.{ones}
use Rattle.stateset.specs.Set.{In}
use Rattle.blocks.specs.Numbers.{total}
use Rattle.blocks.specs.Settling.{Past}
use Rattle.least.specs.Turns.{RoundsOf, Limit}
use Rattle.least.proofs.turns.Weights.turns.Given as goal

abbrev pub invariant-loop-storing : goal.invariant-loop-storing
invariant-loop-storing l =
    Past l.searched.table.machine l.pairs.numbers
    × RoundsOf l.limit l.searched.table.machine l.searched.table.list.now (In l.fresh) (In l.fresh) l.self.least
    × Limit l.searched.table.machine.marks l.self.least l.limit

abbrev pub decreases-loop-storing : goal.decreases-loop-storing
decreases-loop-storing l = 3 * total l.self.least + 2 * ones l.fresh
