use Prim.Native.Nat.{◌+◌, ◌*◌}
use Rattle.std.specs.Int.Count.{ones}
use Rattle.blocks.specs.Numbers.{total}
use Rattle.least.specs.Turns.{NormalSo}
use Rattle.least.proofs.turns.normal_turn.Given as goal

abbrev pub invariant-loop-rest : goal.invariant-loop-rest
invariant-loop-rest l = NormalSo l.searched.table.machine l.searched.table.list.now l.initial.d l.fresh l.d l.rest l.started

abbrev pub decreases-loop-rest : goal.decreases-loop-rest
decreases-loop-rest l = 3 * total l.d + 2 * ones l.rest
