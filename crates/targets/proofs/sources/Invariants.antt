use Prim.Native.Nat.{◌+◌, ◌≤◌}
use lib.ListN.{length}
use Rattle.stateset.specs.Set.{width}
use Rattle.targets.specs.Prepared.{Sources}
use Rattle.targets.proofs.sources.Given as goal

abbrev pub invariant-loop-p : goal.invariant-loop-p
invariant-loop-p l = (l.states ≤ width) × (2 + l.states + l.states ≤ length l.targets) × Sources l.targets l.states l.p l.set
