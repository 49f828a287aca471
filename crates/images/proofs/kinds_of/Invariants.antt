use Prim.Native.Nat.{◌≤◌}
use Rattle.stateset.specs.Set.{width}
use Rattle.images.specs.Graph.{KindsOf}
use Rattle.images.proofs.kinds_of.Given as goal

abbrev pub invariant-loop-q : goal.invariant-loop-q
invariant-loop-q l = (l.states ≤ width) × KindsOf l.marks l.q l.kinds
