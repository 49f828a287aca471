use Prim.Native.Nat.{◌≤◌, ◌<◌, ◌-◌}
use Rattle.std.proofs.Common.{true, false}
use Rattle.split.proofs.lookup.partition_point.Given as goal

abbrev pub invariant-loop-lo : goal.invariant-loop-lo
invariant-loop-lo g l = (l.lo ≤ l.hi) × (l.hi ≤ l.n) × (0 < l.lo → goal.F-post g l.test (l.lo - 1) true) × (l.hi < l.n → goal.F-post g l.test l.hi false)

abbrev pub decreases-loop-lo : goal.decreases-loop-lo
decreases-loop-lo g l = l.hi - l.lo
