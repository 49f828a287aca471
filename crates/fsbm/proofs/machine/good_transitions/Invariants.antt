use Prim.Native.Nat.{◌≤◌, ◌-◌}
use mathlib.Core.Path.{◌≡◌}
use mathlib.Core.Bool.{true}
use Rattle.basics.specs.Search.{all_below}
use Rattle.fsbm.specs.Machine.{good_transition}
use Rattle.fsbm.proofs.MachineCases.{least_at}
use Rattle.fsbm.proofs.machine.good_transitions.Given as goal

abbrev pub invariant-loop-k : goal.invariant-loop-k
invariant-loop-k l = (l.k ≤ l.n) × (all_below l.k (good_transition l.states l.letters l.list) ≡ true) × (l.least ≡ least_at l.list l.k)

abbrev pub decreases-loop-k : goal.decreases-loop-k
decreases-loop-k l = l.n - l.k
