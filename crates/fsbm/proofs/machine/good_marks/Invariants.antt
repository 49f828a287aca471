use Prim.Native.Nat.{◌≤◌, ◌-◌}
use mathlib.Core.Path.{◌≡◌}
use mathlib.Core.Bool.{◌&&◌}
use lib.Dec.{leb}
use Rattle.basics.specs.Search.{all_below}
use Rattle.fsbm.specs.Machine.{good_mark}
use Rattle.fsbm.proofs.MachineCases.{marked}
use Rattle.fsbm.proofs.machine.good_marks.Given as goal

abbrev pub invariant-loop-q : goal.invariant-loop-q
invariant-loop-q l = (l.q ≤ 64) × (l.needed ≤ 64) × ((leb l.largest 11 && leb l.needed l.states) ≡ all_below l.q (good_mark (marked l.states l.marks)))

abbrev pub decreases-loop-q : goal.decreases-loop-q
decreases-loop-q l = 64 - l.q
