use Prim.Native.Nat.{◌≤◌}
use mathlib.Core.Path.{◌≡◌}
use mathlib.Core.Logic.{◌⊎◌}
use Rattle.least.specs.Falls.{Falls, Steps}
use Rattle.least.proofs.fall.steps.Given as goal

abbrev pub invariant-loop-k : goal.invariant-loop-k
invariant-loop-k l = ((l.k ≡ l.lo) ⊎ (l.k ≤ l.hi)) × Falls (Steps l.list l.lo l.k l.may l.n) (Steps l.list l.lo l.k l.may l.n) l.initial.d l.got l.d l.all
