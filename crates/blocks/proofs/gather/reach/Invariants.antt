use Prim.Native.Nat.{◌≤◌}
use mathlib.Core.Path.{◌≡◌}
use mathlib.Core.Logic.{◌⊎◌}
use Rattle.blocks.specs.Gathered.{Adding, Reach}
use Rattle.blocks.proofs.gather.reach.Given as goal

abbrev pub invariant-loop-k : goal.invariant-loop-k
invariant-loop-k l = ((l.k ≡ l.lo) ⊎ (l.k ≤ l.hi)) × Adding (Reach l.list l.lo l.k l.may l.v) l.initial.p l.got l.p l.all
