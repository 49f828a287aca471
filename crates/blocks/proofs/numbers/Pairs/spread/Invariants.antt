use Prim.Native.Nat.{◌≤◌}
use mathlib.Core.Path.{◌≡◌}
use mathlib.Core.Logic.{◌⊎◌}
use Rattle.blocks.specs.Numbers.{Lowers, Spread}
use Rattle.blocks.proofs.numbers.Pairs.spread.Given as goal

abbrev pub invariant-loop-k : goal.invariant-loop-k
invariant-loop-k l = ((l.k ≡ l.lo) ⊎ (l.k ≤ l.hi)) × Lowers (Spread l.list l.lo l.k l.may l.got l.p) l.initial.self.numbers l.initial.self.marks l.self.numbers l.self.marks
