use Prim.Native.Nat.{◌-◌}
use mathlib.Core.Bool.{false}
use Rattle.shortest.specs.Find.Laws.{Finding}
use Rattle.shortest.proofs.traced.Traced.find_into.Given as goal

abbrev pub invariant-loop-k : goal.invariant-loop-k
invariant-loop-k g l = Finding l.n l.self.searched.now.table.list.now l.q (λ k. goal.F-post g l.test k false) l.k

abbrev pub decreases-loop-k : goal.decreases-loop-k
decreases-loop-k g l = l.n - l.k
