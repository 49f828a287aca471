use Rattle.stateset.specs.Set.{In}
use lib.ListN.{length, get_or}
use Prim.Native.Nat.{ℕ, ◌+◌, ◌≤◌, ◌<◌}
use Rattle.images.proofs.Sweeps.{Swept}
use Rattle.images.proofs.targets.Targets.row_union.Given as goal

abbrev pub invariant-loop-p : goal.invariant-loop-p
invariant-loop-p l = (l.row + l.self.states ≤ length l.self.sets.now) × ((p : ℕ) → In l.initial.p-iterator.rest p → p < l.self.states) × Swept (λ (p q : ℕ). In (get_or l.self.sets.now (l.row + p) 0) q) l.initial.p-iterator.rest l.p-iterator.rest l.all
