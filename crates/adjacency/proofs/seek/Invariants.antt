use Rattle.std.proofs.Common.{ℕ, ◌≤◌, ◌<◌}
use Rattle.adjacency.specs.Index.{column}
use Rattle.adjacency.proofs.seek.Given as goal

abbrev pub invariant-loop-r : goal.invariant-loop-r
invariant-loop-r l = (k : ℕ) → k < l.r → l.k ≤ k → column l.t.list.now 0 k < l.q
