use Rattle.std.proofs.Common.{ℕ, ◌≤◌, ◌<◌}
use Rattle.layers.specs.Costs.{at}
use Rattle.layers.proofs.row.least_below.Given as goal

abbrev pub invariant-loop-q : goal.invariant-loop-q
invariant-loop-q l = (p : ℕ) → p < l.q → l.least ≤ at l.row p
