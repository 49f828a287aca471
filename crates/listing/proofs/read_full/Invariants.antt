use Rattle.std.specs.Prelude.{◌-◌, ◌≤◌, length}
use Rattle.listing.proofs.read_full.Given as goal

abbrev pub invariant-loop-n : goal.invariant-loop-n
invariant-loop-n l = l.n ≤ length l.table

abbrev pub decreases-loop-n : goal.decreases-loop-n
decreases-loop-n l = length l.initial.table - l.n
