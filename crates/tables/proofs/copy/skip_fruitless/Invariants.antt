use Rattle.std.proofs.Common.{ℕ, ◌+◌, ◌-◌, ◌≤◌, List, length}
use Rattle.tables.specs.Halves.{SharedFrom}
use Rattle.tables.specs.Tables.{Skipped}
use Rattle.tables.proofs.copy.skip_fruitless.Given as goal

abbrev pub invariant-loop-k : goal.invariant-loop-k
invariant-loop-k l = (l.k ≤ l.d + 1) × ((w : List ℕ) → l.i + l.d + l.d ≤ length w → SharedFrom w l.i l.counts → Skipped w l.i l.d l.ends.left.now (l.k - 1))
