use mathlib.Core.Path.{◌≡◌}
use lib.ListN.{length}
use Rattle.targets.specs.Prepared.{Filled}
use Rattle.targets.proofs.fill_rows.Given as goal

abbrev pub invariant-loop-k : goal.invariant-loop-k
invariant-loop-k l = (length l.targets ≡ length l.initial.targets) × Filled l.t.machine l.t.list.now l.wanted l.targets l.k
