use Rattle.std.proofs.Common.{◌≡◌, ℕ, List}
use Rattle.stateset.specs.Set.{In}
use Rattle.layers.specs.Rows.{weight, Closed}
use Rattle.layers.proofs.moves.Moves.close.Given as goal

abbrev pub invariant-loop-mode : goal.invariant-loop-mode
invariant-loop-mode l = (l.old ≡ l.row) × ((out : List ℕ) → Closed l.self.table.machine l.self.table.list.now (In l.set) l.mode l.row out → Closed l.self.table.machine l.self.table.list.now (In l.set) l.mode l.initial.row out)

abbrev pub decreases-loop-mode : goal.decreases-loop-mode
decreases-loop-mode l = weight l.row
