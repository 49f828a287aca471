use Rattle.std.proofs.Common.{◌≡◌, take}
use Rattle.columns.specs.Held.{held}
use Rattle.columns.proofs.pass.Given as goal

abbrev pub invariant-loop-b : goal.invariant-loop-b
invariant-loop-b l = l.held ≡ held (take l.b-index l.b-items)
