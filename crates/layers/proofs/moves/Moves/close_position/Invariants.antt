use Rattle.std.proofs.Common.{◌+◌}
use Rattle.layers.specs.Layers.{LowerPlace}
use Rattle.layers.specs.Rows.{weight}
use Rattle.layers.proofs.moves.Moves.close_position.Given as goal

abbrev pub invariant-loop : goal.invariant-loop
invariant-loop l = LowerPlace l.self.table.machine l.self.table.list.now l.near l.starts l.self.matching l.initial.position.normal l.initial.position.buffering l.initial.position.emptying l.position.normal l.position.buffering l.position.emptying

abbrev pub decreases-loop : goal.decreases-loop
decreases-loop l = weight l.position.normal + weight l.position.buffering + weight l.position.emptying
