use Rattle.std.proofs.Common.{◌+◌, ◌-◌, ◌≤◌}
use Rattle.runs.specs.Walk.Laws.{Walking}
use Rattle.runs.proofs.lookup.Lookup.walk.Given as goal

abbrev pub invariant-loop-d : goal.invariant-loop-d
invariant-loop-d l = Walking l.self.word.moves.table.machine l.self.word.moves.table.list.now l.self.word.sets.now l.self.word.letters.now l.self.positions.now l.copies.emptied.now l.copies.stored.now l.initial.run l.run l.c l.d (1 + l.moves - l.d) × (l.d ≤ l.moves)
