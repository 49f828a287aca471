use Rattle.tables.specs.Tables.{EmptyingRows}
use Rattle.tables.proofs.word.Word.emptying_rows.Given as goal

abbrev pub invariant-loop-r : goal.invariant-loop-r
invariant-loop-r l = EmptyingRows l.self.moves.table.machine l.self.moves.table.list.now l.self.sets.now l.self.letters.now l.e l.r l.initial.rows l.rows
