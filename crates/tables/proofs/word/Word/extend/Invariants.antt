use Rattle.tables.specs.Tables.{EmptyRow}
use Rattle.tables.proofs.word.Word.extend.Given as goal

abbrev pub invariant-loop-k : goal.invariant-loop-k
invariant-loop-k l = EmptyRow l.self.moves.table.machine l.self.moves.table.list.now l.self.sets.now l.self.letters.now l.e l.k l.row
