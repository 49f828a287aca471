use Rattle.tables.proofs.CopyCases.{Storing}
use Rattle.tables.proofs.word.Word.storing_row.Given as goal

abbrev pub invariant-loop-d : goal.invariant-loop-d
invariant-loop-d l = Storing l.self.moves.table.machine l.self.moves.table.list.now l.self.sets.now l.self.letters.now l.i l.d l.ends.rows.now l.ends.left.now l.next

abbrev pub decreases-loop-d : goal.decreases-loop-d
decreases-loop-d l = l.d
