use Rattle.tables.proofs.CopyCases.{Buffered}
use Rattle.tables.proofs.word.Word.buffering_rows.Given as goal

abbrev pub invariant-loop-d : goal.invariant-loop-d
invariant-loop-d l = Buffered l.self.moves.table.machine l.self.moves.table.list.now l.self.sets.now l.self.letters.now l.i l.d l.initial.stored l.stored l.next
