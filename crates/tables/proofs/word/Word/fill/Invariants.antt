use Rattle.std.proofs.Common.{◌≡◌, length}
use Rattle.tables.specs.Tables.{Filling}
use Rattle.tables.proofs.word.Word.fill.Given as goal

abbrev pub invariant-loop-p : goal.invariant-loop-p
invariant-loop-p l = Filling l.self.moves.table.machine l.self.moves.table.list.now l.self.sets.now l.self.letters.now l.p l.t l.ends.rows.now l.ends.left.now l.counts × (length l.t ≡ length l.initial.t)
