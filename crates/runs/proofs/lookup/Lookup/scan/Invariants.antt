use Rattle.runs.proofs.WalkCases.{Passed}
use Rattle.runs.proofs.lookup.Lookup.scan.Given as goal

abbrev pub invariant-loop-k : goal.invariant-loop-k
invariant-loop-k l = Passed l.self.word.moves.table.machine l.self.word.moves.table.list.now l.self.word.sets.now l.self.word.letters.now l.c l.d l.k
