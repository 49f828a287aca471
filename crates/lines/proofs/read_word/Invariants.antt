use Rattle.lines.proofs.LineCases.{Read}
use Rattle.lines.proofs.read_word.Given as goal

abbrev pub invariant-loop-k : goal.invariant-loop-k
invariant-loop-k l = Read l.line l.n l.word l.k
