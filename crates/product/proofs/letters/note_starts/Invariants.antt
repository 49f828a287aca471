use Rattle.product.proofs.LettersCases.{Starting}
use Rattle.product.proofs.letters.note_starts.Given as goal

abbrev pub invariant-loop-k : goal.invariant-loop-k
invariant-loop-k l = Starting l.t.list.now l.t.machine.transitions l.starts l.k
