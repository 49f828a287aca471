use Rattle.product.proofs.LettersCases.{Looking}
use Rattle.product.proofs.letters.next_letter.Given as goal

abbrev pub invariant-loop-w : goal.invariant-loop-w
invariant-loop-w l = Looking l.letters l.x l.w l.from
