use Rattle.copies.proofs.CopyCases.{Counting}
use Rattle.copies.proofs.count_copies.Given as goal

abbrev pub invariant-loop-i : goal.invariant-loop-i
invariant-loop-i l = Counting l.t.machine.transitions l.t.list.now l.run l.s l.count l.i
