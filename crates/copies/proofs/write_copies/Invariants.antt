use Rattle.copies.proofs.CopyCases.{Writing}
use Rattle.copies.proofs.write_copies.Given as goal

abbrev pub invariant-loop-i : goal.invariant-loop-i
invariant-loop-i l = Writing l.t.machine.transitions l.t.list.now l.run l.initial.copies l.copies l.s l.k l.i
