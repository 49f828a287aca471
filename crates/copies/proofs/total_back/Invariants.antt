use Rattle.copies.proofs.CopyCases.{Adding}
use Rattle.copies.proofs.total_back.Given as goal

abbrev pub invariant-loop-k : goal.invariant-loop-k
invariant-loop-k l = Adding l.copies l.count l.total l.k
