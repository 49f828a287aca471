use Rattle.product.proofs.WriteCases.{Lettering}
use Rattle.product.proofs.write.write_letter.Given as goal

abbrev pub invariant-loop-u : goal.invariant-loop-u
invariant-loop-u l = Lettering l.second_list l.fn.span.start l.fn.span.end l.from l.letter l.base l.initial.list l.k l.list l.at l.u
