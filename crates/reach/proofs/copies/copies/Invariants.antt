use Rattle.images.specs.Moves.{graph_of}
use Rattle.subsets.specs.Memo.{Holds, SamePlaces}
use Rattle.reach.specs.Copies.{Added, SomeStore, SomeMatch}
use Rattle.reach.proofs.copies.copies.Given as goal

abbrev pub invariant-loop-i : goal.invariant-loop-i
invariant-loop-i l = (Added l.initial.storing l.storing (SomeStore (graph_of l.t) l.word l.normal l.i) × Added l.initial.matching l.matching (SomeMatch (graph_of l.t) l.word l.normal l.i)) × Holds (graph_of l.t) l.memo × SamePlaces l.initial.memo l.memo
