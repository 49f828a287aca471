use mathlib.Core.Path.{◌≡◌}
use lib.ListN.{length}
use Rattle.accepts.specs.Ready.{Working}
use Rattle.accepts.proofs.WordsCases.{Answering}
use Rattle.accepts.proofs.words.answer_each.Given as goal

abbrev pub invariant-loop-k : goal.invariant-loop-k
invariant-loop-k l = Answering l.m l.list l.letters l.ends l.initial.answers l.answers l.from l.k × Working l.m l.targets l.kinds l.rows l.steps l.sets × (length l.rows ≡ length l.initial.rows) × (length l.steps ≡ length l.initial.steps)
