use mathlib.Core.Path.{◌≡◌}
use lib.ListN.{length}
use Rattle.targets.specs.Prepared.Laws.{WantedBefore}
use Rattle.targets.proofs.letters_of.Given as goal

abbrev pub invariant-loop-x : goal.invariant-loop-x
invariant-loop-x l = (length l.wanted ≡ 256) × WantedBefore l.word l.wanted l.x-index
