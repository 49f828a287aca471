use mathlib.Core.Path.{◌≡◌}
use lib.ListN.{get_or}
use Rattle.images.specs.Graph.{Good}
use Rattle.targets.specs.Prepared.{Closing}
use Rattle.targets.proofs.put_closures.Given as goal

abbrev pub invariant-loop-p : goal.invariant-loop-p
invariant-loop-p l = Good l.initial.targets l.states l.kinds.buffering l.kinds.matching × (get_or l.initial.targets 1 0 ≡ 0) × Closing l.states l.kinds.buffering l.kinds.matching l.initial.targets l.targets l.p
