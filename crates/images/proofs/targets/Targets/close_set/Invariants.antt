use Rattle.images.proofs.Sweeps.{Closing}
use Prim.Native.Nat.{◌-◌}
use lib.Count.{ones}
use Rattle.stateset.specs.Set.{width}
use Rattle.images.specs.Graph.{Edge}
use Rattle.images.specs.Moves.{graph_of}
use Rattle.images.proofs.targets.Targets.close_set.Given as goal

abbrev pub invariant-loop-mode : goal.invariant-loop-mode
invariant-loop-mode l = Closing (Edge (graph_of l.self) l.mode 0) l.set l.all l.new

abbrev pub decreases-loop-mode : goal.decreases-loop-mode
decreases-loop-mode l = width - ones l.all
