use Prim.Native.Nat.{◌-◌}
use lib.Count.{ones}
use Rattle.stateset.specs.Set.{width}
use Rattle.fsbm.specs.declared.config.Mode.TheVariants.{Normal}
use Rattle.images.specs.Graph.{Edge, EmptyCopy}
use Rattle.images.specs.Moves.{graph_of}
use Rattle.images.proofs.Sweeps.{Placing}
use Rattle.images.proofs.targets.Targets.close_in_turns.Given as goal

abbrev pub invariant-loop-set : goal.invariant-loop-set
invariant-loop-set l = Placing (Edge (graph_of l.self) Normal 0) (EmptyCopy (graph_of l.self)) l.set l.all l.new

abbrev pub decreases-loop-set : goal.decreases-loop-set
decreases-loop-set l = width - ones l.all
