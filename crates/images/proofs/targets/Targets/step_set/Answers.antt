use Rattle.images.specs.Moves.{graph_of}
use Rattle.images.proofs.SetCases.{members_is, emptying_edges}
use Rattle.images.proofs.targets.Targets.step_set.Goals as goal

pub returns-in-Emptying : goal.returns-in-Emptying
returns-in-Emptying c = rw c.in-Emptying.is (emptying_edges (graph_of c.args.self.now) c.row_of-row.result _ _ c.row_of-row.ensures _ _ _ (members_is c.intersection.ensures) c.row_union-found.ensures (members_is c.intersection-in-Emptying.ensures))
