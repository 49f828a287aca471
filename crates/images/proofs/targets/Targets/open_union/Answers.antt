use Rattle.images.specs.Moves.{graph_of}
use Rattle.images.proofs.SetCases.{members_is, open_moves}
use Rattle.images.proofs.targets.Targets.open_union.Goals as goal

pub returns : goal.returns
returns c = open_moves (graph_of c.args.self.now) c.args.row _ _ _ _ _ _ _ (members_is c.difference.ensures) c.row_union-plain.ensures (members_is c.intersection.ensures) c.row_union-matching.ensures (members_is c.difference-2.ensures) (members_is c.union.ensures)
