use Rattle.images.proofs.SetCases.{empty_none, members_is}
use Rattle.images.specs.Moves.{graph_of}
use Rattle.images.proofs.targets.Targets.empty_copies.Goals as goal

pub returns-then-begun-eq0 : goal.returns-then-begun-eq0
returns-then-begun-eq0 c = empty_none (graph_of c.args.self.now) _ _ (members_is c.intersection-begun.ensures) c.if-begun-eq0.true
