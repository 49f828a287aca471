use Rattle.images.proofs.SetCases.{read_none}
use Rattle.images.specs.Moves.{graph_of}
use Rattle.images.proofs.targets.Targets.read_set.Goals as goal

pub returns-then-x-eq0 : goal.returns-then-x-eq0
returns-then-x-eq0 c = read_none (graph_of c.args.self.now) c.args.mode _ _ c.if-x-eq0.true
