use Rattle.images.proofs.SetCases.{advance_none}
use Rattle.images.specs.Moves.{graph_of}
use Rattle.images.proofs.targets.Targets.advance.Goals as goal

pub returns-then-read-eq0 : goal.returns-then-read-eq0
returns-then-read-eq0 c = advance_none (graph_of c.args.self.now) c.args.mode _ _ _ c.read_set-read.ensures c.if-read-eq0.true
