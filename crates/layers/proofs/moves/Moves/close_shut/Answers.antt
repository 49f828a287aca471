use Rattle.layers.proofs.LayerCases.{shut_made}
use Rattle.layers.proofs.moves.Moves.close_shut.Goals as goal

pub returns : goal.returns
returns c = shut_made _ _ _ _ _ c.args.self.now.given _ _ _ _ _ _ _ c.close.ensures c.change.ensures c.close_emptying.ensures _
