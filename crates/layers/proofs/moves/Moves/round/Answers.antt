use Rattle.layers.proofs.LayerCases.{round_made}
use Rattle.layers.proofs.moves.Moves.round.Goals as goal

pub returns : goal.returns
returns c = round_made _ _ _ _ _ c.args.self.now.given _ _ _ _ _ _ _ _ _ _ _ _ _ _ c.close.ensures c.close_buffering.ensures c.close_emptying.ensures c.change-a.ensures c.change-b.ensures c.change-c.ensures
