use Rattle.layers.proofs.LayerCases.{closed_buffering}
use Rattle.layers.proofs.moves.Moves.close_buffering.Goals as goal

pub returns : goal.returns
returns c = closed_buffering _ _ _ _ _ c.args.self.now.given _ c.full.ensures _ _ c.close.ensures
