use Rattle.layers.proofs.LayerCases.{end_made}
use Rattle.layers.proofs.moves.Moves.end_layer.Goals as goal

pub returns : goal.returns
returns c = end_made _ _ _ _ _ c.args.self.now.given _ _ _ _ _ _ _ _ c.intersection.ensures c.seeds.ensures c.blank.ensures c.blank-2.ensures c.close_position.ensures
