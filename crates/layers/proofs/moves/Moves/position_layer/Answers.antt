use Rattle.layers.proofs.LayerCases.{position_made}
use Rattle.layers.proofs.moves.Moves.position_layer.Goals as goal

pub returns : goal.returns
returns c =
    position_made _ _ _ _ _ c.args.self.now.given _ _ _ _ _ _ _ _ _ _ _ _ _ _ _ _ _ c.intersection-starts.ensures c.storing_states-all.ensures c.first_row.ensures c.blank.ensures c.blank-2.ensures
    c.read.ensures c.read-2.ensures c.close_position.ensures
