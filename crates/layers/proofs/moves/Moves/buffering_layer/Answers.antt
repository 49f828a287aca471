use Rattle.layers.proofs.LayerCases.{buffering_made, buffering_none, lives}
use Rattle.layers.proofs.moves.Moves.buffering_layer.Goals as goal

pub returns-then-not-passed : goal.returns-then-not-passed
returns-then-not-passed c = buffering_none _ _ _ _ _ c.args.self.now.given _ _ _ _ _ _ c.requires.1 _ _ _ c.full-all.ensures c.change-changed.ensures c.read-passed.ensures c.if-not-changed.true c.if-not-passed.true

pub returns : goal.returns
returns c = lives (buffering_made _ _ _ _ _ c.args.self.now.given _ _ _ _ _ _ c.requires.1 _ _ _ c.full-all.ensures c.change-changed.ensures c.read-passed.ensures _ c.close_buffering.ensures)
