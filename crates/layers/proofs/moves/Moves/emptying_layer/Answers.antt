use Rattle.layers.proofs.LayerCases.{emptying_made, emptying_none, lives, matching_inside}
use Rattle.layers.proofs.moves.Moves.emptying_layer.Goals as goal

pub read-requires : goal.read-requires
read-requires c = (c.requires.0, matching_inside _ _ _ _ _ c.args.self.now.given)

pub returns-then-not-read : goal.returns-then-not-read
returns-then-not-read c = emptying_none _ _ _ _ _ c.args.self.now.given _ _ _ _ c.requires.1 _ c.read.ensures c.if-not-read.true

pub returns : goal.returns
returns c = lives (emptying_made _ _ _ _ _ c.args.self.now.given _ _ _ _ c.requires.1 _ c.read.ensures _ c.close_emptying.ensures)
