use Rattle.layers.proofs.LayerCases.{closed_emptying, matching_inside}
use Rattle.layers.proofs.moves.Moves.close_emptying.Goals as goal

pub close-requires : goal.close-requires
close-requires c = matching_inside _ _ _ _ _ c.args.self.now.given

pub returns : goal.returns
returns c = closed_emptying _ _ _ _ _ c.args.self.now.given _ _ c.close.ensures
