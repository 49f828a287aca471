use Rattle.layers.proofs.LayerCases.{blank_is}
use Rattle.layers.proofs.layer.blank.Goals as goal

pub returns : goal.returns
returns c = blank_is
