use Rattle.layers.proofs.LayerCases.{blank_is}
use Rattle.layers.proofs.layer.lent_blank.Goals as goal

pub returns : goal.returns
returns c = blank_is
