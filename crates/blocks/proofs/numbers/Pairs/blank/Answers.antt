use Rattle.blocks.specs.Settling.{blank_block}
use Rattle.blocks.specs.Settling.Laws.{blank_is}
use Rattle.blocks.proofs.numbers.Pairs.blank.Goals as goal

pub returns : goal.returns
unfolding blank_block
returns c = blank_is _ (c.fill.ensures.after (λ y e. e))
