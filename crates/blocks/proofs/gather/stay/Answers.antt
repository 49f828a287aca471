use mathlib.Core.Path.{sym}
use Rattle.pieces.proofs.BlocksLaws.{cell_inside}
use Rattle.blocks.specs.Gathered.Laws.{stay_more, stay_end}
use Rattle.blocks.specs.Numbers.Laws.{rest_more}
use Rattle.blocks.proofs.gather.stay.Goals as goal

pub loop-t-preserved : goal.loop-t-preserved
loop-t-preserved c = let k = c.in-Some.ensures.steps in (rest_more c.loop-t.invariant.0 k, stay_more _ _ _ c.loop-t.invariant.0 k (sym (cell_inside _ _ _ c.requires.0 k.state)) c.loop-t.invariant.1 c.near-got.ensures)

pub returns : goal.returns
returns c = stay_end _ _ _ _ _ c.in-None.ensures.steps.0 c.loop-t.invariant.1
