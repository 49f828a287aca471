use mathlib.Core.Path.{sym}
use Rattle.pieces.proofs.BlocksLaws.{cell_inside}
use Rattle.blocks.specs.Numbers.Laws.{rest_more}
use Rattle.least.specs.Falls.Laws.{ends_more, ends_end}
use Rattle.least.proofs.turns.Weights.end_all.Goals as goal

pub loop-z-preserved : goal.loop-z-preserved
loop-z-preserved c = let k = c.in-Some.ensures.steps in (rest_more c.loop-z.invariant.0 k, rw c.note.ensures (ends_more _ _ _ c.loop-z.invariant.0 k (sym (cell_inside _ _ _ c.requires.0 k.state)) c.loop-z.invariant.1 c.end-all.ensures))

pub returns : goal.returns
returns c = ends_end _ _ _ _ _ c.in-None.ensures.steps.0 c.loop-z.invariant.1
