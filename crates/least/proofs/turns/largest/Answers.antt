use native.Mathlib.Omega.{arith}
use Rattle.pieces.proofs.BlocksLaws.{cost_inside}
use Rattle.blocks.specs.Numbers.Laws.{rest_more}
use Rattle.least.specs.Turns.Laws.{most_more, most_min}
use Rattle.least.proofs.turns.largest.Goals as goal

pub loop-z-preserved : goal.loop-z-preserved
loop-z-preserved c =
    let k = c.in-Some.ensures.steps in (
      rest_more c.loop-z.invariant.0 k,
      most_more _ c.args.d.now c.loop-z.invariant.0 k (omega (arith, c.max-most.ensures)) (omega (arith, c.max-most.ensures, cost_inside c.args.d.now c.in-Some.z k.state)) c.loop-z.invariant.1,
    )

pub returns : goal.returns
returns c = most_min _ _ _ _ _ _ c.in-None.ensures.steps.0 c.requires c.loop-z.invariant.1 c.min.ensures
