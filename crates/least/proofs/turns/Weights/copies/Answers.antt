use native.Mathlib.Omega.{arith}
use Rattle.blocks.specs.Numbers.Laws.{rest_more}
use Rattle.least.specs.Turns.Laws.{copies_more, copies_end, copies_under, limit_falls}
use Rattle.least.proofs.turns.Weights.copies.Goals as goal

pub loop-guess-preserved : goal.loop-guess-preserved
loop-guess-preserved c =
    let k = c.in-Some.ensures.steps in (
      c.guessed-got.ensures.block.past,
      rest_more c.loop-guess.invariant.1 k,
      copies_more _ _ c.args.searched.now.ready.good _ c.args.searched.now.ready.matches _ _ _ c.requires.entered.0 c.requires.entered.1 c.loop-guess.invariant.1 k
          (copies_under _ _ c.args.searched.now.ready.good _ c.args.searched.now.ready.matches _ _ _ _ c.lowered-limit.ensures.less c.loop-guess.invariant.2) c.guessed-got.ensures,
      omega (arith, c.lowered-limit.ensures.less, c.loop-guess.invariant.3),
      λ l. limit_falls c.guessed-got.ensures.falls.down (c.lowered-limit.ensures.keeps (c.loop-guess.invariant.4 l)),
    )

pub returns : goal.returns
returns c = (
  c.loop-guess.invariant.0,
  copies_end _ _ c.args.searched.now.ready.good _ c.args.searched.now.ready.matches _ _ _ c.requires.entered.0 c.in-None.ensures.steps.0 c.loop-guess.invariant.2 c.loop-guess.invariant.3 c.loop-guess.invariant.4,
)
