use Rattle.fsbm.specs.Moves.{passes}
use Rattle.fsbm.specs.declared.config.Mode.{Mode}
use Rattle.fsbm.specs.Machine.{buffering}
use mathlib.Core.Bool.{Bool, not, ◌&&◌}
use mathlib.Core.Path.{sym, ◌∙◌, ap}
use Rattle.fsbm.proofs.config.passes.Goals as goal

pub returns-in-Normal : goal.returns-in-Normal
unfolding passes
returns-in-Normal c = c.is_open.ensures ∙ (ap (λ (b : Bool). not b && not (buffering c.args.marks.now c.args.t.from)) c.both_matching-both.ensures ∙ ap (λ (z : Mode). passes c.args.marks.now c.args.t z) (sym c.in-Normal.is))

pub returns-in-Buffering : goal.returns-in-Buffering
unfolding passes
returns-in-Buffering c = c.is_open-in-Buffering.ensures ∙ (ap (λ (b : Bool). not b && not (buffering c.args.marks.now c.args.t.to)) c.both_matching-both.ensures ∙ ap (λ (z : Mode). passes c.args.marks.now c.args.t z) (sym c.in-Buffering.is))

pub returns-in-Emptying : goal.returns-in-Emptying
unfolding passes
returns-in-Emptying c = c.both_matching-both.ensures ∙ ap (λ (z : Mode). passes c.args.marks.now c.args.t z) (sym c.in-Emptying.is)
