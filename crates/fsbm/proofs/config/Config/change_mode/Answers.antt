use mathlib.Core.Path.{sym, ap, ◌∙◌}
use Rattle.fsbm.specs.declared.config.Mode.{Mode}
use Rattle.fsbm.specs.Moves.{changes}
use Rattle.fsbm.proofs.config.Config.change_mode.Goals as goal

pub returns-in-Normal : goal.returns-in-Normal
returns-in-Normal c = c.begin_buffering.ensures ∙ ap (λ (z : Mode). changes c.args.marks.now c.args.self c.args.entry z) (sym c.in-Normal.is)

pub returns-in-Buffering : goal.returns-in-Buffering
returns-in-Buffering c = c.begin_emptying.ensures ∙ ap (λ (z : Mode). changes c.args.marks.now c.args.self c.args.entry z) (sym c.in-Buffering.is)

pub returns-in-Emptying : goal.returns-in-Emptying
returns-in-Emptying c = c.back_to_normal.ensures ∙ ap (λ (z : Mode). changes c.args.marks.now c.args.self c.args.entry z) (sym c.in-Emptying.is)
