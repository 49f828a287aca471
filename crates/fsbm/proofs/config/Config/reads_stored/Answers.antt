use Rattle.fsbm.specs.Moves.{reads_stored}
use Rattle.fsbm.specs.declared.config.Mode.{Mode}
use mathlib.Core.Path.{sym, ◌∙◌, ap}
use Rattle.fsbm.proofs.config.Config.reads_stored.Goals as goal

pub returns-in-Normal : goal.returns-in-Normal
unfolding reads_stored
returns-in-Normal c = ap (λ (z : Mode). reads_stored c.args.word.now c.args.self c.args.t z) (sym c.in-Normal.is)

pub returns-in-Buffering : goal.returns-in-Buffering
unfolding reads_stored
returns-in-Buffering c = ap (λ (z : Mode). reads_stored c.args.word.now c.args.self c.args.t z) (sym c.in-Buffering.is)

pub returns-in-Emptying : goal.returns-in-Emptying
unfolding reads_stored
returns-in-Emptying c = c.reads_letter.ensures ∙ ap (λ (z : Mode). reads_stored c.args.word.now c.args.self c.args.t z) (sym c.in-Emptying.is)
