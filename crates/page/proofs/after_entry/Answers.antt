use Rattle.std.proofs.Common.{ap, ◌∙◌, arith}
use Rattle.fsbm.specs.Machine.{transition_at}
use Rattle.page.proofs.PageCases.{taken, turned}
use Rattle.page.proofs.after_entry.Goals as goal

pub returns-then-t-k : goal.returns-then-t-k
returns-then-t-k c = λ w allowed. turned c.args.t.now.machine c.args.t.now.list.now w c.args.c c.args.entry allowed (omega arith) c.change_mode.result c.change_mode.ensures

pub returns : goal.returns
returns c = λ w allowed. taken c.args.t.now.machine c.args.t.now.list.now w c.args.c c.args.entry allowed (omega arith) c.transition.result (c.transition.ensures ∙ ap (transition_at c.args.t.now.list.now) c.from-k.ensures) c.after.result c.after.ensures
