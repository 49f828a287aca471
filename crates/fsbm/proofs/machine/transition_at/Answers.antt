use Rattle.fsbm.proofs.MachineCases.{transition_past}
use Rattle.fsbm.proofs.machine.transition_at.Goals as goal

pub returns-then-list-k : goal.returns-then-list-k
returns-then-list-k c = transition_past c.args.list.now c.args.k c.if-list-k.true

pub returns : goal.returns
returns c = simp (c.element.ensures, c.element-2.ensures, c.element-3.ensures)
