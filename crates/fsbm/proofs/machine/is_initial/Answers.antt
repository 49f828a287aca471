use Rattle.fsbm.proofs.machine.is_initial.Goals as goal

pub returns : goal.returns
returns c = simp c.mark.ensures
