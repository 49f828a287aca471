use Rattle.fsbm.proofs.machine.is_matching.Goals as goal

pub returns : goal.returns
returns c = simp c.mark.ensures
