use Rattle.blocks.proofs.searched.Searched.groups.Goals as goal

pub group-k-requires-clause-lo_lt_transitions : goal.group-k-requires-clause-lo_lt_transitions
group-k-requires-clause-lo_lt_transitions c = c.requires.by_index _ c.loop-k.invariant.0 c.loop-k-test.true
