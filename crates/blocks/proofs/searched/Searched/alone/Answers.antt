use Rattle.blocks.specs.Works.Laws.{ready_state, so_start}
use Rattle.blocks.proofs.searched.Searched.alone.Goals as goal

pub gather-got-requires-clause-row_bound : goal.gather-got-requires-clause-row_bound
gather-got-requires-clause-row_bound c = (ready_state c.args.self.now.ready _ c.requires.0, c.requires.1)

pub put-requires : goal.put-requires
put-requires c = ready_state c.args.self.now.ready _ c.requires.0

pub returns : goal.returns
returns c = so_start c.args.self.now.ready _ _ _ c.requires.0 c.gather-got.ensures c.put.ensures
