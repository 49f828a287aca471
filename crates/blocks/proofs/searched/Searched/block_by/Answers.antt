use native.Mathlib.Omega.{arith}
use Rattle.blocks.specs.Works.Laws.{ready_states}
use Rattle.blocks.specs.Settling.Laws.{block_done, clear_is}
use Rattle.blocks.proofs.searched.Searched.block_by.Goals as goal

pub overflow_mul-self : goal.overflow_mul-self
overflow_mul-self c = omega (arith, ready_states c.args.self.now.ready)

pub slice_bounds-fill-end : goal.slice_bounds-fill-end
slice_bounds-fill-end c = omega (arith, ready_states c.args.self.now.ready)

pub returns : goal.returns
returns c = block_done _ _ _ c.args.self.now.buffers _ _ _ c.requires.2 _ c.requires.0 (clear_is _ _ _ (omega (arith, ready_states c.args.self.now.ready)) (c.fill.ensures.after (λ y e. e))) c.intersection-held.ensures c.begin_all.ensures c.args.self.now.ready.good (omega arith) c.work.ensures
