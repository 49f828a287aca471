use native.Mathlib.Omega.{arith}
use Rattle.blocks.specs.Works.Laws.{ready_stride, row_fits, row_leaves, row_done}
use Rattle.blocks.proofs.searched.Searched.row.Goals as goal

pub overflow_add-stride : goal.overflow_add-stride
overflow_add-stride c = omega (arith, ready_stride c.args.self.now.ready)

pub overflow_mul-row : goal.overflow_mul-row
overflow_mul-row c = omega (arith, (row_fits c.args.self.now.ready _ c.requires.0).0)

pub offset_bounds-self-row : goal.offset_bounds-self-row
offset_bounds-self-row c = omega (arith, (row_fits c.args.self.now.ready _ c.requires.0).0)

pub bounds-self-row : goal.bounds-self-row
bounds-self-row c = omega (arith, (row_fits c.args.self.now.ready _ c.requires.0).0)

pub overflow_mul-row-2 : goal.overflow_mul-row-2
overflow_mul-row-2 c = omega (arith, (row_fits c.args.self.now.ready _ c.requires.0).0)

pub overflow_add-row : goal.overflow_add-row
overflow_add-row c = omega (arith, (row_fits c.args.self.now.ready _ c.requires.0).1)

pub offset_bounds-self-row-2 : goal.offset_bounds-self-row-2
offset_bounds-self-row-2 c = omega (arith, (row_fits c.args.self.now.ready _ c.requires.0).1)

pub bounds-self-row-2 : goal.bounds-self-row-2
bounds-self-row-2 c = omega (arith, (row_fits c.args.self.now.ready _ c.requires.0).1)

pub groups-requires-clause-by_index : goal.groups-requires-clause-by_index
groups-requires-clause-by_index c = row_leaves c.args.self.now.ready _ c.requires.0 _ _ c.from-lo.ensures c.from-end.ensures

pub returns : goal.returns
returns c = row_done c.args.self.now.ready _ c.requires.0 c.from-lo.ensures c.from-end.ensures c.groups.ensures.0 c.alone.ensures c.groups.ensures.1
