use native.Mathlib.Omega.{arith}
use Prim.Native.Nat.{◌+◌, ◌*◌}
use mathlib.Core.Path.{◌≡◌}
use lib.ListN.{get_or}
use Rattle.fsbm.specs.Machine.{transition_at}
use Rattle.blocks.specs.Works.Laws.{ready_stride, ready_next, ready_state, ready_room, ready_letter, row_fits, group_fits, group_past, so_more}
use Rattle.blocks.proofs.searched.Searched.group.Goals as goal

pub overflow_mul-lo : goal.overflow_mul-lo
overflow_mul-lo c = omega (arith, ready_room c.args.self.now.ready _ c.requires.lo_lt_transitions.0)

pub overflow_add-lo : goal.overflow_add-lo
overflow_add-lo c = omega (arith, ready_room c.args.self.now.ready _ c.requires.lo_lt_transitions.0)

pub offset_bounds-self-lo : goal.offset_bounds-self-lo
offset_bounds-self-lo c = omega (arith, ready_room c.args.self.now.ready _ c.requires.lo_lt_transitions.0)

pub bounds-self-lo : goal.bounds-self-lo
bounds-self-lo c = omega (arith, ready_room c.args.self.now.ready _ c.requires.lo_lt_transitions.0)

pub overflow_add-stride : goal.overflow_add-stride
overflow_add-stride c = omega (arith, ready_stride c.args.self.now.ready)

pub overflow_mul-row : goal.overflow_mul-row
overflow_mul-row c = omega (arith, (row_fits c.args.self.now.ready _ c.requires.row_bound.0).0)

pub overflow_add-row : goal.overflow_add-row
overflow_add-row c = omega (arith, group_fits c.args.self.now.ready _ c.requires.row_bound.0 _ c.requires.lo_lt_transitions.0, c.from-x.ensures)

pub overflow_add-row-2 : goal.overflow_add-row-2
overflow_add-row-2 c = omega (arith, group_fits c.args.self.now.ready _ c.requires.row_bound.0 _ c.requires.lo_lt_transitions.0, c.from-x.ensures)

pub offset_bounds-self-row : goal.offset_bounds-self-row
offset_bounds-self-row c = omega (arith, group_fits c.args.self.now.ready _ c.requires.row_bound.0 _ c.requires.lo_lt_transitions.0, c.from-x.ensures)

pub bounds-self-row : goal.bounds-self-row
bounds-self-row c = omega (arith, group_fits c.args.self.now.ready _ c.requires.row_bound.0 _ c.requires.lo_lt_transitions.0, c.from-x.ensures)

pub moved-got-requires : goal.moved-got-requires
moved-got-requires c = (omega (arith, ready_letter c.args.self.now.ready _ c.requires.lo_lt_transitions.0, c.from-x.ensures), ready_state c.args.self.now.ready _ c.requires.row_bound.0, c.requires.row_bound.1)

pub spread-requires : goal.spread-requires
spread-requires c = omega (arith, c.from-hi.ensures, ready_next c.args.self.now.ready _ c.from-x.result c.requires.row_bound.0 (omega (arith, c.from-x.ensures, ready_letter c.args.self.now.ready _ c.requires.lo_lt_transitions.0)))

pub returns : goal.returns
returns c =
    let lt = c.requires.lo_lt_transitions in
    let here = c.requires.row_bound.0 in
    let end : c.from-hi.result ≡ get_or c.args.self.now.index.now (c.args.row.storing * (c.args.self.now.table.machine.letters + 1) + (transition_at c.args.self.now.table.list.now c.args.lo).letter + 1) 0 = rw (← c.from-x.ensures) c.from-hi.ensures in
    (omega (arith, end, group_past c.args.self.now.ready _ here _ lt.0 lt.1), record { steps = c.spread.ensures.steps; on = λ b₀ d₀ so. so_more c.args.self.now.ready _ _ _ here c.requires.storable lt.0 lt.1 c.from-x.ensures c.from-hi.ensures c.moved-got.ensures c.spread.ensures so })
