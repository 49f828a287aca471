use native.Mathlib.Omega.{arith}
use Prim.Native.Nat.{◌+◌}
use mathlib.Core.Path.{refl, sym}
use Rattle.pieces.proofs.BlocksLaws.{cell_inside}
use Rattle.blocks.specs.Gathered.Laws.{from_more, from_end}
use Rattle.blocks.specs.Numbers.Laws.{rest_more}
use Rattle.blocks.specs.Readers.Laws.{readers_cover, covers_from}
use Rattle.blocks.specs.Stretches.Laws.{key_fits}
use Rattle.blocks.specs.Works.Laws.{ready_stride, ready_from}
use Rattle.blocks.proofs.searched.Searched.gather.Goals as goal

pub overflow_add-stride : goal.overflow_add-stride
overflow_add-stride c = omega (arith, ready_stride c.args.self.now.ready)

pub offset_bounds-self-x : goal.offset_bounds-self-x
offset_bounds-self-x c = omega (arith, ready_stride c.args.self.now.ready)

pub bounds-self-x : goal.bounds-self-x
bounds-self-x c = omega (arith, ready_stride c.args.self.now.ready)

pub overflow_mul-t : goal.overflow_mul-t
overflow_mul-t c = omega (arith, (key_fits c.in-Some.t (c.args.self.now.table.machine.letters + 1) c.args.x c.in-Some.ensures.steps.state (ready_stride c.args.self.now.ready) (omega (arith, c.requires.x_bound.0))).0)

pub overflow_add-t : goal.overflow_add-t
overflow_add-t c = omega (arith, (key_fits c.in-Some.t (c.args.self.now.table.machine.letters + 1) c.args.x c.in-Some.ensures.steps.state (ready_stride c.args.self.now.ready) (omega (arith, c.requires.x_bound.0))).1)

pub far-got-requires-clause-base_bound : goal.far-got-requires-clause-base_bound
far-got-requires-clause-base_bound c =
    let held = (c.intersection-held.ensures.members c.in-Some.t).0 (c.loop-t.invariant.0.part c.in-Some.t c.in-Some.ensures.steps.member) in
    let reads = (readers_cover c.args.self.now.ready c.args.self.now.reads c.args.x (omega (arith, c.requires.x_bound.0))).only c.in-Some.t held.1 in
    ((key_fits c.in-Some.t (c.args.self.now.table.machine.letters + 1) c.args.x c.in-Some.ensures.steps.state (ready_stride c.args.self.now.ready) (omega (arith, c.requires.x_bound.0))).1, ready_from c.args.self.now.ready c.args.row.matching _ (omega (arith, c.requires.x_bound.0)) _ held.0 reads)

pub loop-t-preserved : goal.loop-t-preserved
loop-t-preserved c = let k = c.in-Some.ensures.steps in (rest_more c.loop-t.invariant.0 k, from_more _ _ _ _ _ _ _ _ _ c.loop-t.invariant.0 k (sym (cell_inside _ _ _ c.requires.row_bound.0 k.state)) refl c.loop-t.invariant.1 c.far-got.ensures)

pub returns : goal.returns
returns c = covers_from _ _ (readers_cover c.args.self.now.ready c.args.self.now.reads _ (omega (arith, c.requires.x_bound.0))) c.intersection-held.ensures (from_end _ _ _ _ _ _ _ _ _ _ _ c.in-None.ensures.steps.0 c.loop-t.invariant.1)
