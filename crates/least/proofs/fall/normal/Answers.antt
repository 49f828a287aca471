use native.Mathlib.Omega.{arith}
use mathlib.Core.Path.{sym, ◌∙◌}
use Rattle.pieces.proofs.BlocksLaws.{cost_inside}
use Rattle.blocks.specs.Works.Laws.{ready_stride, ready_end, row_fits}
use Rattle.least.specs.Falls.Laws.{normal_none, normal_buffers, normal_past, normal_steps}
use Rattle.least.proofs.fall.normal.Goals.{then-searched-q-via-then-searched-q, then-searched-q-via-else-searched-q+then-member}
use Rattle.least.proofs.fall.normal.Goals as goal

pub returns-then-searched-q : goal.returns-then-searched-q
returns-then-searched-q c = elim c.then-searched-q.branch [
  | then-searched-q-via-then-searched-q w ↦ normal_past c.args.searched.now.ready _ c.args.searched.now.buffers _ _ _ (omega (arith, c.ranges.got)) w.if-searched-q.true
  | then-searched-q-via-else-searched-q+then-member w ↦ normal_buffers c.args.searched.now.ready _ c.args.searched.now.buffers _ _ _ (omega (arith, c.ranges.got)) (sym w.member.ensures ∙ w.if-member.true)
]

pub returns-then-n-ge-NOTHING : goal.returns-then-n-ge-NOTHING
returns-then-n-ge-NOTHING c = normal_none c.args.searched.now.ready _ c.args.searched.now.buffers _ _ _ (omega (arith, c.ranges.got)) (omega (arith, c.if-n-ge-NOTHING.true, cost_inside c.args.d.now _ c.requires))

pub overflow_add-stride : goal.overflow_add-stride
overflow_add-stride c = omega (arith, ready_stride c.args.searched.now.ready)

pub overflow_mul-q : goal.overflow_mul-q
overflow_mul-q c = omega (arith, (row_fits c.args.searched.now.ready _ c.if-searched-q.false).0)

pub offset_bounds-searched-q : goal.offset_bounds-searched-q
offset_bounds-searched-q c = omega (arith, (row_fits c.args.searched.now.ready _ c.if-searched-q.false).0)

pub bounds-searched-q : goal.bounds-searched-q
bounds-searched-q c = omega (arith, (row_fits c.args.searched.now.ready _ c.if-searched-q.false).0)

pub overflow_mul-q-2 : goal.overflow_mul-q-2
overflow_mul-q-2 c = omega (arith, (row_fits c.args.searched.now.ready _ c.if-searched-q.false).0)

pub overflow_add-q : goal.overflow_add-q
overflow_add-q c = omega (arith, (row_fits c.args.searched.now.ready _ c.if-searched-q.false).1)

pub offset_bounds-searched-q-2 : goal.offset_bounds-searched-q-2
offset_bounds-searched-q-2 c = omega (arith, (row_fits c.args.searched.now.ready _ c.if-searched-q.false).1)

pub bounds-searched-q-2 : goal.bounds-searched-q-2
bounds-searched-q-2 c = omega (arith, (row_fits c.args.searched.now.ready _ c.if-searched-q.false).1)

pub steps-requires : goal.steps-requires
steps-requires c = (omega (arith, c.from-hi.ensures, ready_end c.args.searched.now.ready _ c.if-searched-q.false), omega (arith, c.if-n-ge-NOTHING.false))

pub returns : goal.returns
returns c = normal_steps c.args.searched.now.ready _ c.args.searched.now.buffers _ _ c.if-searched-q.false (sym c.member.ensures ∙ c.if-member.false) (sym (cost_inside _ _ c.requires)) (omega (arith, c.if-n-ge-NOTHING.false)) c.enterable-may.ensures c.from-lo.ensures c.from-hi.ensures c.steps.ensures
