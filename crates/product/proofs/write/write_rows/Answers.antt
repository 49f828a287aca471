use native.Mathlib.Omega.{arith}
use Rattle.fsbm.specs.Rules.{rules as rules_of}
use Rattle.product.proofs.WriteCases.{writing_start, writing_block, writing_room, writing_next, writing_end}
use Rattle.product.proofs.write.write_rows.Goals as goal

pub loop-p-init : goal.loop-p-init
loop-p-init c = writing_start c.args.f.now c.args.list.now c.requires

pub write_row-k-requires-clause-block : goal.write_row-k-requires-clause-block
write_row-k-requires-clause-block c = writing_block c.args.f.now c.loop-p.invariant c.lower-hi.ensures

pub write_row-k-requires-clause-r_in_bounds : goal.write_row-k-requires-clause-r_in_bounds
write_row-k-requires-clause-r_in_bounds c = writing_room c.args.f.now c.loop-p.invariant c.lower-hi.ensures c.loop-p-test.true

pub loop-p-preserved : goal.loop-p-preserved
loop-p-preserved c = writing_next c.args.f.now c.loop-p.invariant c.lower-hi.ensures c.loop-p-test.true _ c.write_row-k.result c.write_row-k.ensures.list_after c.write_row-k.ensures.value

pub returns : goal.returns
returns c = writing_end c.args.f.now c.loop-p.invariant c.loop-p-test.false

pub overflow_mul-p : goal.overflow_mul-p
overflow_mul-p c = omega (arith, (rules_of _ _ c.args.f.now.first.table.now.obeys).states_fit)

pub overflow_add-p : goal.overflow_add-p
overflow_add-p c = omega (arith, (rules_of _ _ c.args.f.now.first.table.now.obeys).states_fit)
