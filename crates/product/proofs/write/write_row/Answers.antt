use Rattle.product.proofs.WriteCases.{rowing_room, rowing_next, rowing_end}
use Rattle.product.proofs.write.write_row.Goals as goal

pub write_pair-at-requires-clause-r_in_bounds : goal.write_pair-at-requires-clause-r_in_bounds
write_pair-at-requires-clause-r_in_bounds c = rowing_room c.args.f.now c.loop-r.invariant c.loop-r-test.true

pub loop-r-preserved : goal.loop-r-preserved
loop-r-preserved c = rowing_next c.args.f.now c.loop-r.invariant c.loop-r-test.true _ c.write_pair-at.result c.write_pair-at.ensures.list_after c.write_pair-at.ensures.value

pub returns : goal.returns
returns c = let answer = rowing_end c.args.f.now c.loop-r.invariant c.loop-r-test.false in record { list_after = answer.0; value = answer.1 }
