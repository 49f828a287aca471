use native.Mathlib.Omega.{arith}
use Rattle.copies.proofs.CopyCases.{adding_start, adding_copy, adding_end}
use Prim.Native.Nat.{◌+◌, ◌-◌, ◌*◌}
use Rattle.copies.proofs.total_back.Goals as goal

pub loop-k-init : goal.loop-k-init
loop-k-init c = adding_start c.args.copies.now c.args.count

pub overflow_mul-total : goal.overflow_mul-total
overflow_mul-total c = omega (arith, c.loop-k.invariant.inside, c.requires.1)

pub overflow_add-total : goal.overflow_add-total
overflow_add-total c = omega (arith, c.loop-k.invariant.inside, c.requires.1)

pub offset_bounds-copies-k : goal.offset_bounds-copies-k
offset_bounds-copies-k c = omega (arith, c.loop-k.invariant.inside, c.requires.1)

pub bounds-copies-k : goal.bounds-copies-k
bounds-copies-k c = omega (arith, c.loop-k-test.true, c.loop-k.invariant.inside, c.requires.0)

pub overflow_cast-total : goal.overflow_cast-total
overflow_cast-total c = omega (arith, c.type_inv.copies ((c.loop-k.k - 1) * 2 + 1))

pub overflow_add-total-in-loop-k : goal.overflow_add-total-in-loop-k
overflow_add-total-in-loop-k c = omega (arith, c.type_inv.copies ((c.loop-k.k - 1) * 2 + 1), c.loop-k.invariant.small, c.loop-k.invariant.inside, c.requires.1)

pub loop-k-preserved : goal.loop-k-preserved
loop-k-preserved c = adding_copy c.args.copies.now c.args.count c.loop-k.invariant c.loop-k-test.true (omega (arith, c.type_inv.copies ((c.loop-k.k - 1) * 2 + 1)))

pub returns : goal.returns
returns c = adding_end c.args.copies.now c.args.count c.loop-k.invariant c.loop-k-test.false
