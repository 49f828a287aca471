use Prim.Native.Nat.{◌*◌}
use native.Mathlib.Omega.{arith}
use lib.ListN.{get_or}
use Rattle.product.proofs.FaultCases.{product_small, products_next, products_end}
use Rattle.product.proofs.fault.sum_products.Goals as goal

pub loop-x-preserved : goal.loop-x-preserved
loop-x-preserved c = let e = c.requires.by_index c.loop-x.x (omega (arith, c.requires.letters_bound)) in let small = product_small (get_or c.args.a.now c.loop-x.x 0) (get_or c.args.b.now c.loop-x.x 0) e.0 e.1 in (omega arith, products_next (λ x. get_or c.args.a.now x 0 * get_or c.args.b.now x 0) c.args.letters c.loop-x.total c.loop-x.x c.loop-x.invariant.1 (omega arith))

pub returns-clause-value : goal.returns-clause-value
returns-clause-value c = products_end (λ x. get_or c.args.a.now x 0 * get_or c.args.b.now x 0) c.args.letters c.loop-x.total c.loop-x.x c.loop-x.invariant.1 (omega arith)
