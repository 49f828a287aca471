use Prim.Native.Nat.{suc, ◌≤◌, ◌-◌, ◌+◌, ◌*◌}
use mathlib.Core.Path.{◌≡◌}
use lib.ListN.{get_or}
use Rattle.product.specs.Each.{sum_over}
use Rattle.product.proofs.fault.sum_products.Given as goal

abbrev pub invariant-loop-x : goal.invariant-loop-x
invariant-loop-x l = (l.total ≤ (l.x - 1) * 16000000) × (l.total + sum_over l.x (suc l.letters - l.x) (λ x'. get_or l.a x' 0 * get_or l.b x' 0) ≡ sum_over 1 l.letters (λ x''. get_or l.a x'' 0 * get_or l.b x'' 0))
