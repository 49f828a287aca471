use Prim.Native.Nat.{ℕ, ◌<◌}
use mathlib.Core.Path.{◌≡◌}
use lib.ListN.{length, get_or}
use Rattle.product.specs.Product.{joined_mark}
use Rattle.product.proofs.marks.joined_marks.Given as goal

abbrev pub invariant-loop-q : goal.invariant-loop-q
invariant-loop-q l = (length l.mark-items ≡ 64) × ((x : ℕ) → x < l.q → get_or l.mark-items x 0 ≡ joined_mark l.first l.second x)
