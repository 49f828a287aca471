use Prim.Native.Nat.{ℕ, ◌<◌}
use mathlib.Core.Path.{◌≡◌}
use lib.ListN.{length, get_or}
use Rattle.product.specs.Product.{letter_count}
use Rattle.product.proofs.fault.tally.Given as goal

abbrev pub invariant-loop-k : goal.invariant-loop-k
invariant-loop-k l = (length l.counts ≡ 256) × ((x : ℕ) → x < 256 → get_or l.counts x 0 ≡ letter_count l.t.list.now l.k x)
