use mathlib.Core.Path.{◌≡◌}
use lib.ListN.{length}
use Rattle.product.specs.Letters.{KeySet}
use Rattle.product.proofs.letters.key_set.Given as goal

abbrev pub invariant-loop-k : goal.invariant-loop-k
invariant-loop-k l = (length l.words ≡ 256) × KeySet l.t.list.now l.k l.words
