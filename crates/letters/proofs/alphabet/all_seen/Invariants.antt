use Rattle.std.proofs.Common.{◌≡◌, not, eqb}
use Rattle.basics.specs.Search.{all_below}
use Rattle.letters.specs.Seen.{noted}
use Rattle.letters.proofs.alphabet.all_seen.Given as goal

abbrev pub invariant-loop-k : goal.invariant-loop-k
invariant-loop-k l = not (eqb l.least 0) ≡ all_below l.k (noted l.seen)
