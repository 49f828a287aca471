use Rattle.std.proofs.Common.{◌≡◌, drop}
use Rattle.accepts.specs.Words.{good_ends}
use Rattle.accepts.proofs.words.are_good.Given as goal

abbrev pub invariant-loop-end : goal.invariant-loop-end
invariant-loop-end l = good_ends l.letters l.from (drop l.end-index l.ends) ≡ good_ends l.letters 0 l.ends
