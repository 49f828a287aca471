use mathlib.Core.Path.{refl, sym}
use borrow.Author.Rules.{rules}
use Rattle.stateset.specs.Set.{width, digit}
use Rattle.stateset.specs.Set.Laws.{has_high}
use Rattle.stateset.proofs.member.Goals as goal

pub returns-then-q-lt-WIDTH : goal.returns-then-q-lt-WIDTH
unfolding digit
returns-then-q-lt-WIDTH c = refl

pub returns-else-q-lt-WIDTH : goal.returns-else-q-lt-WIDTH
returns-else-q-lt-WIDTH c = sym (has_high {w = width} {x = c.args.set} {q = c.args.q} (search rules) (search rules))
