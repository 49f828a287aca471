use mathlib.Core.Path.{refl}
use borrow.Author.Tests.{le-ltb, lt-ltb}
use Rattle.basics.specs.Search.Loops.{first, second}
use Rattle.product.specs.Product.{joined_mark}
use Rattle.product.proofs.marks.joined_mark.Goals as goal

pub returns-then-first-second : goal.returns-then-first-second
unfolding joined_mark
returns-then-first-second c = second _ (le-ltb _ _ c.if-first-second.true) refl

pub returns : goal.returns
unfolding joined_mark
returns c = first 0 (lt-ltb _ _ c.if-first-second.false) c.pair_mark.ensures
