use mathlib.Core.Path.{refl}
use borrow.Author.Tests.{le-leb, lt-leb}
use Rattle.basics.specs.Search.Loops.{first, second}
use Rattle.lines.proofs.byte.Goals as goal

pub returns-then-v-gt255 : goal.returns-then-v-gt255
returns-then-v-gt255 c = second _ (lt-leb _ _ c.if-v-gt255.true) refl

pub returns : goal.returns
returns c = first _ (le-leb _ _ c.if-v-gt255.false) refl
