use mathlib.Core.Path.{refl}
use borrow.Author.Tests.{eq-eqb, ne_eqb}
use Rattle.basics.specs.Search.Loops.{first, second}
use Rattle.fsbm.proofs.machine.states_for.Goals as goal

pub returns-then-v-eq0 : goal.returns-then-v-eq0
returns-then-v-eq0 c = first _ (eq-eqb _ _ c.if-v-eq0.true) refl

pub returns : goal.returns
returns c = second 0 (ne_eqb _ _ c.if-v-eq0.false) refl
