use mathlib.Core.Path.{sym, ap, ◌∙◌}
use Prim.Native.Nat.{◌<◌}
use borrow.Author.Rules.{rules}
use lib.Bits.{bit_or}
use Rattle.stateset.specs.Set.{width}
use Rattle.stateset.specs.Set.Laws.{added_is, added_state, added_other, moved, bit_shifted}
use Rattle.stateset.proofs.add.Goals as goal

pub returns-then-q-lt-WIDTH : goal.returns-then-q-lt-WIDTH
returns-then-q-lt-WIDTH c =
    let x = c.args.set in
    let q = c.args.q in
    let h : q < width = search rules in
    moved (ap (bit_or x) (bit_shifted width q h) ∙ sym (added_state x q h)) (added_is x q (search rules))

pub returns-else-q-lt-WIDTH : goal.returns-else-q-lt-WIDTH
returns-else-q-lt-WIDTH c =
    let x = c.args.set in
    let q = c.args.q in
    moved (sym (added_other x q (search rules))) (added_is x q (search rules))
