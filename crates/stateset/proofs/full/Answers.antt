use mathlib.Core.Path.{sym, ap, ◌∙◌}
use Prim.Native.Nat.{◌<◌, ◌-◌}
use borrow.Author.Rules.{rules}
use lib.Pow.{pow_pos}
use Rattle.stateset.specs.Set.{width}
use Rattle.stateset.specs.Set.Laws.{below_is, below_less, below_all, moved, bit_shifted}
use Rattle.stateset.proofs.full.Goals as goal

pub overflow_sub-result : goal.overflow_sub-result
overflow_sub-result c = let n = c.args.n in rw (bit_shifted width n (search rules)) (pow_pos n)

pub returns-then-n-lt-WIDTH : goal.returns-then-n-lt-WIDTH
returns-then-n-lt-WIDTH c =
    let n = c.args.n in
    let h : n < width = search rules in
    moved (ap (λ k. k - 1) (bit_shifted width n h) ∙ sym (below_less n h)) (below_is n)

pub returns-else-n-lt-WIDTH : goal.returns-else-n-lt-WIDTH
returns-else-n-lt-WIDTH c = let n = c.args.n in moved (sym (below_all n (search rules))) (below_is n)
