use native.Mathlib.Omega.{arith}
use Prim.Native.Nat.{ℕ, ◌≤◌, ◌<◌}
use Rattle.std.specs.Prelude.{MatchOption}
use Rattle.std.proofs.Common.{rules}
use Rattle.std.proofs.lemmas.Grind.{common_steps}
use Rattle.std.proofs.lemmas.Iterator.{first_from_Range}
use Rattle.blocks.specs.Stretches.{key_of}
use Rattle.blocks.specs.Stretches.Laws.{found_is}
use Rattle.blocks.proofs.index.seek.Goals as goal

pub returns : goal.returns
returns c =
    let f : MatchOption c.find.result ((t : ℕ) → c.args.k ≤ t → t < c.args.n → key_of c.args.list.now c.args.stride t < c.args.y)
    (λ r. (c.args.k ≤ r) × (r < c.args.n) × (c.args.y ≤ key_of c.args.list.now c.args.stride r) × ((t : ℕ) → c.args.k ≤ t → t < r → key_of c.args.list.now c.args.stride t < c.args.y)) =
    first_from_Range _ _ _ _ _ _ c.find.ensures.ran (λ x q e. grind (arith, common_steps, e.called.met)) (λ x q e. (search (rules, e.called.met), grind (arith, common_steps, e.called.met))) in
    rw c.unwrap_or.ensures (found_is c.args.list.now c.args.stride c.args.k c.args.n c.args.y c.find.result f c.requires.1)
