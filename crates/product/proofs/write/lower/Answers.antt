use Prim.Native.Nat.{ℕ, ◌≤◌, ◌<◌}
use Rattle.std.proofs.Common.{rules, sym, subst}
use borrow.Author.Tests.{tests}
use Rattle.std.proofs.lemmas.Iterator.{first_from_Range}
use Rattle.product.specs.Order.{letter_key, Lower}
use Rattle.product.proofs.WriteCases.{lower_is}
use Rattle.product.proofs.write.lower.Goals as goal

pub returns : goal.returns
returns c =
    subst (λ (r : ℕ). Lower c.args.t.now.list.now c.args.t.now.machine.transitions c.args.j c.args.y r) (sym c.unwrap_or.ensures)
    (lower_is c.args.t.now.list.now c.args.t.now.machine.transitions c.args.j c.args.y c.requires c.find.result
    (first_from_Range _ _ _ c.find.result (λ u. c.args.y ≤ letter_key c.args.t.now.list.now u) (λ u. letter_key c.args.t.now.list.now u < c.args.y) c.find.ensures.ran (λ x q k. search (rules, tests))
    (λ x q k. search (rules, tests))))
