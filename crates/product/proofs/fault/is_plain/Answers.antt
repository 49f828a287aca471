use Rattle.std.proofs.Common.{rules, arith, refl, sym, ◌∙◌}
use Rattle.std.proofs.lemmas.Iterator.{YieldsList-from_range}
use Rattle.std.proofs.lemmas.Iterator.Search.{all_from_yields_List}
use borrow.Author.Tests.{tests}
use Rattle.basics.specs.Search.Loops.{pass, stop}
use Rattle.product.specs.Product.{plain, plain_state, plain_transition}
use Rattle.product.proofs.FaultCases.{all_range}
use Rattle.product.proofs.fault.is_plain.Goals as goal

pub returns-then-all : goal.returns-then-all
unfolding plain
returns-then-all c =
    pass (sym (all_from_yields_List (plain_state c.args.t.now.machine.marks) _ _ _ c.all.ensures.ran (YieldsList-from_range 0 c.args.t.now.machine.states c.args.t.now.machine.states refl (omega arith)) (λ x b q k. search (rules, tests))
    ∙ all_range _ _) ∙ c.if-all.true)
    (all_from_yields_List (plain_transition c.args.t.now.list.now) _ _ _ c.all-then-all.ensures.ran (YieldsList-from_range 0 c.args.t.now.machine.transitions c.args.t.now.machine.transitions refl (omega arith)) (λ x b q k. search (rules, tests))
    ∙ all_range _ _)

pub returns-else-all : goal.returns-else-all
unfolding plain
returns-else-all c =
    c.if-all.false ∙ stop _ (sym (all_from_yields_List (plain_state c.args.t.now.machine.marks) _ _ _ c.all.ensures.ran (YieldsList-from_range 0 c.args.t.now.machine.states c.args.t.now.machine.states refl (omega arith)) (λ x b q k. search (rules, tests))
    ∙ all_range _ _) ∙ c.if-all.false)
