use native.Mathlib.Omega.{arith}
use Prim.Native.Nat.{ℕ}
use mathlib.Core.Path.{sym, ap, ◌∙◌, subst}
use Rattle.shortest.specs.Find.{Finds, MatchFits, pair_unit}
use Rattle.fsbm.specs.Rules.{rules as rules_of}
use Rattle.fsbm.specs.declared.machine.Transition.{Transition}
use Rattle.shortest.proofs.FindCases.{back_storing, back_matching, back_none, back_both}
use Rattle.shortest.proofs.traced.Traced.back.Goals as goal

pub returns-then-is_some : goal.returns-then-is_some
returns-then-is_some c = back_storing _ _ _ _ _ _ c.number-want.ensures _ c.find_store-storing.ensures (sym c.is_some.ensures ∙ c.if-is_some.true)

pub returns-then-is_some-2 : goal.returns-then-is_some-2
returns-then-is_some-2 c = back_matching _ _ _ _ _ _ c.number-want.ensures _ c.find_match-matching.ensures (sym c.is_some-2.ensures ∙ c.if-is_some-2.true)

pub returns-in_default : goal.returns-in_default
returns-in_default c =
    back_none _ _ _ _ _ _ c.number-want.ensures _ _ _ c.find_store-storing.ensures c.find_match-matching.ensures c.find_letter.ensures (sym c.is_some.ensures ∙ c.if-is_some.false)
    (sym c.is_some-2.ensures ∙ c.if-is_some-2.false) c.in_default.is

pub find_match-matching-requires-2 : goal.find_match-matching-requires-2
find_match-matching-requires-2 c = let T = rules_of _ _ c.args.self.now.searched.now.ready.good in let l = T.from_below c.in-Some.k c.in-Some.ensures.0 in (omega (arith, c.from.ensures, ap (λ (t : Transition). t.from) c.transition-u.ensures, T.states_fit, l), c.requires.1)

pub returns : goal.returns
returns c = back_both _ _ _ _ _ _ c.number-want.ensures _ _ _ c.transition-u.ensures c.in-Some.ensures
    (subst (λ (p : ℕ). Finds c.args.self.now.searched.now.table.machine.transitions (MatchFits c.args.self.now.searched.now.table.machine c.args.self.now.searched.now.table.list.now c.args.b.now p c.args.t c.transition-u.result.letter pair_unit c.number-want.result) c.find_match-matching-2.result) c.from.ensures c.find_match-matching-2.ensures)
