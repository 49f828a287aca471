use native.Mathlib.Omega.{arith}
use Prim.Native.Nat.{ℕ}
use mathlib.Core.Path.{sym, ap, ◌∙◌, subst}
use Rattle.fsbm.specs.Machine.{buffering}
use Rattle.shortest.specs.Find.{Finds, MatchFits, pair_unit}
use Rattle.fsbm.specs.Rules.{rules as rules_of}
use Rattle.fsbm.specs.declared.machine.Transition.{Transition}
use Rattle.shortest.proofs.FindCases.{letter_none, letter_matching, letter_buffering, letter_finds}
use Rattle.shortest.proofs.traced.Traced.letter_fits.Goals as goal

pub returns-then-u-eq0 : goal.returns-then-u-eq0
returns-then-u-eq0 c = letter_none _ _ _ _ _ _ _ c.transition-u.ensures c.if-u-eq0.true

pub returns-then-both_matching : goal.returns-then-both_matching
returns-then-both_matching c = letter_matching _ _ _ _ _ _ _ c.transition-u.ensures (sym c.both_matching.ensures ∙ c.if-both_matching.true)

pub returns-then-is_buffering : goal.returns-then-is_buffering
returns-then-is_buffering c = letter_buffering _ _ _ _ _ _ _ c.transition-u.ensures (ap (buffering c.args.self.now.searched.now.table.machine.marks) (sym c.from.ensures) ∙ (sym c.is_buffering.ensures ∙ c.if-is_buffering.true))

pub find_match-j-requires : goal.find_match-j-requires
find_match-j-requires c = let T = rules_of _ _ c.args.self.now.searched.now.ready.good in let l = T.from_below c.args.k c.requires.1 in (omega (arith, c.from-2.ensures, ap (λ (t : Transition). t.from) c.transition-u.ensures, T.states_fit, l), c.requires.0)

pub returns : goal.returns
returns c = rw c.is_some.ensures
    (letter_finds _ _ _ _ _ _ _ c.transition-u.ensures c.if-u-eq0.false (sym c.both_matching.ensures ∙ c.if-both_matching.false)
    (ap (buffering c.args.self.now.searched.now.table.machine.marks) (sym c.from.ensures) ∙ (sym c.is_buffering.ensures ∙ c.if-is_buffering.false)) _
    (subst (λ (p : ℕ). Finds c.args.self.now.searched.now.table.machine.transitions (MatchFits c.args.self.now.searched.now.table.machine c.args.self.now.searched.now.table.list.now c.args.b.now p c.args.t c.transition-u.result.letter pair_unit c.args.want) c.find_match-j.result) c.from-2.ensures c.find_match-j.ensures))
