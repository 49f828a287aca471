use native.Mathlib.Omega.{arith}
use Prim.Native.Nat.{ℕ, ◌+◌, ◌-◌}
use mathlib.Core.Path.{sym, ap, ◌∙◌, subst}
use lib.ListN.{get_or, set}
use Rattle.fsbm.specs.Rules.{rules as rules_of}
use Rattle.fsbm.specs.declared.machine.Transition.{Transition}
use Rattle.shortest.specs.Into.{IntoFrom}
use Rattle.shortest.specs.Into.Laws.{into_start, into_turn}
use Rattle.shortest.proofs.into.into.Goals as goal

pub loop-k-init : goal.loop-k-init
loop-k-init c = into_start _ _ (rules_of _ _ c.args.table.now.obeys)

pub bounds-links-q : goal.bounds-links-q
bounds-links-q c = let T = rules_of _ _ c.args.table.now.obeys in let l = T.to_below (c.loop-k.k - 1) (omega arith) in omega (arith, c.from-q.ensures, ap (λ (t : Transition). t.to) c.transition.ensures, T.states_fit, l)

pub overflow_add-links : goal.overflow_add-links
overflow_add-links c = omega (arith, (rules_of _ _ c.args.table.now.obeys).transitions_fit)

pub offset_bounds-links-k : goal.offset_bounds-links-k
offset_bounds-links-k c = omega (arith, (rules_of _ _ c.args.table.now.obeys).transitions_fit)

pub bounds-links-k : goal.bounds-links-k
bounds-links-k c = omega (arith, (rules_of _ _ c.args.table.now.obeys).transitions_fit)

pub overflow_cast-links : goal.overflow_cast-links
overflow_cast-links c = omega (arith, (rules_of _ _ c.args.table.now.obeys).transitions_fit)

pub bounds-links-q-in-loop-k : goal.bounds-links-q-in-loop-k
bounds-links-q-in-loop-k c = let T = rules_of _ _ c.args.table.now.obeys in let l = T.to_below (c.loop-k.k - 1) (omega arith) in omega (arith, c.from-q.ensures, ap (λ (t : Transition). t.to) c.transition.ensures, T.states_fit, l)

pub loop-k-preserved : goal.loop-k-preserved
loop-k-preserved c =
    subst (λ (q : ℕ). IntoFrom c.args.table.now.machine.transitions c.args.table.now.list.now (c.loop-k.k - 1) (set (set c.loop-k.links (64 + (c.loop-k.k - 1)) (get_or c.loop-k.links q 0)) q (c.loop-k.k - 1)))
    (sym (c.from-q.ensures ∙ ap (λ (t : Transition). t.to) c.transition.ensures)) (into_turn _ _ (rules_of _ _ c.args.table.now.obeys) c.loop-k.links _ _ (omega arith) (omega arith) c.loop-k.invariant)

pub returns : goal.returns
returns c = subst (λ (k : ℕ). IntoFrom c.args.table.now.machine.transitions c.args.table.now.list.now k c.loop-k.links) (omega (arith, c.loop-k-test.false)) c.loop-k.invariant
