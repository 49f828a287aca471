use Prim.Native.Nat.{ℕ, ◌+◌}
use mathlib.Core.Path.{refl, ap, ◌∙◌}
use native.Mathlib.Omega.{arith}
use Rattle.fsbm.specs.Machine.{good_transition}
use Rattle.fsbm.proofs.MachineCases.{least_next, transitions_unnamed, transitions_fall, transitions_next, transitions_none, transitions_done, rank_small}
use Rattle.fsbm.proofs.machine.good_transitions.Goals as goal

pub loop-k-init : goal.loop-k-init
loop-k-init c = (omega arith, transitions_none _, refl)

pub present_transition-t-requires : goal.present_transition-t-requires
present_transition-t-requires c = omega (arith, c.loop-k-test.true, c.requires)

pub returns-then-not-is_named : goal.returns-then-not-is_named
returns-then-not-is_named c = transitions_unnamed c.args.states c.args.letters c.args.list.now c.loop-k.k c.loop-k.least c.present_transition-t.result c.present_transition-t.ensures c.loop-k.invariant.2 (λ i. omega (arith, c.type_inv.list i)) c.is_named.result c.is_named.ensures c.args.n c.loop-k-test.true (c.if-not-is_named.true)

pub returns-then-here-least : goal.returns-then-here-least
returns-then-here-least c = transitions_fall c.args.states c.args.letters c.args.list.now c.loop-k.k c.loop-k.least c.present_transition-t.result c.present_transition-t.ensures c.loop-k.invariant.2 (λ i. omega (arith, c.type_inv.list i)) c.is_named.result c.is_named.ensures c.args.n c.loop-k-test.true (omega (arith, c.if-here-least.true, c.rank-here.ensures))

pub overflow_add-least : goal.overflow_add-least
overflow_add-least c = omega (arith, c.rank-here.ensures, rank_small c.args.states c.args.letters c.args.list.now c.loop-k.k c.loop-k.least c.present_transition-t.result c.present_transition-t.ensures c.loop-k.invariant.2 (λ i. omega (arith, c.type_inv.list i)) c.is_named.result c.is_named.ensures)

pub loop-k-smaller : goal.loop-k-smaller
loop-k-smaller c = omega arith

pub loop-k-preserved : goal.loop-k-preserved
loop-k-preserved c = (omega arith, transitions_next c.args.states c.args.letters c.args.list.now c.loop-k.k c.loop-k.least c.present_transition-t.result c.present_transition-t.ensures c.loop-k.invariant.2 (λ i. omega (arith, c.type_inv.list i)) c.is_named.result c.is_named.ensures (c.if-not-is_named.false) (omega (arith, c.if-here-least.false, c.rank-here.ensures)) c.loop-k.invariant.1, ap (λ (x : ℕ). x + 1) c.rank-here.ensures ∙ least_next c.args.list.now c.loop-k.k c.present_transition-t.result c.present_transition-t.ensures)

pub returns : goal.returns
returns c = transitions_done (good_transition c.args.states c.args.letters c.args.list.now) c.loop-k.k c.args.n c.loop-k.invariant.1 (omega arith)
