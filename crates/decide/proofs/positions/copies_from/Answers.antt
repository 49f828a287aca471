use Prim.Native.Nat.{◌+◌}
use native.Mathlib.Omega.{arith}
use lib.Bits.{bit_and}
use Rattle.fsbm.specs.declared.config.Mode.TheVariants.{Buffering}
use Rattle.images.specs.Graph.{Free}
use Rattle.images.specs.Moves.{graph_of}
use Rattle.images.proofs.SetCases.{members_is}
use Rattle.subsets.specs.Rows.Laws.{from_begun}
use Rattle.subsets.proofs.MemoCases.{same_here, same_join}
use Rattle.decide.proofs.StageCases.{fitting_set}
use Rattle.decide.proofs.CopyCases.{turning_all, shared, copying_start, copying_turn, copying_pass, copying_dead, copying_end, tailed_start, tailed_at}
use Rattle.decide.proofs.positions.copies_from.Goals as goal

pub loop-at-init : goal.loop-at-init
loop-at-init c = (c.requires.3, c.requires.4, (λ starts m. copying_start (graph_of c.args.t.now) c.args.word.now c.args.i starts c.args.sets.now _ c.args.last c.requires.5 c.requires.4 m), tailed_start (graph_of c.args.t.now) c.args.word.now c.args.i, omega arith, c.begin-s.ensures.1, same_here _)

pub returns-then-s-eq0 : goal.returns-then-s-eq0
returns-then-s-eq0 c = (c.loop-at.invariant.0, c.loop-at.invariant.1, copying_dead (graph_of c.args.t.now) _ _ _ _ _ _ _ _ (c.loop-at.invariant.2 (bit_and c.args.near.set c.args.t.now.buffering) (from_begun c.args.near.set c.args.t.now.buffering _ c.begin-s.result.set (Free (graph_of c.args.t.now) Buffering) (shared c.args.near.set c.args.t.now.buffering c.requires.6) c.begin-s.ensures.0)) c.if-s-eq0.true, c.loop-at.invariant.5, same_join c.begin-s.ensures.2 c.loop-at.invariant.6)

pub read-s-requires : goal.read-s-requires
read-s-requires c = (c.requires.0 c.loop-at.at (omega (arith, c.requires.5.room, c.requires.2)), c.loop-at.invariant.5)

pub turning-ready-requires : goal.turning-ready-requires
turning-ready-requires c = (omega arith, omega (arith, c.requires.5.room, c.requires.2), c.requires.2, ((λ d. c.args.i + d), omega arith, c.loop-at.invariant.0))

pub tail_to-tail-requires : goal.tail_to-tail-requires
tail_to-tail-requires c = (c.requires.0, c.loop-at.invariant.3, omega arith, omega (arith, c.requires.5.room, c.requires.2), turning_all c.args.word.now c.args.i _ _ c.args.t.now.matching c.turning-ready.result c.turning-ready.ensures.members c.if-ready-eq0.false, c.read-s.ensures.1)

pub offset_bounds-sets-e : goal.offset_bounds-sets-e
offset_bounds-sets-e c = omega (arith, c.requires.5.room, c.requires.2)

pub bounds-sets-e : goal.bounds-sets-e
bounds-sets-e c = omega (arith, c.requires.5.room, c.requires.2)

pub offset_bounds-sets-e-in-loop-at : goal.offset_bounds-sets-e-in-loop-at
offset_bounds-sets-e-in-loop-at c = omega (arith, c.requires.5.room, c.requires.2)

pub bounds-sets-e-in-loop-at : goal.bounds-sets-e-in-loop-at
bounds-sets-e-in-loop-at c = omega (arith, c.requires.5.room, c.requires.2)

pub loop-at-preserved : goal.loop-at-preserved
loop-at-preserved c = (c.turning-ready.ensures.kept _ (omega arith) c.loop-at.invariant.0, fitting_set c.loop-at.sets _ _ c.loop-at.invariant.1 (omega (arith, c.requires.5.room, c.requires.2)) (members_is c.union.ensures).fits, (λ starts m. copying_turn (graph_of c.args.t.now) c.args.word.now c.args.i starts _ _ _ _ _ (c.loop-at.invariant.2 starts m) _ _ c.loop-at-test.true c.read-s.ensures.0 c.turning-ready.ensures.members _ _ (tailed_at (graph_of c.args.t.now) _ _ _ _ _ c.tail_to-tail.ensures.0 c.tail_to-tail.ensures.1 c.tail_to-tail.ensures.2) (members_is c.union.ensures) c.requires.2), c.tail_to-tail.ensures.0, omega (arith, c.tail_to-tail.ensures.2), c.tail_to-tail.ensures.3, same_join c.loop-at.invariant.6 (same_join c.read-s.ensures.2 c.tail_to-tail.ensures.4))

pub loop-at-preserved-then-ready-eq0 : goal.loop-at-preserved-then-ready-eq0
loop-at-preserved-then-ready-eq0 c = (c.turning-ready.ensures.kept _ (omega arith) c.loop-at.invariant.0, c.loop-at.invariant.1, (λ starts m. copying_pass (graph_of c.args.t.now) c.args.word.now c.args.i starts _ _ _ _ _ (c.loop-at.invariant.2 starts m) _ _ c.loop-at-test.true c.read-s.ensures.0 c.turning-ready.ensures.members c.if-ready-eq0.true), c.loop-at.invariant.3, omega arith, c.read-s.ensures.1, same_join c.loop-at.invariant.6 c.read-s.ensures.2)

pub returns : goal.returns
returns c = (c.loop-at.invariant.0, c.loop-at.invariant.1, copying_end (graph_of c.args.t.now) _ _ _ _ _ _ _ _ (c.loop-at.invariant.2 (bit_and c.args.near.set c.args.t.now.buffering) (from_begun c.args.near.set c.args.t.now.buffering _ c.begin-s.result.set (Free (graph_of c.args.t.now) Buffering) (shared c.args.near.set c.args.t.now.buffering c.requires.6) c.begin-s.ensures.0)) c.loop-at-test.false, c.loop-at.invariant.5, same_join c.begin-s.ensures.2 c.loop-at.invariant.6)
