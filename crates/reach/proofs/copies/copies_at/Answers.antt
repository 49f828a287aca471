use native.Mathlib.Omega.{arith}
use Rattle.images.specs.Moves.{graph_of}
use Rattle.subsets.proofs.MemoCases.{same_here, same_join}
use Rattle.images.proofs.SetCases.{members_is}
use Rattle.decide.proofs.StageCases.{fitting_set}
use Rattle.reach.proofs.StoreCases.{copying_start, copying_dead, copying_over, copying_again}
use Rattle.reach.proofs.copies.copies_at.Goals as goal

pub loop-s-init : goal.loop-s-init
loop-s-init c = (c.requires.0, omega arith, c.requires.1, c.requires.2, c.requires.3, c.requires.4, (λ near m. copying_start (graph_of c.args.t.now) c.args.word.now c.args.i near c.args.storing.now c.args.matching.now _ c.requires.1 c.requires.3 c.requires.4 m), c.begin-s.ensures.1, same_here _)

pub offset_bounds-storing-j : goal.offset_bounds-storing-j
offset_bounds-storing-j c = omega (arith, c.loop-s.invariant.2, c.loop-s.invariant.3)

pub bounds-storing-j : goal.bounds-storing-j
bounds-storing-j c = omega (arith, c.loop-s.invariant.2, c.loop-s.invariant.3)

pub offset_bounds-storing-j-in-loop-s : goal.offset_bounds-storing-j-in-loop-s
offset_bounds-storing-j-in-loop-s c = omega (arith, c.loop-s.invariant.2, c.loop-s.invariant.3)

pub bounds-storing-j-in-loop-s : goal.bounds-storing-j-in-loop-s
bounds-storing-j-in-loop-s c = omega (arith, c.loop-s.invariant.2, c.loop-s.invariant.3)

pub match_from-requires : goal.match_from-requires
match_from-requires c = (c.loop-s.invariant.0, c.loop-s.invariant.1, c.loop-s.invariant.2, c.loop-s.invariant.3, c.loop-s.invariant.5, c.loop-s.invariant.7)

pub returns-then-word-j : goal.returns-then-word-j
returns-then-word-j c = let (stored, matched) = copying_over (graph_of c.args.t.now) c.args.word.now c.args.i c.args.near.set c.args.storing.now c.args.matching.now _ _ _ _ (c.loop-s.invariant.6 c.args.near.set c.begin-s.ensures.0) _ _ c.loop-s.invariant.3 (members_is c.union.ensures) c.match_from.ensures.0 c.if-word-j.true in (stored, matched, c.match_from.ensures.1, same_join c.begin-s.ensures.2 (same_join c.loop-s.invariant.8 c.match_from.ensures.2))

pub bounds-word-j : goal.bounds-word-j
bounds-word-j c = omega (arith, c.if-word-j.false)

pub read-s-requires : goal.read-s-requires
read-s-requires c = (c.loop-s.invariant.0 c.loop-s.j (omega (arith, c.if-word-j.false)), c.match_from.ensures.1)

pub overflow_add-j : goal.overflow_add-j
overflow_add-j c = omega (arith, c.loop-s.invariant.2, c.loop-s.invariant.3)

pub loop-s-smaller : goal.loop-s-smaller
loop-s-smaller c = omega (arith, c.if-word-j.false)

pub loop-s-preserved : goal.loop-s-preserved
loop-s-preserved c = (c.loop-s.invariant.0, omega (arith, c.loop-s.invariant.1), omega (arith, c.if-word-j.false), c.loop-s.invariant.3, fitting_set c.loop-s.storing _ _ c.loop-s.invariant.4 (omega (arith, c.loop-s.invariant.2, c.loop-s.invariant.3)) (members_is c.union.ensures).fits, c.match_from.ensures.0.fitting, (λ near m. copying_again (graph_of c.args.t.now) c.args.word.now c.args.i near c.args.storing.now c.args.matching.now _ _ _ _ (c.loop-s.invariant.6 near m) _ _ c.loop-s.invariant.3 (members_is c.union.ensures) c.match_from.ensures.0 _ (omega (arith, c.if-word-j.false)) c.read-s.ensures.0), c.read-s.ensures.1, same_join c.loop-s.invariant.8 (same_join c.match_from.ensures.2 c.read-s.ensures.2))

pub returns : goal.returns
returns c = let (stored, matched) = copying_dead (graph_of c.args.t.now) c.args.word.now c.args.i c.args.near.set c.args.storing.now c.args.matching.now _ _ _ _ (c.loop-s.invariant.6 c.args.near.set c.begin-s.ensures.0) c.loop-s-test.false in (stored, matched, c.loop-s.invariant.7, same_join c.begin-s.ensures.2 c.loop-s.invariant.8)
