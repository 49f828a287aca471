use native.Mathlib.Omega.{arith}
use borrow.Author.Rules.{rules}
use Rattle.images.specs.Moves.{graph_of}
use Rattle.subsets.proofs.MemoCases.{same_here, same_join}
use Rattle.images.proofs.SetCases.{members_is}
use Rattle.decide.proofs.StageCases.{fitting_set}
use Rattle.reach.proofs.MatchCases.{matching_start, matching_dead, matching_taken, matching_over, matching_differs, matching_again}
use Rattle.reach.proofs.copies.match_from.Goals as goal

pub loop-near-init : goal.loop-near-init
loop-near-init c = (c.requires.0, c.requires.1, c.requires.2, omega arith, omega arith, c.requires.3, c.requires.2, c.requires.4, (λ states m. matching_start (graph_of c.args.t.now) c.args.word.now c.args.i c.args.j states c.args.matching.now _ c.requires.1 c.requires.2 c.requires.4 m), c.begin-near.ensures.1, same_here _)

pub offset_bounds-matching-p : goal.offset_bounds-matching-p
offset_bounds-matching-p c = omega (arith, c.loop-near.invariant.2, c.loop-near.invariant.5)

pub bounds-matching-p : goal.bounds-matching-p
bounds-matching-p c = omega (arith, c.loop-near.invariant.2, c.loop-near.invariant.5)

pub offset_bounds-matching-p-in-loop-near : goal.offset_bounds-matching-p-in-loop-near
offset_bounds-matching-p-in-loop-near c = omega (arith, c.loop-near.invariant.2, c.loop-near.invariant.5)

pub bounds-matching-p-in-loop-near : goal.bounds-matching-p-in-loop-near
bounds-matching-p-in-loop-near c = omega (arith, c.loop-near.invariant.2, c.loop-near.invariant.5)

pub returns-then-j-k : goal.returns-then-j-k
returns-then-j-k c = (matching_taken (graph_of c.args.t.now) c.args.word.now c.args.i c.args.j c.args.s.set c.args.matching.now _ _ _ _ (c.loop-near.invariant.8 c.args.s.set c.begin-near.ensures.0) _ c.loop-near.invariant.5 (members_is c.union.ensures) c.if-j-k.true, c.loop-near.invariant.9, same_join c.begin-near.ensures.2 c.loop-near.invariant.10)

pub returns-then-word-p : goal.returns-then-word-p
returns-then-word-p c = (matching_over (graph_of c.args.t.now) c.args.word.now c.args.i c.args.j c.args.s.set c.args.matching.now _ _ _ _ (c.loop-near.invariant.8 c.args.s.set c.begin-near.ensures.0) _ c.loop-near.invariant.5 (members_is c.union.ensures) c.if-word-p.true, c.loop-near.invariant.9, same_join c.begin-near.ensures.2 c.loop-near.invariant.10)

pub bounds-word-k : goal.bounds-word-k
bounds-word-k c = omega (arith, c.if-j-k.false, c.loop-near.invariant.6)

pub bounds-word-p : goal.bounds-word-p
bounds-word-p c = omega (arith, c.if-word-p.false)

pub returns-then-word-p-2 : goal.returns-then-word-p-2
returns-then-word-p-2 c = (matching_differs (graph_of c.args.t.now) c.args.word.now c.args.i c.args.j c.args.s.set c.args.matching.now _ _ _ _ (c.loop-near.invariant.8 c.args.s.set c.begin-near.ensures.0) _ c.loop-near.invariant.5 (members_is c.union.ensures) c.if-word-p-2.true, c.loop-near.invariant.9, same_join c.begin-near.ensures.2 c.loop-near.invariant.10)

pub read-near-requires : goal.read-near-requires
read-near-requires c = (c.loop-near.invariant.0 c.loop-near.k (omega (arith, c.if-j-k.false, c.loop-near.invariant.6)), c.loop-near.invariant.9)

pub overflow_add-k : goal.overflow_add-k
overflow_add-k c = omega (arith, c.if-j-k.false, c.ranges.j.fits)

pub overflow_add-p : goal.overflow_add-p
overflow_add-p c = omega (arith, c.loop-near.invariant.2, c.loop-near.invariant.5)

pub loop-near-smaller : goal.loop-near-smaller
loop-near-smaller c = omega (arith, c.if-j-k.false)

pub loop-near-preserved : goal.loop-near-preserved
loop-near-preserved c = (c.loop-near.invariant.0, omega (arith, c.if-j-k.false), omega (arith, c.if-word-p.false), omega (arith, c.loop-near.invariant.3), omega (arith, c.loop-near.invariant.4), c.loop-near.invariant.5, c.loop-near.invariant.6, fitting_set c.loop-near.matching _ _ c.loop-near.invariant.7 (omega (arith, c.loop-near.invariant.2, c.loop-near.invariant.5)) (members_is c.union.ensures).fits, (λ states m. matching_again (graph_of c.args.t.now) c.args.word.now c.args.i c.args.j states c.args.matching.now _ _ _ _ (c.loop-near.invariant.8 states m) _ c.loop-near.invariant.5 (members_is c.union.ensures) _ (omega (arith, c.if-j-k.false)) (omega (arith, c.if-word-p.false)) (search rules) c.read-near.ensures.0), c.read-near.ensures.1, same_join c.loop-near.invariant.10 c.read-near.ensures.2)

pub returns : goal.returns
returns c = (matching_dead (graph_of c.args.t.now) c.args.word.now c.args.i c.args.j c.args.s.set c.args.matching.now _ _ _ _ (c.loop-near.invariant.8 c.args.s.set c.begin-near.ensures.0) c.loop-near-test.false, c.loop-near.invariant.9, same_join c.begin-near.ensures.2 c.loop-near.invariant.10)
