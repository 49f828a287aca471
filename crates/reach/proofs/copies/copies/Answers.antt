use Prim.Native.Nat.{◌+◌}
use native.Mathlib.Omega.{arith}
use lib.ListN.{length}
use Rattle.images.specs.Moves.{graph_of}
use Rattle.subsets.proofs.MemoCases.{same_here, same_join}
use Rattle.reach.proofs.StoreCases.{copies_start, copies_again, copies_end}
use Rattle.reach.proofs.copies.copies.Goals as goal

pub loop-i-init : goal.loop-i-init
loop-i-init c = (copies_start (graph_of c.args.t.now) c.args.word.now c.args.normal.now _ _ c.requires.3 c.requires.4, c.requires.5, same_here _)

pub offset_bounds-normal-i : goal.offset_bounds-normal-i
offset_bounds-normal-i c = omega (arith, c.requires)

pub bounds-normal-i : goal.bounds-normal-i
bounds-normal-i c = omega (arith, c.requires)

pub copies_at-requires : goal.copies_at-requires
copies_at-requires c = (c.requires.0, omega arith, c.requires.1, c.loop-i.invariant.0.0.fitting, c.loop-i.invariant.0.1.fitting, c.loop-i.invariant.1)

pub loop-i-preserved : goal.loop-i-preserved
loop-i-preserved c = (copies_again (graph_of c.args.t.now) c.args.word.now c.args.normal.now _ _ _ _ _ _ c.loop-i.i c.loop-i.invariant.0 c.copies_at.ensures.0 c.copies_at.ensures.1, c.copies_at.ensures.2, same_join c.loop-i.invariant.2 c.copies_at.ensures.3)

pub returns : goal.returns
returns c = let (stored, matched) = copies_end (graph_of c.args.t.now) c.args.word.now c.args.normal.now _ _ _ _ c.loop-i.i (length c.args.word.now + 1) (omega arith) c.loop-i.invariant.0 in (stored, matched, c.loop-i.invariant.1, c.loop-i.invariant.2)

pub returns-2 : goal.returns-2
returns-2 c =
    let more = copies_again (graph_of c.args.t.now) c.args.word.now c.args.normal.now _ _ _ _ _ _ c.loop-i.i c.loop-i.invariant.0 c.copies_at.ensures.0 c.copies_at.ensures.1 in
    let (stored, matched) = copies_end (graph_of c.args.t.now) c.args.word.now c.args.normal.now _ _ _ _ (c.loop-i.i + 1) (length c.args.word.now + 1) (omega arith) more in
    (stored, matched, c.copies_at.ensures.2, same_join c.loop-i.invariant.2 c.copies_at.ensures.3)
