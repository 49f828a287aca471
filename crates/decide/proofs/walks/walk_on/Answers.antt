use native.Mathlib.Omega.{arith}
use Rattle.fsbm.specs.declared.config.Mode.TheVariants.{Emptying}
use Rattle.images.specs.Moves.{graph_of}
use Rattle.subsets.proofs.MemoCases.{same_here, same_join}
use Rattle.decide.proofs.CopyCases.{walks_turn, walks_dead, walks_to}
use Rattle.decide.proofs.walks.walk_on.Goals as goal

pub loop-at-init : goal.loop-at-init
loop-at-init c = ((λ i set le m. m), c.requires.3, same_here _)

pub returns-then-near-eq0 : goal.returns-then-near-eq0
returns-then-near-eq0 c = ((λ i set le m. walks_dead (graph_of c.args.t.now) c.args.word.now Emptying i set _ _ _ (omega (arith, le)) (omega arith) c.if-near-eq0.true (c.loop-at.invariant.0 i set le m)), c.loop-at.invariant.1, c.loop-at.invariant.2)

pub read-near-requires : goal.read-near-requires
read-near-requires c = (c.requires.0 c.loop-at.at (omega (arith, c.requires)), c.loop-at.invariant.1)

pub loop-at-preserved : goal.loop-at-preserved
loop-at-preserved c = ((λ i set le m. walks_turn (graph_of c.args.t.now) c.args.word.now Emptying i set _ _ _ (omega (arith, le)) (omega (arith, c.requires)) (c.loop-at.invariant.0 i set le m) c.read-near.ensures.0), c.read-near.ensures.1, same_join c.loop-at.invariant.2 c.read-near.ensures.2)

pub returns : goal.returns
returns c = ((λ i set le m. walks_to (graph_of c.args.t.now) c.args.word.now Emptying i set _ _ _ (omega (arith, c.requires)) (c.loop-at.invariant.0 i set le m)), c.loop-at.invariant.1, c.loop-at.invariant.2)
