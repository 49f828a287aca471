use Rattle.shortest.specs.Put.Laws.{unload_start, unload_turn}
use Rattle.shortest.proofs.put.unload.Goals as goal

pub loop-k-init : goal.loop-k-init
loop-k-init c = unload_start _ _ _ _ c.requires.1 c.requires.2

pub loop-k-preserved : goal.loop-k-preserved
loop-k-preserved c = unload_turn _ _ _ _ c.requires.1 c.requires.2 _ _ c.loop-k-test.true c.loop-k.invariant
