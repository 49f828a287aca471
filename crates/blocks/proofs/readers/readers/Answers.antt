use Prim.Native.Nat.{ℕ}
use lib.ListN.{length-replicate}
use Rattle.basics.specs.Lists.Laws.{zeros_at}
use Rattle.blocks.specs.Readers.Laws.{readers_start}
use Rattle.blocks.proofs.readers.readers.Goals as goal

pub loop-k-init : goal.loop-k-init
loop-k-init c = readers_start _ _ _ (length-replicate {A = ℕ} 251 0) (zeros_at 251)
