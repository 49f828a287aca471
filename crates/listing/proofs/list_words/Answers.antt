use mathlib.Core.Path.{refl}
use lib.ListN.{replicate, set}
use Rattle.basics.specs.Lists.Laws.{zeros_at}
use native.Mathlib.Omega.{arith}
use Rattle.accepts.specs.Ready.Laws.{working_start}
use Rattle.listing.proofs.list_words.Goals as goal

pub take_input-t-requires : goal.take_input-t-requires
take_input-t-requires c = record { ready = (c.requires.ready, working_start c.args.m c.args.list.now c.args.targets.now c.args.kinds (set (replicate 1024 0) 0 1) (replicate 32768 0) (replicate 256 0) c.requires.ready.good (omega arith) refl (zeros_at 32768) refl (zeros_at 256)); read_from = c.requires.read_from; buffers = record { piece = omega arith; room = refl; within = omega arith } }

pub end_input-requires : goal.end_input-requires
end_input-requires c = record { ready = (c.requires.ready, c.take_input-t.ensures.working); read_from = c.requires.read_from; held_after = (c.take_input-t.ensures.held_after.0, omega (arith, c.take_input-t.ensures.held_after.1), omega (arith, c.requires.in_bounds, c.out-1.given), c.take_input-t.ensures.held_after.2) }
