use mathlib.Core.Path.{refl}
use native.Mathlib.Omega.{arith}
use lib.ListN.{replicate, set}
use Rattle.basics.specs.Lists.Laws.{zeros_at}
use Rattle.accepts.specs.Ready.Laws.{working_start}
use Rattle.accepts.proofs.words.answer_prepared.Goals as goal

pub answer_each-requires : goal.answer_each-requires
answer_each-requires c = (c.requires.0, working_start c.args.m c.args.list.now c.args.targets.now c.args.kinds (set (replicate 1024 0) 0 1) (replicate 32768 0) (replicate 256 0) c.requires.0.good (omega arith) refl (zeros_at 32768) refl (zeros_at 256), c.requires.1, c.requires.2)
