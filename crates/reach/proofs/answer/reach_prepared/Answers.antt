use Prim.Native.Nat.{◌+◌}
use mathlib.Core.Path.{refl}
use native.Mathlib.Omega.{arith}
use lib.ListN.{set, replicate}
use Rattle.basics.specs.Lists.Laws.{zeros_at}
use Rattle.fsbm.proofs.AnswerCases.{table_good}
use Rattle.fsbm.specs.Rules.{rules as rules_of}
use Rattle.images.specs.Graph.{graph}
use Rattle.subsets.specs.Rows.Laws.{kept_start}
use Rattle.reach.proofs.answer.reach_prepared.Goals as goal

pub reach_with-requires : goal.reach_with-requires
reach_with-requires c = (c.requires.0, c.requires.1, c.requires.2, c.requires.3, kept_start (graph c.args.targets.now c.args.m.states c.args.kinds.buffering c.args.kinds.matching) (c.args.m.letters + 2) (set (replicate 1024 0) 0 1) (replicate 32768 0) (let l = (rules_of c.args.m c.args.list.now (table_good 255 c.args.m c.args.list.now c.args.word.now c.requires.0).0).letters_fit in omega (arith, l)) (omega arith) refl (zeros_at 32768))
