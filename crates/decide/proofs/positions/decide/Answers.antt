use mathlib.Core.Path.{refl, sym, subst}
use native.Mathlib.Omega.{arith}
use Prim.Native.Nat.{◌+◌, ◌≤◌}
use lib.ListN.{length, replicate}
use Rattle.basics.specs.Lists.Laws.{zeros_at}
use Rattle.fsbm.specs.Rules.{rules as rules_of}
use Rattle.images.specs.Graph.{Graph, graph, Fitting}
use Rattle.images.proofs.SetCases.{members_is}
use Rattle.subsets.specs.Rows.{Kept}
use Rattle.subsets.specs.Rows.Laws.{kept_start}
use Rattle.decide.specs.Reach.{Rooms, Stage}
use Rattle.decide.proofs.Tables.{good_table, rooms}
use Rattle.decide.proofs.Decided.{decided, normal_sets}
use Rattle.decide.proofs.StageCases.{stage_end}
use Rattle.decide.proofs.positions.decide.Goals as goal

pub columns_for-requires : goal.columns_for-requires
columns_for-requires c = (rules_of c.args.t.now.machine c.args.t.now.list.now c.args.t.now.obeys).letters_fit

pub new-moves-requires : goal.new-moves-requires
new-moves-requires c = good_table c.requires.1 c.args.t.now.obeys c.args.kinds c.requires.2

pub reach_all-requires : goal.reach_all-requires
reach_all-requires c = subst (λ (G : Graph). Rooms G.targets G.states c.args.word.now × (length c.args.word.now ≤ 255) × Fitting 256 c.start_at-r.result.sets × Kept G c.columns_for.result (replicate 1 1) (replicate 1 0)) (sym c.new-moves.ensures) (rooms c.requires.1, c.requires.0, (c.start_at-r.ensures (graph c.args.targets.now c.args.t.now.machine.states c.args.kinds.buffering c.args.kinds.matching) c.args.word.now).fitting, kept_start (graph c.args.targets.now c.args.t.now.machine.states c.args.kinds.buffering c.args.kinds.matching) c.columns_for.result (replicate 1 1) (replicate 1 0) (let l = (rules_of c.args.t.now.machine c.args.t.now.list.now c.args.t.now.obeys).letters_fit in omega (arith, l, c.columns_for.ensures)) (omega arith) refl (zeros_at 1))

pub returns : goal.returns
returns c =
    let stage = (subst (λ (G : Graph). Stage G c.args.word.now c.args.kinds.initial c.reach_all.new.sets (length c.args.word.now + 1)) c.new-moves.ensures (c.reach_all.ensures.0 c.args.kinds.initial (c.start_at-r.ensures _ _))) in (
      decided c.args.t.now.machine c.args.t.now.list.now c.args.word.now c.args.targets.now c.args.t.now.obeys c.requires.1 c.args.kinds c.requires.2 _ _ (stage_end (graph c.args.targets.now c.args.t.now.machine.states c.args.kinds.buffering c.args.kinds.matching) c.args.word.now c.args.kinds.initial _ stage) (members_is c.intersection-shared.ensures),
      normal_sets c.args.t.now.machine c.args.t.now.list.now c.args.word.now c.args.targets.now c.args.t.now.obeys c.requires.1 c.args.kinds c.requires.2 _ stage,
    )
