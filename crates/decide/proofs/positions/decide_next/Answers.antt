use mathlib.Core.Path.{sym, subst, ◌∙◌}
use Prim.Native.Nat.{◌+◌, ◌≤◌}
use lib.ListN.{length, set}
use Rattle.fsbm.specs.Rules.{rules as rules_of}
use Rattle.images.specs.Graph.{Graph, graph, Fitting}
use Rattle.images.proofs.SetCases.{members_is}
use Rattle.subsets.specs.Rows.{Kept}
use Rattle.subsets.proofs.MemoCases.{holds_lent}
use Rattle.decide.specs.Reach.{Rooms, Stage}
use Rattle.decide.proofs.Tables.{good_table, rooms}
use Rattle.decide.proofs.Decided.{decided}
use Rattle.decide.proofs.StageCases.{stage_start, stage_end, cleared}
use Rattle.decide.proofs.positions.decide_next.Goals as goal

pub columns_for-requires : goal.columns_for-requires
columns_for-requires c = (rules_of c.args.t.now.machine c.args.t.now.list.now c.args.t.now.obeys).letters_fit

pub new-moves-requires : goal.new-moves-requires
new-moves-requires c = good_table c.requires.1 c.args.t.now.obeys c.args.kinds c.requires.2

pub reach_all-requires : goal.reach_all-requires
reach_all-requires c = subst (λ (G : Graph). Rooms G.targets G.states c.args.word.now × (length c.args.word.now ≤ 255) × Fitting 256 (set c.args.sets.now 0 c.args.kinds.initial) × Kept G c.columns_for.result c.args.rows.now c.args.steps.now) (sym c.new-moves.ensures) (rooms c.requires.1, c.requires.0, (stage_start (graph c.args.targets.now c.args.t.now.machine.states c.args.kinds.buffering c.args.kinds.matching) c.args.word.now c.args.kinds.initial c.args.sets.now c.requires.4 c.requires.2.initial.fits).fitting, rw c.columns_for.ensures c.requires.3)

pub clear-requires : goal.clear-requires
clear-requires c = (c.requires.0, (subst (λ (G : Graph). Stage G c.args.word.now c.args.kinds.initial c.reach_all.new.sets (length c.args.word.now + 1)) c.new-moves.ensures (c.reach_all.ensures.0 c.args.kinds.initial (stage_start _ _ _ _ c.requires.4 c.requires.2.initial.fits))).fitting.size)

pub returns : goal.returns
returns c =
    let stage = (subst (λ (G : Graph). Stage G c.args.word.now c.args.kinds.initial c.reach_all.new.sets (length c.args.word.now + 1)) c.new-moves.ensures (c.reach_all.ensures.0 c.args.kinds.initial (stage_start _ _ _ _ c.requires.4 c.requires.2.initial.fits))) in
    let same = c.reach_all.ensures.2 in (
      decided c.args.t.now.machine c.args.t.now.list.now c.args.word.now c.args.targets.now c.args.t.now.obeys c.requires.1 c.args.kinds c.requires.2 _ _ (stage_end (graph c.args.targets.now c.args.t.now.machine.states c.args.kinds.buffering c.args.kinds.matching) c.args.word.now c.args.kinds.initial _ stage) (members_is c.intersection-shared.ensures),
      holds_lent c.reach_all.new.memo c.reach_all.ensures.1 c.new-moves.ensures (same.columns ∙ c.columns_for.ensures) (c.rows-1.given.1.1 (sym same.rows)) (c.steps-1.given.1.1 (sym same.steps)),
      cleared (graph c.args.targets.now c.args.t.now.machine.states c.args.kinds.buffering c.args.kinds.matching) c.args.word.now c.args.kinds.initial _ _ _ stage c.clear.ensures.0 c.clear.ensures.1 c.clear.ensures.2,
    )
