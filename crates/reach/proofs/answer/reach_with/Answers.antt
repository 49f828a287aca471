use Prim.Native.Nat.{◌+◌, ◌≤◌}
use mathlib.Core.Path.{refl, sym, ap, ◌∙◌, subst}
use native.Mathlib.Omega.{arith}
use lib.ListN.{length, replicate}
use Rattle.basics.specs.Lists.{put}
use Rattle.basics.specs.Lists.Laws.{zeros_at}
use Rattle.fsbm.proofs.AnswerCases.{table_good}
use Rattle.fsbm.specs.Rules.{rules as rules_of}
use Rattle.images.specs.Graph.{Graph, graph, Fitting}
use Rattle.subsets.specs.Rows.{Kept}
use Rattle.decide.specs.Reach.{Rooms, Stage}
use Rattle.decide.proofs.Tables.{good_table, rooms}
use Rattle.reach.specs.Copies.{Added, SomeStore, SomeMatch}
use Rattle.reach.proofs.SetsCases.{sets_are}
use Rattle.reach.proofs.answer.reach_with.Goals as goal

pub new-t-requires : goal.new-t-requires
new-t-requires c = good_table c.requires.2 (table_good 255 c.args.m c.args.list.now c.args.word.now c.requires.0).0 c.args.kinds c.requires.3

pub columns_for-requires : goal.columns_for-requires
columns_for-requires c = (rules_of c.args.m c.args.list.now (table_good 255 c.args.m c.args.list.now c.args.word.now c.requires.0).0).letters_fit

pub reach_all-requires : goal.reach_all-requires
reach_all-requires c = subst (λ (G : Graph). Rooms G.targets G.states c.args.word.now × (length c.args.word.now ≤ 255) × Fitting 256 c.start_at-normal.result.sets × Kept G c.columns_for.result c.args.rows.now c.args.steps.now) (sym c.new-t.ensures) (rooms c.requires.2, (table_good 255 c.args.m c.args.list.now c.args.word.now c.requires.0).1, (c.start_at-normal.ensures (graph c.args.targets.now c.args.m.states c.args.kinds.buffering c.args.kinds.matching) c.args.word.now).fitting, rw c.columns_for.ensures c.requires.4)

pub copies-requires : goal.copies-requires
copies-requires c = (subst (λ (G : Graph). Rooms G.targets G.states c.args.word.now) (sym c.new-t.ensures) (rooms c.requires.2), (table_good 255 c.args.m c.args.list.now c.args.word.now c.requires.0).1, (subst (λ (G : Graph). Stage G c.args.word.now c.args.kinds.initial c.reach_all.new.sets (length c.args.word.now + 1)) c.new-t.ensures (c.reach_all.ensures.0 c.args.kinds.initial (c.start_at-normal.ensures _ _))).fitting.size, (record { size = refl; each = λ k. omega (arith, zeros_at 256 k) }), (record { size = refl; each = λ k. omega (arith, zeros_at 256 k) }), c.reach_all.ensures.1)

pub put_sets-requires : goal.put_sets-requires
put_sets-requires c = ((table_good 255 c.args.m c.args.list.now c.args.word.now c.requires.0).1, c.requires.1, (subst (λ (G : Graph). Stage G c.args.word.now c.args.kinds.initial c.reach_all.new.sets (length c.args.word.now + 1)) c.new-t.ensures (c.reach_all.ensures.0 c.args.kinds.initial (c.start_at-normal.ensures _ _))).fitting.size, c.copies.ensures.0.fitting.size, c.copies.ensures.1.fitting.size)

pub returns : goal.returns
returns c = c.put_sets.ensures ∙ ap (put 0 c.args.sets.now) (sets_are c.args.m c.args.list.now c.args.word.now c.args.targets.now (table_good 255 c.args.m c.args.list.now c.args.word.now c.requires.0).0 c.requires.2 c.args.kinds c.requires.3 c.reach_all.new.sets c.copies.new.storing c.copies.new.matching (subst (λ (G : Graph). Stage G c.args.word.now c.args.kinds.initial c.reach_all.new.sets (length c.args.word.now + 1)) c.new-t.ensures (c.reach_all.ensures.0 c.args.kinds.initial (c.start_at-normal.ensures _ _))) (subst (λ (G : Graph). Added (replicate 256 0) c.copies.new.storing (SomeStore G c.args.word.now c.reach_all.new.sets (length c.args.word.now + 1))) c.new-t.ensures c.copies.ensures.0) (subst (λ (G : Graph). Added (replicate 256 0) c.copies.new.matching (SomeMatch G c.args.word.now c.reach_all.new.sets (length c.args.word.now + 1))) c.new-t.ensures c.copies.ensures.1))
