use mathlib.Core.Path.{sym, ◌∙◌}
use Rattle.shortest.specs.Copy.Laws.{walk_start, walk_states, matched_ready, stored_ready, walk_turn, walk_end}
use Rattle.shortest.proofs.traced.Traced.walk_back.Goals as goal

pub loop-list-init : goal.loop-list-init
loop-list-init c = walk_start _ _ _ _ _ _ _ _ _ _ c.args.self.now.searched.now.ready.good c.requires _ c.told-later

pub begun-requires : goal.begun-requires
begun-requires c = walk_states _ _ _ _ _ _ _ _ _ _ c.args.self.now.searched.now.ready.good c.requires _ _ _ _ c.loop-list.invariant

pub back-v-requires : goal.back-v-requires
back-v-requires c = walk_states _ _ _ _ _ _ _ _ _ _ c.args.self.now.searched.now.ready.good c.requires _ _ _ _ c.loop-list.invariant

pub matched-w-requires : goal.matched-w-requires
matched-w-requires c = matched_ready _ _ _ _ _ _ _ _ _ _ c.args.self.now.searched.now.ready.good c.requires _ _ _ _ c.loop-list.invariant (sym c.begun.ensures ∙ c.loop-list-test.true) _ _ c.back-v.ensures

pub stored-w-requires : goal.stored-w-requires
stored-w-requires c = stored_ready _ _ _ _ _ _ _ _ _ _ c.args.self.now.searched.now.ready.good c.requires _ _ _ _ c.loop-list.invariant (sym c.begun.ensures ∙ c.loop-list-test.true) _ _ _ _ _ c.back-v.ensures c.matched-w.ensures

pub loop-list-smaller : goal.loop-list-smaller
loop-list-smaller c = (walk_turn _ _ _ _ _ _ _ _ _ _ c.args.self.now.searched.now.ready.good c.requires _ _ _ _ c.loop-list.invariant (sym c.begun.ensures ∙ c.loop-list-test.true) _ _ _ _ _ _ _ c.back-v.ensures c.matched-w.ensures c.stored-w.ensures).1

pub loop-list-preserved : goal.loop-list-preserved
loop-list-preserved c = (walk_turn _ _ _ _ _ _ _ _ _ _ c.args.self.now.searched.now.ready.good c.requires _ _ _ _ c.loop-list.invariant (sym c.begun.ensures ∙ c.loop-list-test.true) _ _ _ _ _ _ _ c.back-v.ensures c.matched-w.ensures c.stored-w.ensures).0

pub shape_of-word : goal.shape_of-word
shape_of-word c = c.loop-list.invariant.word_size

pub shape_of-run : goal.shape_of-run
shape_of-run c = c.loop-list.invariant.run_size

pub returns : goal.returns
returns c = walk_end _ _ _ _ _ _ _ _ _ _ c.args.self.now.searched.now.ready.good c.requires _ _ _ _ c.loop-list.invariant (sym c.begun.ensures ∙ c.loop-list-test.false)
