use Rattle.std.proofs.Common.{arith}
use Rattle.fsbm.specs.Rules.{rules as rules_of}
use Rattle.adjacency.specs.Index.Laws.{built_start, built_turn, built_index}
use Rattle.adjacency.proofs.index.Goals as goal

pub loop-q-init : goal.loop-q-init
loop-q-init c = built_start _ _ (rules_of _ _ c.args.t.now.obeys)

pub overflow_cast-first : goal.overflow_cast-first
overflow_cast-first c = omega (arith, (rules_of _ _ c.args.t.now.obeys).transitions_fit)

pub offset_bounds-first-q : goal.offset_bounds-first-q
offset_bounds-first-q c = omega (arith, (rules_of _ _ c.args.t.now.obeys).states_fit)

pub bounds-first-q : goal.bounds-first-q
bounds-first-q c = omega (arith, (rules_of _ _ c.args.t.now.obeys).states_fit)

pub loop-q-preserved : goal.loop-q-preserved
loop-q-preserved c = built_turn _ _ (rules_of _ _ c.args.t.now.obeys) _ _ _ _ c.loop-q.invariant (omega arith) c.seek-k.ensures

pub returns : goal.returns
returns c = built_index _ _ (rules_of _ _ c.args.t.now.obeys) _ _ _ c.loop-q.invariant (omega arith)
