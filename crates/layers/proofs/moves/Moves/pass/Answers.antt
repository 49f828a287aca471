use Rattle.fsbm.specs.Rules.{rules as rules_of}
use Rattle.layers.specs.Rows.Laws.{sweep_turn, sweep_end}
use Rattle.layers.proofs.moves.Moves.pass.Goals as goal

pub glance-s-requires : goal.glance-s-requires
glance-s-requires c = (rules_of _ _ c.args.self.now.table.obeys).states_fit

pub loop-a-preserved : goal.loop-a-preserved
loop-a-preserved c = sweep_turn c.loop-a.invariant c.in-Some.ensures.steps c.visit-fell.ensures

pub returns : goal.returns
returns c = sweep_end c.in-None.ensures.steps.0 c.loop-a.invariant
