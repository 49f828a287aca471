use Rattle.std.proofs.Common.{arith}
use Rattle.fsbm.specs.Rules.{rules as rules_of}
use Rattle.layers.proofs.RowCases.{visit_seen, visit_live, visit_none}
use Rattle.layers.proofs.moves.Moves.visit.Goals as goal

pub lower-requires : goal.lower-requires
lower-requires c = omega (arith, c.requires.1, (rules_of _ _ c.args.self.now.table.obeys).states_fit)

pub returns-then-live-eq0 : goal.returns-then-live-eq0
returns-then-live-eq0 c = visit_none _ _ _ _ _ c.args.self.now.given c.args.mode _ _ c.requires.1 c.requires.0 _ _ c.requires.2 _ (rw c.targets_of.ensures at c.intersection-live.ensures) c.if-live-eq0.true _ _ _ c.lower.ensures

pub least_in-v-requires : goal.least_in-v-requires
least_in-v-requires c = visit_seen _ _ _ _ _ c.args.self.now.given c.args.mode _ _ c.requires.1 c.requires.0 _ _ c.requires.2 _ (rw c.targets_of.ensures at c.intersection-live.ensures) _ c.cut.ensures (omega arith)

pub lower-requires-2 : goal.lower-requires-2
lower-requires-2 c = omega (arith, c.requires.1, (rules_of _ _ c.args.self.now.table.obeys).states_fit)

pub returns : goal.returns
returns c = visit_live _ _ _ _ _ c.args.self.now.given c.args.mode _ _ c.requires.1 c.requires.0 _ _ c.requires.2 _ (rw c.targets_of.ensures at c.intersection-live.ensures) _ _ c.cut.ensures c.least_in-v.ensures _ _ _ c.lower-2.ensures
