use Rattle.fsbm.specs.declared.config.Mode.TheVariants.{Normal}
use Rattle.images.specs.Graph.{Edge, EmptyCopy}
use Rattle.images.specs.Moves.{graph_of}
use Rattle.images.proofs.Sweeps.{placing_start, placing_turn, placing_less, placing_end}
use Rattle.images.proofs.SetCases.{members_is}
use Rattle.images.proofs.targets.Targets.close_in_turns.Goals as goal

pub loop-set-init : goal.loop-set-init
loop-set-init c = placing_start (Edge (graph_of c.args.self.now) Normal 0) (EmptyCopy (graph_of c.args.self.now)) _ _ c.close_set-all.ensures

pub returns-then-fresh-eq0 : goal.returns-then-fresh-eq0
returns-then-fresh-eq0 c = placing_end _ _ _ _ _ _ _ c.loop-set.invariant c.empty_copies-copied.ensures (members_is c.difference-fresh.ensures) c.if-fresh-eq0.true

pub loop-set-smaller : goal.loop-set-smaller
loop-set-smaller c = placing_less _ _ _ _ _ _ _ c.loop-set.invariant c.empty_copies-copied.ensures (members_is c.difference-fresh.ensures) _ _ c.close_set-new.ensures (members_is c.union-all.ensures) c.union-all.ensures c.if-fresh-eq0.false

pub loop-set-preserved : goal.loop-set-preserved
loop-set-preserved c = placing_turn _ _ _ _ _ _ _ c.loop-set.invariant c.empty_copies-copied.ensures (members_is c.difference-fresh.ensures) _ _ c.close_set-new.ensures (members_is c.union-all.ensures)
