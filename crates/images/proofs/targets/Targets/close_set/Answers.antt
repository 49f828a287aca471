use Rattle.images.proofs.Sweeps.{part_image, no_image, closing_start, closing_turn, closing_less, closing_end, closing_stuck}
use Rattle.images.proofs.SetCases.{members_is, begins_may}
use Rattle.images.specs.Graph.{Edge}
use Rattle.images.specs.Moves.{graph_of}
use native.Mathlib.Omega.{arith}
use Rattle.images.proofs.targets.Targets.close_set.Goals as goal

pub loop-mode-init : goal.loop-mode-init
loop-mode-init c = closing_start _ _ (omega arith)

pub returns-then-from-eq0 : goal.returns-then-from-eq0
returns-then-from-eq0 c = closing_stuck _ _ _ _ c.loop-mode.invariant (no_image (Edge (graph_of c.args.self.now) c.args.mode 0) _ _ _ (members_is c.intersection-from.ensures) (begins_may c.args.self.now c.args.mode _ c.epsilons-may.ensures) c.if-from-eq0.true)

pub returns-then-new-eq0 : goal.returns-then-new-eq0
returns-then-new-eq0 c = closing_end _ _ _ _ _ _ c.loop-mode.invariant (part_image (Edge (graph_of c.args.self.now) c.args.mode 0) _ _ _ (members_is c.intersection-from.ensures) (begins_may c.args.self.now c.args.mode _ c.epsilons-may.ensures) _ c.step_set.ensures) (members_is c.difference-new.ensures) c.if-new-eq0.true

pub loop-mode-smaller : goal.loop-mode-smaller
loop-mode-smaller c = closing_less _ _ _ _ _ _ c.loop-mode.invariant (part_image (Edge (graph_of c.args.self.now) c.args.mode 0) _ _ _ (members_is c.intersection-from.ensures) (begins_may c.args.self.now c.args.mode _ c.epsilons-may.ensures) _ c.step_set.ensures) (members_is c.difference-new.ensures) _ c.union-all.ensures (members_is c.union-all.ensures) c.if-new-eq0.false

pub loop-mode-preserved : goal.loop-mode-preserved
loop-mode-preserved c = closing_turn _ _ _ _ _ _ c.loop-mode.invariant (part_image (Edge (graph_of c.args.self.now) c.args.mode 0) _ _ _ (members_is c.intersection-from.ensures) (begins_may c.args.self.now c.args.mode _ c.epsilons-may.ensures) _ c.step_set.ensures) (members_is c.difference-new.ensures) _ (members_is c.union-all.ensures)
