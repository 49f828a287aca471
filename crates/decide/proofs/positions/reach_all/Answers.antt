use native.Mathlib.Omega.{arith}
use Rattle.images.specs.Moves.{graph_of}
use Rattle.subsets.proofs.MemoCases.{same_here, same_join}
use Rattle.decide.proofs.StageCases.{stage_turn, stage_to}
use Rattle.decide.proofs.SquareCases.{ends_start, ends_later}
use Rattle.decide.proofs.positions.reach_all.Goals as goal

pub loop-i-init : goal.loop-i-init
loop-i-init c = (ends_start _ _ (λ d far. omega arith), c.requires.2, (λ q s. s), c.requires.3, same_here _)

pub pass_position-hint-requires : goal.pass_position-hint-requires
pass_position-hint-requires c = (c.requires.0, omega arith, c.requires.1, c.loop-i.invariant.0, c.loop-i.invariant.1, c.loop-i.invariant.3)

pub loop-i-preserved : goal.loop-i-preserved
loop-i-preserved c = (ends_later _ _ _ _ (λ d. omega arith) c.pass_position-hint.ensures.0, c.pass_position-hint.ensures.1, (λ q s. stage_turn (graph_of c.args.t.now) c.args.word.now q c.loop-i.sets _ c.loop-i.i (c.loop-i.invariant.2 q s) c.pass_position-hint.ensures.2 (omega arith) c.requires.1), c.pass_position-hint.ensures.3, same_join c.loop-i.invariant.4 c.pass_position-hint.ensures.4)

pub returns : goal.returns
returns c = ((λ q s. stage_to (graph_of c.args.t.now) c.args.word.now q _ _ _ (omega arith) (c.loop-i.invariant.2 q s)), c.loop-i.invariant.3, c.loop-i.invariant.4)

pub returns-2 : goal.returns-2
returns-2 c = ((λ q s. stage_to (graph_of c.args.t.now) c.args.word.now q _ _ _ (omega arith) (stage_turn (graph_of c.args.t.now) c.args.word.now q c.loop-i.sets _ c.loop-i.i (c.loop-i.invariant.2 q s) c.pass_position-hint.ensures.2 (omega arith) c.requires.1)), c.pass_position-hint.ensures.3, same_join c.loop-i.invariant.4 c.pass_position-hint.ensures.4)
