use native.Mathlib.Omega.{arith}
use Rattle.blocks.specs.Works.Laws.{ready_states, ready_state}
use Rattle.blocks.specs.Settling.Laws.{take_row, take_less, work_done}
use Rattle.blocks.proofs.searched.Searched.work.Goals as goal

pub next_row-requires : goal.next_row-requires
next_row-requires c = ready_states c.args.self.now.ready

pub offset_bounds-pairs-s : goal.offset_bounds-pairs-s
offset_bounds-pairs-s c = omega (arith, ready_state c.args.self.now.ready _ c.in-Some.ensures.0)

pub loop-s-smaller : goal.loop-s-smaller
loop-s-smaller c = take_less _ _ (omega (arith, ready_state c.args.self.now.ready _ c.in-Some.ensures.0)) c.row.ensures.steps c.in-Some.ensures.1

pub loop-s-preserved : goal.loop-s-preserved
loop-s-preserved c = take_row _ _ c.loop-s.invariant c.row.ensures

pub returns : goal.returns
returns c = work_done c.args.self.now.ready.good c.loop-s.invariant c.in_default.ensures
