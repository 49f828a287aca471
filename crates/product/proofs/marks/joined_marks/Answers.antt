use native.Mathlib.Omega.{arith}
use Rattle.product.proofs.FaultCases.{marks_end}
use Rattle.product.proofs.marks.joined_marks.Goals as goal

pub returns : goal.returns
returns c = marks_end c.args.first c.args.second c.loop-q.mark-items c.loop-q.q (omega arith) c.loop-q.invariant.0 c.loop-q.invariant.1
