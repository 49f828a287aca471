use Prim.Native.Nat.{◌≤◌}
use mathlib.Core.Path.{◌≡◌}
use lib.ListN.{length, take}
use Rattle.stream.specs.Calls.{PieceTaken}
use Rattle.accepts.specs.Ready.{Working}
use Rattle.stream.proofs.take_piece.Given as goal

abbrev pub invariant-loop-b : goal.invariant-loop-b
invariant-loop-b l = (l.b-index ≤ length l.piece) × PieceTaken l.m l.list (take l.b-index l.piece) l.initial.p.held l.initial.line l.initial.out l.p l.line l.out × (length l.line ≡ length l.initial.line) × (length l.out ≡ length l.initial.out) × Working l.m l.targets l.kinds l.rows l.steps l.sets × (length l.rows ≡ length l.initial.rows) × (length l.steps ≡ length l.initial.steps)
