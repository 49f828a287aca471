use Rattle.std.proofs.Common.{◌≡◌, length}
use Rattle.sheet.proofs.PartCases.{ColumnsRead, TransitionsTo}
use Rattle.sheet.proofs.parts.read_transitions.Given as goal

abbrev pub invariant-loop-k : goal.invariant-loop-k
invariant-loop-k l = TransitionsTo l.sheet l.states l.letters l.k l.initial.kept l.kept l.before

abbrev pub invariant-loop-c : goal.invariant-loop-c
invariant-loop-c l = (length l.numbers ≡ 3) × ColumnsRead l.sheet l.at l.c l.numbers
