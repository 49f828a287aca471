use Rattle.std.proofs.Common.{◌≡◌, length}
use Rattle.sheet.proofs.PartCases.{ColumnsRead, StatesTo}
use Rattle.sheet.proofs.parts.read_states.Given as goal

abbrev pub invariant-loop-q : goal.invariant-loop-q
invariant-loop-q l = StatesTo l.sheet l.q l.marks

abbrev pub invariant-loop-c : goal.invariant-loop-c
invariant-loop-c l = (length l.numbers ≡ 2) × ColumnsRead l.sheet l.at l.c l.numbers
