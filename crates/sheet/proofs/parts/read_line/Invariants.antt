use Rattle.std.proofs.Common.{◌≡◌, length}
use Rattle.sheet.proofs.PartCases.{ColumnsRead}
use Rattle.sheet.proofs.parts.read_line.Given as goal

abbrev pub invariant-loop-c : goal.invariant-loop-c
invariant-loop-c g l = (length l.numbers ≡ g.row.N) × ColumnsRead l.bytes l.at l.c l.numbers
