use Rattle.letters.proofs.LoadingCases.{LinesTo}
use Rattle.letters.proofs.loading.read_lines.Given as goal

abbrev pub invariant-loop-i : goal.invariant-loop-i
invariant-loop-i l = LinesTo l.text l.i l.letters
