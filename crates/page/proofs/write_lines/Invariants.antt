use Rattle.page.proofs.PageCases.{Following, Extends}
use Rattle.page.proofs.write_lines.Given as goal

abbrev pub invariant-loop-i : goal.invariant-loop-i
invariant-loop-i l = Extends l.t.machine l.t.list.now l.word l.run l.initial.page l.page l.i × Following l.t.machine l.t.list.now l.word l.run l.c l.tally l.i
