use Rattle.std.proofs.Common.{◌≡◌}
use Rattle.basics.specs.Each.{each_below}
use Rattle.basics.specs.Lists.{put}
use Rattle.sheet.specs.Format.{state_line}
use Rattle.sheet_writer.proofs.write_states.Given as goal

abbrev pub invariant-loop-q : goal.invariant-loop-q
invariant-loop-q l = l.sheet ≡ put 16 l.initial.sheet (each_below l.q (state_line l.t.machine.marks))
