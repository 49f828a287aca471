use Rattle.std.proofs.Common.{◌≡◌}
use Rattle.basics.specs.Each.{each_below}
use Rattle.basics.specs.Lists.{put}
use Rattle.sheet.specs.Format.{transition_line}
use Rattle.sheet_writer.proofs.write_transitions.Given as goal

abbrev pub invariant-loop-k : goal.invariant-loop-k
invariant-loop-k l = l.sheet ≡ put l.start l.initial.sheet (each_below l.k (transition_line l.t.list.now))
