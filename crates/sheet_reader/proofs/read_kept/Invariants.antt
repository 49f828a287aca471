use Rattle.std.proofs.Common.{◌≡◌, take}
use Rattle.basics.specs.Lists.{put}
use Rattle.sheet_reader.proofs.read_kept.Given as goal

abbrev pub invariant-loop-i : goal.invariant-loop-i
invariant-loop-i g l = l.list ≡ put 0 l.initial.list (take l.i l.number-items)
