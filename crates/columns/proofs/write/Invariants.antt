use Rattle.std.proofs.Common.{◌≡◌, ◌-◌, ◌^◌, ◌<◌}
use Rattle.basics.specs.Lists.{put}
use Rattle.columns.specs.Column.{padded, column_of}
use Rattle.columns.proofs.write.Given as goal

-- the column is there once what is left is written before what is written
abbrev pub invariant-loop-i : goal.invariant-loop-i
invariant-loop-i g l =
    record { fits : l.left < 10 ^ (g.row.D - l.i); rest : put l.at l.fn.bytes (column_of g.row.W l.n) ≡ put l.at l.bytes (padded (g.row.W - l.i) l.left) }
