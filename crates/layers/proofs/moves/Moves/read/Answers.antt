use Rattle.std.proofs.Common.{arith}
use Rattle.layers.specs.Rows.Laws.{through_reads}
use Rattle.layers.proofs.moves.Moves.read.Goals as goal

pub returns-then-x-ne0 : goal.returns-then-x-ne0
returns-then-x-ne0 c = through_reads (omega (arith, c.if-x-ne0.true)) c.pass.ensures
