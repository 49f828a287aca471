use Rattle.std.proofs.Common.{arith}
use Rattle.tables.specs.Halves.Laws.{shared_more}
use Rattle.tables.proofs.halves.longer.Goals as goal

pub returns-then-word-i : goal.returns-then-word-i
returns-then-word-i c = (omega arith, λ s. shared_more _ _ _ _ c.requires.0 c.if-word-i.true s)
