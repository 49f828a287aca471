use Rattle.blocks.specs.Readers.{ReadersBelow}
use Rattle.blocks.proofs.readers.readers.Given as goal

abbrev pub invariant-loop-k : goal.invariant-loop-k
invariant-loop-k l = ReadersBelow l.table.machine l.table.list.now l.k l.sets
