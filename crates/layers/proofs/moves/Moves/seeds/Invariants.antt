use Rattle.layers.specs.Layers.{Seeded}
use Rattle.layers.proofs.moves.Moves.seeds.Given as goal

abbrev pub invariant-loop-q : goal.invariant-loop-q
invariant-loop-q l = Seeded l.self.table.machine l.q l.row
