-- What the functions of a table of targets compute, over the table as the code has it.
--
-- graph_of t      == the table, the number of states, the buffering and the matching states
-- Open G row p q  == the row of the table that begins there has q for the state p, and not both are matching
use Rattle.std.specs.Prelude.{ℕ, ◌+◌, ◌<◌, get_or}
use Rattle.stateset.specs.Set.{In}
use Rattle.images.specs.Graph.{Graph, graph}
use Rattle.images.specs.declared.targets.Targets.{Targets}

abbrev pub graph_of : Targets → Graph
graph_of t = graph t.sets.now t.states t.buffering t.matching

abbrev pub Open : Graph → ℕ → ℕ → ℕ → Type 0
Open G row p q = ((p < G.states) × In (get_or G.targets (row + p) 0) q) × (In G.matching p × In G.matching q → ⊥)
