use Prim.Native.Nat.{ℕ, ◌+◌}
use Rattle.images.specs.Graph.{Fitting}
use Rattle.images.specs.Moves.{graph_of}
use Rattle.subsets.specs.Memo.{Holds, SamePlaces}
use Rattle.decide.specs.Reach.{Stage}
use Rattle.decide.specs.Squares.{RepeatEnds}
use Rattle.decide.proofs.positions.reach_all.Given as goal

abbrev pub invariant-loop-i : goal.invariant-loop-i
invariant-loop-i l = RepeatEnds l.word l.ends (λ d. l.i + d) × Fitting 256 l.sets × ((q : ℕ) → Stage (graph_of l.t) l.word q l.initial.sets 0 → Stage (graph_of l.t) l.word q l.sets l.i) × Holds (graph_of l.t) l.memo × SamePlaces l.initial.memo l.memo
