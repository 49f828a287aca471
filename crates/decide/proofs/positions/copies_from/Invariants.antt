use Prim.Native.Nat.{ℕ, ◌+◌, ◌≤◌}
use Rattle.fsbm.specs.declared.config.Mode.TheVariants.{Buffering}
use Rattle.images.specs.Graph.{Members, From, Free, Fitting}
use Rattle.images.specs.Moves.{graph_of}
use Rattle.subsets.specs.Memo.{Holds, SamePlaces}
use Rattle.decide.specs.Squares.{RepeatEnds}
use Rattle.decide.specs.Reach.{Tailed}
use Rattle.decide.proofs.CopyCases.{Copying}
use Rattle.decide.proofs.positions.copies_from.Given as goal

abbrev pub invariant-loop-at : goal.invariant-loop-at
invariant-loop-at l = RepeatEnds l.word l.ends (λ d. l.i + d) × Fitting 256 l.sets × ((starts : ℕ) → Members l.initial.s.set (From starts (Free (graph_of l.t) Buffering)) → Copying (graph_of l.t) l.word l.i starts l.initial.sets l.sets l.at l.s.set l.last) × Tailed (graph_of l.t) l.word l.i l.tail × (l.tail.position ≤ l.at) × Holds (graph_of l.t) l.memo × SamePlaces l.initial.memo l.memo
