use Prim.Native.Nat.{ℕ, ◌-◌, ◌≤◌}
use lib.ListN.{length}
use Rattle.fsbm.specs.declared.config.Mode.TheVariants.{Buffering}
use Rattle.images.specs.Graph.{Members, From, Fitting}
use Rattle.images.specs.Moves.{graph_of}
use Rattle.subsets.specs.Rows.{Begun}
use Rattle.subsets.specs.Memo.{Holds, SamePlaces}
use Rattle.decide.specs.Reach.{Rooms}
use Rattle.reach.proofs.StoreCases.{Copying}
use Rattle.reach.proofs.copies.copies_at.Given as goal

abbrev pub invariant-loop-s : goal.invariant-loop-s
invariant-loop-s l = Rooms l.t.sets.now l.t.states l.word × (l.i ≤ l.j) × (l.j ≤ length l.word) × (length l.word ≤ 255) × Fitting 256 l.storing × Fitting 256 l.matching × ((near : ℕ) → Members l.initial.s.set (From near (Begun (graph_of l.t) Buffering)) → Copying (graph_of l.t) l.word l.i near l.initial.storing l.storing l.initial.matching l.matching l.j l.s.set) × Holds (graph_of l.t) l.memo × SamePlaces l.initial.memo l.memo

abbrev pub decreases-loop-s : goal.decreases-loop-s
decreases-loop-s l = length l.word - l.j
