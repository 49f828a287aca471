use Prim.Native.Nat.{ℕ, ◌+◌, ◌-◌, ◌≤◌}
use mathlib.Core.Path.{◌≡◌}
use lib.ListN.{length}
use Rattle.fsbm.specs.declared.config.Mode.TheVariants.{Emptying}
use Rattle.images.specs.Graph.{Members, From, Fitting}
use Rattle.images.specs.Moves.{graph_of}
use Rattle.subsets.specs.Rows.{Begun}
use Rattle.subsets.specs.Memo.{Holds, SamePlaces}
use Rattle.decide.specs.Reach.{Rooms}
use Rattle.reach.proofs.MatchCases.{Matching}
use Rattle.reach.proofs.copies.match_from.Given as goal

abbrev pub invariant-loop-near : goal.invariant-loop-near
invariant-loop-near l = Rooms l.t.sets.now l.t.states l.word × (l.k ≤ l.j) × (l.p ≤ length l.word) × (l.p + l.i ≡ l.j + l.k) × (l.i ≤ l.k) × (length l.word ≤ 255) × (l.j ≤ length l.word) × Fitting 256 l.matching × ((states : ℕ) → Members l.initial.near.set (From states (Begun (graph_of l.t) Emptying)) → Matching (graph_of l.t) l.word l.i l.j states l.initial.matching l.matching l.k l.p l.near.set) × Holds (graph_of l.t) l.memo × SamePlaces l.initial.memo l.memo

abbrev pub decreases-loop-near : goal.decreases-loop-near
decreases-loop-near l = l.j - l.k
