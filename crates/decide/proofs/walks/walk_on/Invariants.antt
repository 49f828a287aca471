use Prim.Native.Nat.{ℕ, ◌≤◌}
use Rattle.fsbm.specs.declared.config.Mode.TheVariants.{Emptying}
use Rattle.images.specs.Graph.{Members, From}
use Rattle.images.specs.Moves.{graph_of}
use Rattle.subsets.specs.Memo.{Holds, SamePlaces}
use Rattle.decide.specs.Reach.{Walk}
use Rattle.decide.proofs.walks.walk_on.Given as goal

abbrev pub invariant-loop-at : goal.invariant-loop-at
invariant-loop-at l = ((i set : ℕ) → i ≤ l.k → Members l.initial.near.set (From set (λ p q. Walk (graph_of l.t) l.word Emptying i p l.k q)) → Members l.near.set (From set (λ p q. Walk (graph_of l.t) l.word Emptying i p l.at q))) × Holds (graph_of l.t) l.memo × SamePlaces l.initial.memo l.memo
