-- Paths in a graph: a type of nodes, and a type of edges from one node to another. The laws stand in specs/Paths/Laws.antt.
-- Assumes nothing.
--
-- Path Node Edge u v n   == a path of n edges from u to v (nodes may repeat)
-- here, step e p         == the path of no edge; the edge e, then the path p
-- keys key p             == the keys of the nodes on the path p, in order: one more than it has edges
use Rattle.std.specs.Prelude.{List, [], ◌∷◌, ℕ, zero, suc}
pub mod Laws

pub data Path (Node : Type 0) (Edge : Node → Node → Type 0) : Node → Node → ℕ → Type 0 where
  here : {u : Node} → Path Node Edge u u zero
  step : {u v w : Node} {n : ℕ} → Edge u v → Path Node Edge v w n → Path Node Edge u w (suc n)

module _ {Node : Type 0} {Edge : Node → Node → Type 0} (key : Node → ℕ) where
  unfoldable pub keys : {u v : Node} {n : ℕ} → Path Node Edge u v n → List ℕ
  keys (here {u = u}) = key u ∷ []
  keys (step {u = u} e p) = key u ∷ keys p
