-- Cost to go in a graph whose edges have weights: the least weight of a route from a node to a goal. The laws stand in specs/Cost/Laws.antt.
-- Nothing here says in which order the numbers are computed. Assumes nothing.
--
-- Route Node Edge u v n        == a route from u to v of total weight n; `Edge u v w` is an edge of weight w
-- stop, via e r                == the route of no edge; the edge e, then the route r
-- ToGoal Edge Goal u n         == some route of weight n leads from u to a goal
-- Realised Edge Goal top D     == a number D u below top is the weight of some route from u to a goal; a number of top and above says none
-- Settled Edge Goal top D      == D is 0 at the goals, Realised, and no edge of less than top in all would lower it
use Rattle.std.specs.Prelude.{◌≡◌, ℕ, zero, ◌+◌, ◌≤◌, ◌<◌}
pub mod Laws

pub data Route (Node : Type 0) (Edge : Node → Node → ℕ → Type 0) : Node → Node → ℕ → Type 0 where
  stop : {u : Node} → Route Node Edge u u zero
  via : {u v x : Node} {w n : ℕ} → Edge u v w → Route Node Edge v x n → Route Node Edge u x (w + n)

pub record ToGoal {Node : Type 0} (Edge : Node → Node → ℕ → Type 0) (Goal : Node → Type 0) (u : Node) (n : ℕ) : Type 0 where
  pub goal : Node
  pub is_goal : Goal goal
  pub route : Route Node Edge u goal n

abbrev pub Realised : {Node : Type 0} → (Node → Node → ℕ → Type 0) → (Node → Type 0) → ℕ → (Node → ℕ) → Type 0
Realised {Node} Edge Goal top D = (u : Node) → D u < top → ToGoal Edge Goal u (D u)

pub record Settled {Node : Type 0} (Edge : Node → Node → ℕ → Type 0) (Goal : Node → Type 0) (top : ℕ) (D : Node → ℕ) : Type 0 where
  pub at_goal : (u : Node) → Goal u → D u ≡ 0
  pub on_edge : (u v : Node) (w : ℕ) → Edge u v w → w + D v < top → D u ≤ w + D v
  pub realised : Realised Edge Goal top D
