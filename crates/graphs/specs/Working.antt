-- Cost to go while it is computed: numbers that are lowered along edges, in any order, until no node waits. The laws stand in
-- specs/Working/Laws.antt. Assumes nothing.
--
-- Working Edge Goal top Waits D == D is 0 at the goals, Realised, and no edge into a node that does not wait, of less than top in all,
--                                  would lower it; `Waits v` says that the edges into v were not looked at since D v was lowered
use Rattle.std.specs.Prelude.{◌≡◌, ℕ, ◌+◌, ◌≤◌, ◌<◌}
use Rattle.graphs.specs.Cost.{Realised}
pub mod Laws

pub record Working {Node : Type 0} (Edge : Node → Node → ℕ → Type 0) (Goal : Node → Type 0) (top : ℕ) (Waits : Node → Type 0) (D : Node → ℕ) : Type 0 where
  pub at_goal : (u : Node) → Goal u → D u ≡ 0
  pub on_edge : (u v : Node) (w : ℕ) → Edge u v w → (Waits v → ⊥) → w + D v < top → D u ≤ w + D v
  pub realised : Realised Edge Goal top D
