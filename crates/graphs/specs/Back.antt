-- Edges turned round: the cost to go against the edges is the cost from a start. The laws stand in specs/Back/Laws.antt. Assumes nothing.
--
-- Back Edge u v w      == an edge of Edge from v to u, of weight w
use Rattle.std.specs.Prelude.{ℕ}
pub mod Laws

abbrev pub Back : {Node : Type 0} → (Node → Node → ℕ → Type 0) → Node → Node → ℕ → Type 0
Back Edge u v w = Edge v u w
