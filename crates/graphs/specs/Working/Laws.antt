-- The laws of specs/Working.antt. Assumes nothing.
--
-- working_start        == 0 at the goals, which all wait, and top elsewhere
-- working_lowers       == many numbers lowered at once, each along an edge from the old numbers; what is lowered waits
-- working_looked       == a node that newly does not wait was looked at: no edge into it would lower a number
-- working_end          == where no node waits the numbers are settled
use Rattle.std.specs.Prelude.{◌≡◌, ◌⊎◌, ℕ, ◌+◌, ◌≤◌, ◌<◌}
use Rattle.std.proofs.Common.{inl, inr, arith}
use Rattle.graphs.specs.Cost.{ToGoal, Settled}
use Rattle.graphs.specs.Cost.Laws.{to_goal_edge, realised_start}
use Rattle.graphs.specs.Working.{Working}

module _ {Node : Type 0} {Edge : Node → Node → ℕ → Type 0} {Goal : Node → Type 0} {top : ℕ} where
  pub working_start : (Waits : Node → Type 0) (D : Node → ℕ) → ((u : Node) → Goal u → Waits u × (D u ≡ 0)) → ((u : Node) → Goal u ⊎ (top ≤ D u)) → Working Edge Goal top Waits D
  working_start Waits D zero else =
      record {
        at_goal = λ u g. (zero u g).1;
        on_edge = λ u v w e quiet l. edge u v w quiet l (else v);
        realised = realised_start Edge Goal top D (λ u. at u (else u));
      }
    where
      edge : (u v : Node) (w : ℕ) → (Waits v → ⊥) → w + D v < top → Goal v ⊎ (top ≤ D v) → D u ≤ w + D v
      edge u v w quiet l (inl g) = absurd (quiet (zero v g).0)
      edge u v w quiet l (inr h) = absurd (omega arith)

      at : (u : Node) → Goal u ⊎ (top ≤ D u) → (Goal u × (D u ≡ 0)) ⊎ (top ≤ D u)
      at u (inl g) = inl (g, (zero u g).1)
      at u (inr h) = inr h

  module _ {Waits Waits' : Node → Type 0} {D : Node → ℕ} (so_far : Working Edge Goal top Waits D) where
    pub working_lowers : (D' : Node → ℕ) → ((x : Node) → D' x ≤ D x) → ((x : Node) → (D' x ≡ D x) ⊎ ((v : Node) × (w : ℕ) × Edge x v w × (D' x ≡ w + D v)))
        → ((x : Node) → (Waits' x → ⊥) → (Waits x → ⊥) × (D' x ≡ D x)) → Working Edge Goal top Waits' D'
    working_lowers D' lower origin waits =
        record {
          at_goal = λ u g. let z = so_far.at_goal u g in let l = lower u in omega arith;
          on_edge = λ u v w e quiet l.
              let (before, same) = waits v quiet in
              let k = so_far.on_edge u v w e before (omega arith) in
              let d = lower u in
              omega arith;
          realised = λ x l. at x l (origin x);
        }
      where
        at : (x : Node) → D' x < top → (D' x ≡ D x) ⊎ ((v : Node) × (w : ℕ) × Edge x v w × (D' x ≡ w + D v)) → ToGoal Edge Goal x (D' x)
        at x l (inl e) = rw e (so_far.realised x (omega arith))
        at x l (inr (v, w, e, is)) = rw is (to_goal_edge w e (so_far.realised v (omega arith)))

    pub working_looked : ((v : Node) → (Waits' v → ⊥) → (Waits v → ⊥) ⊎ ((u : Node) (w : ℕ) → Edge u v w → w + D v < top → D u ≤ w + D v)) → Working Edge Goal top Waits' D
    working_looked looked = record { at_goal = so_far.at_goal; on_edge = λ u v w e quiet l. at u v w e l (looked v quiet); realised = so_far.realised }
      where
        at : (u v : Node) (w : ℕ) → Edge u v w → w + D v < top → (Waits v → ⊥) ⊎ ((u : Node) (w : ℕ) → Edge u v w → w + D v < top → D u ≤ w + D v) → D u ≤ w + D v
        at u v w e l (inl quiet) = so_far.on_edge u v w e quiet l
        at u v w e l (inr all) = all u w e l

  module _ {Waits : Node → Type 0} {D : Node → ℕ} (so_far : Working Edge Goal top Waits D) where
    pub working_end : ((u : Node) → Waits u → ⊥) → Settled Edge Goal top D
    working_end quiet = record { at_goal = so_far.at_goal; on_edge = λ u v w e l. so_far.on_edge u v w e (quiet v) l; realised = so_far.realised }
