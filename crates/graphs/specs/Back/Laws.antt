-- The laws of specs/Back.antt, and of routes put together. Assumes nothing.
--
-- route_append         == a route, then a route
-- route_snoc           == a route, then an edge
-- route_back           == a route is a route of the same weight against the turned edges
use Rattle.std.specs.Prelude.{◌≡◌, ℕ, zero, ◌+◌}
use Rattle.std.proofs.Common.{subst, arith}
use Rattle.graphs.specs.Cost.{Route, stop, via}
use Rattle.graphs.specs.Back.{Back}

-- a route of some weight has every weight that is equal to it
pub route_weight : {Node : Type 0} {Edge : Node → Node → ℕ → Type 0} {u v : Node} {m n : ℕ} → m ≡ n → Route Node Edge u v m → Route Node Edge u v n
route_weight {Node} {Edge} {u} {v} e r = subst (λ (k : ℕ). Route Node Edge u v k) e r

module _ {Node : Type 0} {Edge : Node → Node → ℕ → Type 0} where
  pub route_append : {u v x : Node} {m n : ℕ} → Route Node Edge u v m → Route Node Edge v x n → Route Node Edge u x (m + n)
  route_append {n = n} stop q = route_weight (let z : n ≡ zero + n = omega arith in z) q
  route_append {n = n} (via {w = w} {n = k} e r) q = route_weight (let z : w + (k + n) ≡ w + k + n = omega arith in z) (via e (route_append r q))

  pub route_snoc : {u v x : Node} {n w : ℕ} → Route Node Edge u v n → Edge v x w → Route Node Edge u x (n + w)
  route_snoc {n = n} {w = w} r e = route_append r (route_weight (let z : w + zero ≡ w = omega arith in z) (via e stop))

pub route_back : {Node : Type 0} (Edge : Node → Node → ℕ → Type 0) {u v : Node} {n : ℕ} → Route Node Edge u v n → Route Node (Back Edge) v u n
route_back Edge stop = stop
route_back Edge (via {w = w} {n = n} e r) = route_weight (let z : n + w ≡ w + n = omega arith in z) (route_snoc (route_back Edge r) e)
