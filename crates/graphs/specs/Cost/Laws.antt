-- The laws of specs/Cost.antt. Assumes nothing.
--
-- to_goal_edge            == an edge, then a route to a goal
-- realised_start         == 0 at goals and top elsewhere is Realised
-- lower_bound            == D u is at most the weight of each route to a goal, of those below top
-- least                  == D u below top is the least weight of a route to a goal
-- none                   == D u of top or above: no route below top
-- short_route            == with keys below a bound and weights of at most b, a route means one of fewer edges than the bound, so no dearer than that times b
-- descend                == from a node with D u neither 0 nor none some edge has D u = w + D v: the first edge of a least route
-- settled_under          == numbers that are settled are settled below a smaller top
-- zero_goal              == with positive weights D u = 0 says that u is a goal
use Rattle.std.specs.Prelude.{◌≡◌, refl, ◌⊎◌, ℕ, zero, suc, ◌+◌, ◌*◌, ◌≤◌, ◌<◌}
use Rattle.std.proofs.Common.{inl, inr, arith, suc-mul}
use Rattle.std.proofs.Math.Decide.{dec_lt}
use Rattle.graphs.specs.Paths.{Path, here, step}
use Rattle.graphs.specs.Paths.Laws.{short_path}
use Rattle.graphs.specs.Cost.{Route, stop, via, ToGoal, Realised, Settled}

module _ {Node : Type 0} {Edge : Node → Node → ℕ → Type 0} {Goal : Node → Type 0} where
  pub to_goal_edge : {u v : Node} {n : ℕ} (w : ℕ) → Edge u v w → ToGoal Edge Goal v n → ToGoal Edge Goal u (w + n)
  to_goal_edge w e t = record { goal = t.goal; is_goal = t.is_goal; route = via e t.route }

  pub to_goal_here : {u : Node} → Goal u → ToGoal Edge Goal u 0
  to_goal_here {u} g = record { goal = u; is_goal = g; route = stop }

-- Realised: at the start, and after a number was lowered

module _ {Node : Type 0} (Edge : Node → Node → ℕ → Type 0) (Goal : Node → Type 0) (top : ℕ) (D : Node → ℕ) where
  pub realised_start : ((u : Node) → (Goal u × (D u ≡ 0)) ⊎ (top ≤ D u)) → Realised Edge Goal top D
  realised_start h u l = at (h u)
    where
      at : (Goal u × (D u ≡ 0)) ⊎ (top ≤ D u) → ToGoal Edge Goal u (D u)
      at (inl g) = rw g.1 (to_goal_here g.0)
      at (inr z) = absurd (omega arith)

-- Settled: the numbers are the least weights

module _ {Node : Type 0} {Edge : Node → Node → ℕ → Type 0} {Goal : Node → Type 0} {top : ℕ} {D : Node → ℕ} (s : Settled Edge Goal top D) where
  lower_route : {u g : Node} {n : ℕ} → Goal g → Route Node Edge u g n → n < top → D u ≤ n
  lower_route {u} i stop l = let z = s.at_goal u i in omega arith
  lower_route i (via {u = u} {v = v} {w = w} {n = n} e r) l =
      let k = lower_route i r (omega arith) in
      let d = s.on_edge u v w e (omega arith) in
      omega arith

  pub lower_bound : {u : Node} {n : ℕ} → ToGoal Edge Goal u n → n < top → D u ≤ n
  lower_bound t l = lower_route t.is_goal t.route l

  pub least : (u : Node) → D u < top → ToGoal Edge Goal u (D u) × ((n : ℕ) → ToGoal Edge Goal u n → D u ≤ n)
  least u l = (s.realised u l, λ n t. at n t (dec_lt n top))
    where
      at : (n : ℕ) → ToGoal Edge Goal u n → Dec (n < top) → D u ≤ n
      at n t (yes k) = lower_bound t k
      at n t (no k) = omega arith

  pub none : (u : Node) → top ≤ D u → (n : ℕ) → ToGoal Edge Goal u n → top ≤ n
  none u l n t = at (dec_lt n top)
    where
      at : Dec (n < top) → top ≤ n
      at (yes k) = let d = lower_bound t k in absurd (omega arith)
      at (no k) = omega arith

  first_edge : {u g : Node} {n : ℕ} → Goal g → Route Node Edge u g n → D u ≡ n → 0 < D u → D u < top → (v : Node) × (w : ℕ) × Edge u v w × (D u ≡ w + D v)
  first_edge i stop e p l = absurd (omega arith)
  first_edge i (via {u = u} {v = v} {w = w} {n = n} d r) e p l =
      let k = lower_route i r (omega arith) in
      let h = s.on_edge u v w d (omega arith) in
      (v, w, d, omega arith)

  pub descend : (u : Node) → 0 < D u → D u < top → (v : Node) × (w : ℕ) × Edge u v w × (D u ≡ w + D v)
  descend u p l = let t = s.realised u l in first_edge t.is_goal t.route refl p l

  module _ (positive : (u v : Node) (w : ℕ) → Edge u v w → 0 < w) where
    zero_route : {u g : Node} {n : ℕ} → Goal g → Route Node Edge u g n → n ≡ 0 → Goal u
    zero_route i stop e = i
    zero_route i (via {u = u} {v = v} {w = w} {n = n} d r) e = let p = positive u v w d in absurd (omega arith)

    pub zero_goal : (u : Node) → 0 < top → D u ≡ 0 → Goal u
    zero_goal u l e = let t = s.realised u (omega arith) in zero_route t.is_goal t.route e

-- Bounds: a route of few edges

-- the edges without their weights
abbrev pub Plain : {Node : Type 0} → (Node → Node → ℕ → Type 0) → Node → Node → Type 0
Plain Edge u v = (w : ℕ) × Edge u v w

module _ {Node : Type 0} (Edge : Node → Node → ℕ → Type 0) where
  pub route_path : {u v : Node} {n : ℕ} → Route Node Edge u v n → (m : ℕ) × Path Node (Plain Edge) u v m
  route_path stop = (zero, here)
  route_path (via {w = w} e r) = let (m, p) = route_path r in (suc m, step (w, e) p)

  pub path_route : (b : ℕ) → ((u v : Node) (w : ℕ) → Edge u v w → w ≤ b) → {u v : Node} {m : ℕ} → Path Node (Plain Edge) u v m → (n : ℕ) × (n ≤ m * b) × Route Node Edge u v n
  path_route b small here = (zero, omega arith, stop)
  path_route b small (step {u = u} {v = v} {n = m} e p) =
      let (n, l, r) = path_route b small p in
      let k = small u v e.0 e.1 in
      let d = suc-mul m b in
      (e.0 + n, omega arith, via e.1 r)

  module _ (Goal : Node → Type 0) (key : Node → ℕ) (same : (u v : Node) (n : ℕ) → Path Node (Plain Edge) u v n → key u ≡ key v → u ≡ v) where
    pub short_route : (bound b : ℕ) → ((u v : Node) (w : ℕ) → Edge u v w → w ≤ b) → {u : Node} {n : ℕ} → ((v : Node) (k : ℕ) → Path Node (Plain Edge) u v k → key v < bound)
        → ToGoal Edge Goal u n → (m : ℕ) × (k : ℕ) × (m < bound) × (k ≤ m * b) × ToGoal Edge Goal u k
    short_route bound b small all t =
        let p = route_path t.route in
        let (m, l, q) = short_path key same bound all p.1 in
        let (k, d, r) = path_route b small q in
        (m, k, l, d, record { goal = t.goal; is_goal = t.is_goal; route = r })

-- Below a smaller top

pub settled_under : {Node : Type 0} {Edge : Node → Node → ℕ → Type 0} {Goal : Node → Type 0} {limit top : ℕ} {D : Node → ℕ} → limit ≤ top → Settled Edge Goal top D → Settled Edge Goal limit D
settled_under le s = record { at_goal = s.at_goal; on_edge = λ u v w e l. s.on_edge u v w e (omega arith); realised = λ u l. s.realised u (omega arith) }
