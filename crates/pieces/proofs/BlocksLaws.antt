-- The laws of specs/Blocks.antt.
--
-- cost_inside, cost_past, cell_inside, cell_past == the number at a state, at a pair; and where there is none
-- Begun M h D S v k    == k is the weight of a copy with the guess h that began in a state of S, as far as the pair v
-- block_copies         == a number of a settled block is at most the weight of each such copy
-- block_realised       == and the weight of one of them
-- block_back           == a number of a settled block is that of a copy that has just begun, or one move of the pair more than another number
use Rattle.std.specs.Prelude.{ℕ, zero, suc, ◌+◌, ◌*◌, ◌≤◌, ◌<◌, ◌≡◌, refl, ◌⊎◌, Bool, List, get_or, ltb}
use Rattle.std.proofs.Common.{sym, ◌∙◌, subst, inl, inr, arith, lt-ltb, le-ltb}
use Rattle.std.proofs.Math.Path.{ap}
use Rattle.std.proofs.Math.Bool.{cond}
use Rattle.basics.specs.Search.Laws.{and_both_true, and_false_left, and_false_right}
use Rattle.graphs.specs.Cost.{Route, stop, via, Settled}
use Rattle.graphs.specs.Cost.Laws.{lower_bound, descend, zero_goal}
use Rattle.graphs.specs.Back.Laws.{route_weight, route_snoc}
use Rattle.fsbm.specs.Published.{FSBM}
use Rattle.pieces.specs.Pairs.{Pair, both, PairMove}
use Rattle.pieces.proofs.PairsLaws.{pair_positive}
use Rattle.pieces.specs.Blocks.{most_states, nothing, cost_of, Node, outside, inside, BlockEdge, begins, goes_on, cell}

-- Where the numbers stand

module _ (d : List ℕ) (q : ℕ) where
  pub cost_inside : q < most_states → cost_of d q ≡ get_or d q 0
  unfolding cost_of
  cost_inside l = ap (λ (b : Bool). cond b (get_or d q 0) nothing) (lt-ltb q most_states l)

  pub cost_past : most_states ≤ q → cost_of d q ≡ nothing
  unfolding cost_of
  cost_past l = ap (λ (b : Bool). cond b (get_or d q 0) nothing) (le-ltb q most_states l)

module _ (b : List ℕ) (s t : ℕ) where
  pub cell_inside : s < most_states → t < most_states → cell b s t ≡ get_or b (s * most_states + t) 0
  unfolding cell
  cell_inside ls lt =
      ap (λ (z : Bool). cond z (get_or b (s * most_states + t) 0) nothing)
      (and_both_true (ltb s most_states) (ltb t most_states) (lt-ltb s most_states ls) (lt-ltb t most_states lt))

  pub cell_past : (most_states ≤ s) ⊎ (most_states ≤ t) → cell b s t ≡ nothing
  unfolding cell
  cell_past (inl l) = ap (λ (z : Bool). cond z (get_or b (s * most_states + t) 0) nothing) (and_false_left (ltb s most_states) (ltb t most_states) (le-ltb s most_states l))
  cell_past (inr l) = ap (λ (z : Bool). cond z (get_or b (s * most_states + t) 0) nothing) (and_false_right (ltb s most_states) (ltb t most_states) (le-ltb t most_states l))

-- A settled block

pub inside_not : {u : Pair} → inside u ≡ outside → ⊥
inside_not e = let z : ◌≡◌ {A = ℕ} 0 1 = cc in omega arith

pub record Begun (M : FSBM) (h : ℕ) (D : ℕ → ℕ) (S : ℕ → Type 0) (v : Pair) (k : ℕ) : Type 0 where
  pub first : ℕ
  pub member : S first
  pub buffers : M.G first
  pub weight : ℕ
  pub route : Route Pair (PairMove M) (both first h) v weight
  pub total : k ≡ weight + (D first + 1)

module _ {M : FSBM} {h : ℕ} {D : ℕ → ℕ} {S : ℕ → Type 0} where
  -- a way out of the copy from u, and a route of pairs from u to v: a way out from v
  on_route : {u v : Pair} {n k : ℕ} → Route Pair (PairMove M) u v n → Route Node (BlockEdge M h D S) (inside u) outside k → Route Node (BlockEdge M h D S) (inside v) outside (n + k)
  on_route {k = k} stop q = route_weight (let z : k ≡ 0 + k = omega arith in z) q
  on_route {k = k} (via {w = w} {n = n} e r) q = route_weight (let z : n + (w + k) ≡ w + n + k = omega arith in z) (on_route r (via (goes_on e) q))

  no_way : {X Y : Node} {k : ℕ} → Route Node (BlockEdge M h D S) X Y k → X ≡ outside → k ≡ 0
  no_way stop e = refl
  no_way (via (begins m g) r) e = absurd (inside_not e)
  no_way (via (goes_on p) r) e = absurd (inside_not e)

  begun_of : {X Y : Node} {v : Pair} {k : ℕ} → Route Node (BlockEdge M h D S) X Y k → X ≡ inside v → Y ≡ outside → Begun M h D S v k
  begun_of stop e o = absurd (inside_not (sym e ∙ o))
  begun_of {v = v} (via (begins {g = g} m buffers) r) e o =
      let z = no_way r refl in
      let at : both g h ≡ v = cc in
      record {
        first = g;
        member = m;
        buffers = buffers;
        weight = 0;
        route = subst (λ (u : Pair). Route Pair (PairMove M) (both g h) u 0) at stop;
        total = omega arith;
      }
  begun_of {v = v} (via (goes_on {u = u} {v = v'} {w = w} p) r) e o =
      let b = begun_of r refl o in
      let at : v' ≡ v = cc in
      record {
        first = b.first;
        member = b.member;
        buffers = b.buffers;
        weight = b.weight + w;
        route = subst (λ (u : Pair). Route Pair (PairMove M) (both b.first h) u (b.weight + w)) at (route_snoc b.route p);
        total = let t = b.total in omega arith;
      }

module _ {M : FSBM} {h : ℕ} {D : ℕ → ℕ} {S : ℕ → Type 0} {top : ℕ} {B : Node → ℕ} (s : Settled (BlockEdge M h D S) (λ (u : Node). u ≡ outside) top B) where
  pub block_copies : {g n : ℕ} {v : Pair} → S g → M.G g → Route Pair (PairMove M) (both g h) v n → n + (D g + 1) < top → B (inside v) ≤ n + (D g + 1)
  block_copies {g} {n} {v} m buffers r l =
      let out : Route Node (BlockEdge M h D S) (inside (both g h)) outside (D g + 1) = route_weight (let z : D g + 1 + 0 ≡ D g + 1 = omega arith in z) (via (begins m buffers) stop) in
      lower_bound s {u = inside v} (record { goal = outside; is_goal = refl; route = on_route r out }) l

  pub block_realised : (v : Pair) → B (inside v) < top → Begun M h D S v (B (inside v))
  block_realised v l = let t = s.realised (inside v) l in begun_of t.route refl t.is_goal

  edge_positive : (u v : Node) (w : ℕ) → BlockEdge M h D S u v w → 0 < w
  edge_positive u v w (begins m g) = omega arith
  edge_positive u v w (goes_on {u = x} {v = y} p) = pair_positive x y w p

  pub block_positive : 0 < top → (v : Pair) → 0 < B (inside v)
  block_positive pos v = at (B (inside v)) refl
    where
      at : (k : ℕ) → B (inside v) ≡ k → 0 < B (inside v)
      at zero e = absurd (inside_not (zero_goal s edge_positive (inside v) pos e))
      at (suc k) e = omega arith

  pub block_back : (v : Pair) → B (inside v) < top
      → ((g : ℕ) × S g × M.G g × (v ≡ both g h) × (B (inside v) ≡ D g + 1)) ⊎ ((u : Pair) × (w : ℕ) × PairMove M u v w × (B (inside v) ≡ w + B (inside u)))
  block_back v l = let (x, w, e, is) = descend s (inside v) (block_positive (omega arith) v) l in at w x e refl is
    where
      at : {y : Node} (w : ℕ) (x : Node) → BlockEdge M h D S y x w → y ≡ inside v → B (inside v) ≡ w + B x
          → ((g : ℕ) × S g × M.G g × (v ≡ both g h) × (B (inside v) ≡ D g + 1)) ⊎ ((u : Pair) × (w : ℕ) × PairMove M u v w × (B (inside v) ≡ w + B (inside u)))
      at w x (begins {g = g} m buffers) e is =
          let z = s.at_goal outside refl in
          let same : v ≡ both g h = cc in
          inl (g, m, buffers, same, omega arith)
      at w x (goes_on {u = u} {v = v'} p) e is =
          let same : v' ≡ v = cc in
          inr (u, w, subst (λ (y : Pair). PairMove M u y w) same p, is)
