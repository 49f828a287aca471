-- The laws of specs/Paths.antt. Assumes nothing.
--
-- append p q             == the path p, then the path q
-- closed P keep p        == a property that edges keep, and that holds where a path starts, holds where it ends
-- Simple Edge key u v    == a path from u to v whose nodes have pairwise distinct keys
-- keys_length            == a path of n edges has n + 1 keys
-- keys_below             == where every node reachable from u has a key below n, so has each node of a path from u
-- cut                    == where on a path equal keys mean equal nodes, every path can be cut to a simple one
-- short_path             == then, with all keys below a bound, some path has fewer edges than the bound
use Rattle.std.specs.Prelude.{◌≡◌, ◌⊎◌, length}
use Rattle.std.proofs.Math.Path.{refl, sym, ap, subst}
use Rattle.std.proofs.Common.{inl, inr, arith, zero-add, suc-add}
use mathlib.Core.List.Memᴰ
use mathlib.Core.List.{[], Memᴰ}
use Prim.Native.Nat.{ℕ, zero, suc, ◌+◌, ◌<◌}
use Rattle.basics.specs.Search.{AllBelow, none, more}
use Rattle.basics.specs.Counting.{Distinct, empty, new, Distinct-tail, mem?, counting}
use Rattle.graphs.specs.Paths.{Path, here, step, keys}

module _ {Node : Type 0} {Edge : Node → Node → Type 0} where
  pub append : {u v w : Node} {n m : ℕ} → Path Node Edge u v n → Path Node Edge v w m → Path Node Edge u w (n + m)
  append here q = rw zero-add q
  append (step e p) q = rw suc-add (step e (append p q))

  pub closed : (P : Node → Type 0) → ((u v : Node) → Edge u v → P u → P v) → {u v : Node} {n : ℕ} → Path Node Edge u v n → P u → P v
  closed P keep here h = h
  closed P keep (step {u = u} {v = v} e p) h = closed P keep p (keep u v e h)

-- Cutting

-- a path whose nodes have pairwise distinct keys
pub record Simple {Node : Type 0} (Edge : Node → Node → Type 0) (key : Node → ℕ) (u v : Node) : Type 0 where
  pub edges : ℕ
  pub path : Path Node Edge u v edges
  pub distinct : Distinct (keys key path)

-- where a path with distinct keys meets the key k: a path to a node with that key, and a simple path on from there
record Meets {Node : Type 0} (Edge : Node → Node → Type 0) (key : Node → ℕ) (u v : Node) (k : ℕ) : Type 0 where
  node : Node
  same : key node ≡ k
  before : ℕ
  to : Path Node Edge u node before
  on : Simple Edge key node v

module _ {Node : Type 0} {Edge : Node → Node → Type 0} (key : Node → ℕ) where
  pub keys_length : {u v : Node} {n : ℕ} (p : Path Node Edge u v n) → length (keys key p) ≡ suc n
  unfolding keys
  keys_length here = refl
  keys_length (step e p) = ap suc (keys_length p)

  -- every node that a path from u reaches has a key below n: so have the nodes of a path from u
  pub keys_below : (n : ℕ) {u v : Node} {m : ℕ} → ((w : Node) (k : ℕ) → Path Node Edge u w k → key w < n) → (p : Path Node Edge u v m) → AllBelow n (keys key p)
  unfolding keys
  keys_below n {u} all here = more (all u zero here) none
  keys_below n {u} all (step e p) = more (all u zero here) (keys_below n (λ w k q. all w (suc k) (step e q)) p)

  meets : (k : ℕ) {u v : Node} {n : ℕ} (p : Path Node Edge u v n) → Distinct (keys key p) → Memᴰ k (keys key p) → Meets Edge key u v k
  unfolding keys
  meets k {u} here d m = at (Memᴰ.cases_cons m)
    where
      at : (k ≡ key u) ⊎ Memᴰ k [] → Meets Edge key u u k
      at (inl e) = record { node = u; same = sym e; before = zero; to = here; on = record { edges = zero; path = here; distinct = d } }
      at (inr z) = absurd (Memᴰ.not-nil z)
  meets k {u} {v} (step {v = w} {n = n} e p) d m = at (Memᴰ.cases_cons m) (meets k p (Distinct-tail d))
    where
      at : (k ≡ key u) ⊎ Memᴰ k (keys key p) → (Memᴰ k (keys key p) → Meets Edge key w v k) → Meets Edge key u v k
      at (inl h) rest = record { node = u; same = sym h; before = zero; to = here; on = record { edges = suc n; path = step e p; distinct = d } }
      at (inr h) rest =
          let r = rest h in
          record { node = r.node; same = r.same; before = suc r.before; to = step e r.to; on = r.on }

  module _ (same : (u v : Node) (n : ℕ) → Path Node Edge u v n → key u ≡ key v → u ≡ v) where
    pub cut : {u v : Node} {n : ℕ} → Path Node Edge u v n → Simple Edge key u v
    unfolding keys
    cut here = record { edges = zero; path = here; distinct = new Memᴰ.not-nil empty }
    cut {u} {v} (step {v = w} e p) = at (cut p)
      where
        at : Simple Edge key w v → Simple Edge key u v
        at q = by (mem? (key u) (keys key q.path))
          where
            by : Dec (Memᴰ (key u) (keys key q.path)) → Simple Edge key u v
            by (yes m) =
                let r = meets (key u) q.path q.distinct m in
                subst (λ x. Simple Edge key x v) (sym (same u r.node (suc r.before) (step e r.to) (sym r.same))) r.on
            by (no f) = record { edges = suc q.edges; path = step e q.path; distinct = new f q.distinct }

    pub short_path : (bound : ℕ) {a b : Node} {n : ℕ} → ((v : Node) (k : ℕ) → Path Node Edge a v k → key v < bound) → Path Node Edge a b n → (m : ℕ) × (m < bound) × Path Node Edge a b m
    short_path bound all p =
        let q = cut p in
        let h = counting bound (keys key q.path) q.distinct (keys_below bound all q.path) in
        let l = keys_length q.path in
        (q.edges, omega arith, q.path)
