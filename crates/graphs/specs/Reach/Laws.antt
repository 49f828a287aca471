-- The laws of specs/Reach.antt. Assumes nothing.
--
-- Reached Edge l v       == v is the end of a path from an element of l
-- reach_sound            == each element of `reach succ eqN i l` is Reached from l
-- memb_true              == memb is membership, where eqN is equality
-- reach_complete         == what a path of at most i edges reaches from l stands in `reach succ eqN i l`
-- is_closed_all           == a closed list has all that any path reaches from its elements
use Rattle.std.specs.Prelude.{◌≡◌, ◌↔◌, ◌⊎◌, Bool, cond, ◌||◌}
use Rattle.std.proofs.Math.Path.{refl}
use Rattle.std.proofs.Common.{subst, arith}
use Rattle.std.proofs.Math.Logic.{inl, inr}
use Rattle.std.proofs.Math.Bool.{true, false}
use Rattle.std.proofs.lemmas.Bool.{false≢true}
use mathlib.Core.List.Memᴰ
use mathlib.Core.List.{List, [], ◌∷◌, ◌++◌, Memᴰ}
use Prim.Native.Nat.{ℕ, zero, suc, ◌≤◌}
use Rattle.basics.specs.Search.{any_in, all_in}
use Rattle.basics.specs.Search.Laws.{any_in_true, all_in_true, or_true, true_or_false}
use Rattle.graphs.specs.Paths.{Path, here, step}
use Rattle.graphs.specs.Paths.Laws.{closed}
use Rattle.graphs.specs.Reach.{Edges, succs, memb, fresh, is_empty, reach_from, reach, is_closed}

-- v is the end of a path from an element of l
pub record Reached {Node : Type 0} (Edge : Node → Node → Type 0) (l : List Node) (v : Node) : Type 0 where
  pub start : Node
  pub member : Memᴰ start l
  pub edges : ℕ
  pub path : Path Node Edge start v edges

is_empty_none : {A : Type 0} {x : A} (l : List A) → is_empty l ≡ true → Memᴰ x l → ⊥
unfolding is_empty
is_empty_none [] e m = Memᴰ.not-nil m
is_empty_none (y ∷ l) e m = false≢true e

module _ {Node : Type 0} (succ : Node → List Node) where
  succs_of : {u v : Node} {l : List Node} → Memᴰ u l → Edges succ u v → Memᴰ v (succs succ l)
  unfolding succs
  succs_of {v = v} (Memᴰ.head {x = x} {xs = l} d) e = Memᴰ.append_left (succs succ l) (subst (λ x. Edges succ x v) d e)
  succs_of (Memᴰ.tail {x = x} m) e = Memᴰ.append_right (succ x) (succs_of m e)

  succs_to : {v : Node} (l : List Node) → Memᴰ v (succs succ l) → (u : Node) × Memᴰ u l × Edges succ u v
  unfolding succs
  succs_to [] m = absurd (Memᴰ.not-nil m)
  succs_to {v} (u ∷ l) m = at (Memᴰ.append_cases (succ u) m) (succs_to l)
    where
      at : Memᴰ v (succ u) ⊎ Memᴰ v (succs succ l) → (Memᴰ v (succs succ l) → (u : Node) × Memᴰ u l × Edges succ u v) → (w : Node) × Memᴰ w (u ∷ l) × Edges succ w v
      at (inl e) rest = (u, Memᴰ.head refl, e)
      at (inr r) rest = let (w, h, e) = rest r in (w, Memᴰ.tail h, e)

module _ {Node : Type 0} (eqN : Node → Node → Bool) where
  fresh_from : {v : Node} (seen found l : List Node) → Memᴰ v (fresh eqN seen found l) → Memᴰ v found ⊎ Memᴰ v l
  unfolding fresh
  fresh_from seen found [] m = inl m
  fresh_from {v} seen found (x ∷ l) m = at (memb eqN x seen || memb eqN x found) m (fresh_from seen found l) (fresh_from seen (x ∷ found) l)
    where
      tailed : Memᴰ v found ⊎ Memᴰ v l → Memᴰ v found ⊎ Memᴰ v (x ∷ l)
      tailed (inl h) = inl h
      tailed (inr h) = inr (Memᴰ.tail h)

      headed : (v ≡ x) ⊎ Memᴰ v found → Memᴰ v found ⊎ Memᴰ v (x ∷ l)
      headed (inl e) = inr (Memᴰ.head e)
      headed (inr h) = inl h

      moved : Memᴰ v (x ∷ found) ⊎ Memᴰ v l → Memᴰ v found ⊎ Memᴰ v (x ∷ l)
      moved (inl h) = headed (Memᴰ.cases_cons h)
      moved (inr h) = inr (Memᴰ.tail h)

      at : (b : Bool) → Memᴰ v (cond b (fresh eqN seen found l) (fresh eqN seen (x ∷ found) l))
          → (Memᴰ v (fresh eqN seen found l) → Memᴰ v found ⊎ Memᴰ v l)
          → (Memᴰ v (fresh eqN seen (x ∷ found) l) → Memᴰ v (x ∷ found) ⊎ Memᴰ v l)
          → Memᴰ v found ⊎ Memᴰ v (x ∷ l)
      at true h without with = tailed (without h)
      at false h without with = moved (with h)

  fresh_keeps : {v : Node} (seen found l : List Node) → Memᴰ v found → Memᴰ v (fresh eqN seen found l)
  unfolding fresh
  fresh_keeps seen found [] m = m
  fresh_keeps {v} seen found (x ∷ l) m =
      at (memb eqN x seen || memb eqN x found) (fresh_keeps seen found l m) (fresh_keeps seen (x ∷ found) l (Memᴰ.tail m))
    where
      at : (b : Bool) → Memᴰ v (fresh eqN seen found l) → Memᴰ v (fresh eqN seen (x ∷ found) l)
          → Memᴰ v (cond b (fresh eqN seen found l) (fresh eqN seen (x ∷ found) l))
      at true without with = without
      at false without with = with

module _ {Node : Type 0} (succ : Node → List Node) (eqN : Node → Node → Bool) where
  reach_from_keeps : {v : Node} (i : ℕ) (seen front : List Node) → Memᴰ v seen → Memᴰ v (reach_from succ eqN i seen front)
  unfolding reach_from
  reach_from_keeps zero seen front m = m
  reach_from_keeps {v} (suc i) seen front m =
      let next = fresh eqN seen [] (succs succ front) in
      at (is_empty next) (reach_from_keeps i (next ++ seen) next (Memᴰ.append_right next m))
    where
      at : (b : Bool) → Memᴰ v (reach_from succ eqN i (fresh eqN seen [] (succs succ front) ++ seen) (fresh eqN seen [] (succs succ front)))
          → Memᴰ v (cond b seen (reach_from succ eqN i (fresh eqN seen [] (succs succ front) ++ seen) (fresh eqN seen [] (succs succ front))))
      at true h = m
      at false h = h

  reach_from_sound : {v : Node} (i : ℕ) (seen front : List Node) → ((x : Node) → Memᴰ x front → Memᴰ x seen)
      → Memᴰ v (reach_from succ eqN i seen front) → Reached (Edges succ) seen v
  unfolding reach_from
  reach_from_sound {v} zero seen front part m = record { start = v; member = m; edges = zero; path = here }
  reach_from_sound {v} (suc i) seen front part m =
      at (is_empty next) m (reach_from_sound i (next ++ seen) next (λ x h. Memᴰ.append_left seen h))
    where
      next : List Node
      next = fresh eqN seen [] (succs succ front)

      -- what is found is a successor of the front
      found : {x : Node} → Memᴰ x [] ⊎ Memᴰ x (succs succ front) → (u : Node) × Memᴰ u seen × Edges succ u x
      found (inl z) = absurd (Memᴰ.not-nil z)
      found (inr h) = let (u, f, e) = succs_to succ front h in (u, part u f, e)

      back : (r : Reached (Edges succ) (next ++ seen) v) → Memᴰ r.start next ⊎ Memᴰ r.start seen → Reached (Edges succ) seen v
      back r (inl h) =
          let (u, f, e) = found (fresh_from eqN seen [] (succs succ front) h) in
          record { start = u; member = f; edges = suc r.edges; path = step e r.path }
      back r (inr h) = record { start = r.start; member = h; edges = r.edges; path = r.path }

      at : (b : Bool) → Memᴰ v (cond b seen (reach_from succ eqN i (next ++ seen) next))
          → (Memᴰ v (reach_from succ eqN i (next ++ seen) next) → Reached (Edges succ) (next ++ seen) v) → Reached (Edges succ) seen v
      at true h rest = record { start = v; member = h; edges = zero; path = here }
      at false h rest = let r = rest h in back r (Memᴰ.append_cases next r.member)

  pub reach_sound : {v : Node} (i : ℕ) (l : List Node) → Memᴰ v (reach succ eqN i l) → Reached (Edges succ) l v
  unfolding reach
  reach_sound i l m = reach_from_sound i l l (λ x h. h) m

-- from here on eqN is the equality of nodes
module _ {Node : Type 0} (eqN : Node → Node → Bool) (law : (u v : Node) → (eqN u v ≡ true) ↔ (u ≡ v)) where
  pub memb_true : {v : Node} {l : List Node} → (memb eqN v l ≡ true) ↔ Memᴰ v l
  unfolding memb
  memb_true {v} {l} = (to, λ m. (any_in_true (eqN v) l).1 (v, m, (law v v).1 refl))
    where
      to : any_in (eqN v) l ≡ true → Memᴰ v l
      to e = let (x, m, d) = (any_in_true (eqN v) l).0 e in Memᴰ.cast ((law v x).0 d) m

  fresh_new : {v : Node} (seen found l : List Node) → Memᴰ v l → Memᴰ v seen ⊎ Memᴰ v (fresh eqN seen found l)
  unfolding fresh
  fresh_new seen found [] m = absurd (Memᴰ.not-nil m)
  fresh_new {v} seen found (x ∷ l) m =
      at (true_or_false (memb eqN x seen || memb eqN x found)) (Memᴰ.cases_cons m) (fresh_new seen found l) (fresh_new seen (x ∷ found) l)
    where
      old : (memb eqN x seen ≡ true) ⊎ (memb eqN x found ≡ true) → Memᴰ x seen ⊎ Memᴰ x (fresh eqN seen found l)
      old (inl t) = inl (memb_true.0 t)
      old (inr t) = inr (fresh_keeps eqN seen found l (memb_true.0 t))

      cast : v ≡ x → Memᴰ x seen ⊎ Memᴰ x (fresh eqN seen found l) → Memᴰ v seen ⊎ Memᴰ v (fresh eqN seen found l)
      cast e (inl h) = inl (Memᴰ.cast e h)
      cast e (inr h) = inr (Memᴰ.cast e h)

      kept : (memb eqN x seen || memb eqN x found) ≡ true → (v ≡ x) ⊎ Memᴰ v l
          → (Memᴰ v l → Memᴰ v seen ⊎ Memᴰ v (fresh eqN seen found l)) → Memᴰ v seen ⊎ Memᴰ v (fresh eqN seen found l)
      kept t (inl e) rest = cast e (old (or_true (memb eqN x seen) (memb eqN x found) t))
      kept t (inr h) rest = rest h

      added : (v ≡ x) ⊎ Memᴰ v l
          → (Memᴰ v l → Memᴰ v seen ⊎ Memᴰ v (fresh eqN seen (x ∷ found) l)) → Memᴰ v seen ⊎ Memᴰ v (fresh eqN seen (x ∷ found) l)
      added (inl e) rest = inr (fresh_keeps eqN seen (x ∷ found) l (Memᴰ.head e))
      added (inr h) rest = rest h

      at : ((memb eqN x seen || memb eqN x found) ≡ true) ⊎ ((memb eqN x seen || memb eqN x found) ≡ false) → (v ≡ x) ⊎ Memᴰ v l
          → (Memᴰ v l → Memᴰ v seen ⊎ Memᴰ v (fresh eqN seen found l))
          → (Memᴰ v l → Memᴰ v seen ⊎ Memᴰ v (fresh eqN seen (x ∷ found) l))
          → Memᴰ v seen ⊎ Memᴰ v (cond (memb eqN x seen || memb eqN x found) (fresh eqN seen found l) (fresh eqN seen (x ∷ found) l))
      at (inl t) which without with = rw t (kept t which without)
      at (inr f) which without with = rw f (added which with)

module _ {Node : Type 0} (succ : Node → List Node) (eqN : Node → Node → Bool) (law : (u v : Node) → (eqN u v ≡ true) ↔ (u ≡ v)) where
  -- an element of seen stands in the front, or its successors stand in seen
  abbrev Settled : List Node → List Node → Type 0
  Settled seen front = (x : Node) → Memᴰ x seen → Memᴰ x front ⊎ ((y : Node) → Edges succ x y → Memᴰ y seen)

  -- after a step the successors of seen stand in what is then seen
  settled_next : (seen front : List Node) → Settled seen front → (x y : Node) → Memᴰ x seen → Edges succ x y
      → Memᴰ y seen ⊎ Memᴰ y (fresh eqN seen [] (succs succ front))
  settled_next seen front ok x y m e = at (ok x m)
    where
      at : Memᴰ x front ⊎ ((y : Node) → Edges succ x y → Memᴰ y seen) → Memᴰ y seen ⊎ Memᴰ y (fresh eqN seen [] (succs succ front))
      at (inl f) = fresh_new eqN law seen [] (succs succ front) (succs_of succ f e)
      at (inr done) = inl (done y e)

  reach_from_complete : {u v : Node} {n : ℕ} (i : ℕ) (seen front : List Node) → Settled seen front → n ≤ i → Memᴰ u seen
      → Path Node (Edges succ) u v n → Memᴰ v (reach_from succ eqN i seen front)
  unfolding reach_from
  reach_from_complete zero seen front ok le m here = m
  reach_from_complete zero seen front ok le m (step e p) = absurd (omega arith)
  reach_from_complete {v = v} (suc i) seen front ok le m here = reach_from_keeps succ eqN (suc i) seen front m
  reach_from_complete {u} {v} (suc i) seen front ok le m (step {v = w} {n = k} e p) =
      at (true_or_false (is_empty next)) (reach_from_complete {u = w} {v = v} {n = k} i (next ++ seen) next ok' (omega arith) (joined (settled_next seen front ok u w m e)) p)
    where
      next : List Node
      next = fresh eqN seen [] (succs succ front)

      joined : {y : Node} → Memᴰ y seen ⊎ Memᴰ y next → Memᴰ y (next ++ seen)
      joined (inl h) = Memᴰ.append_right next h
      joined (inr h) = Memᴰ.append_left seen h

      which : (x : Node) → Memᴰ x next ⊎ Memᴰ x seen → Memᴰ x next ⊎ ((y : Node) → Edges succ x y → Memᴰ y (next ++ seen))
      which x (inl h) = inl h
      which x (inr h) = inr (λ y d. joined (settled_next seen front ok x y h d))

      ok' : Settled (next ++ seen) next
      ok' x h = which x (Memᴰ.append_cases next h)

      only : (is_empty next ≡ true) → {y : Node} → Memᴰ y seen ⊎ Memᴰ y next → Memᴰ y seen
      only t (inl h) = h
      only t (inr h) = absurd (is_empty_none next t h)

      at : (is_empty next ≡ true) ⊎ (is_empty next ≡ false) → Memᴰ v (reach_from succ eqN i (next ++ seen) next)
          → Memᴰ v (cond (is_empty next) seen (reach_from succ eqN i (next ++ seen) next))
      at (inl t) rest =
          rw t (closed (λ x. Memᴰ x seen) (λ x y d h. only t (settled_next seen front ok x y h d)) (step e p) m)
      at (inr f) rest = rw f rest

  pub reach_complete : {u v : Node} {n : ℕ} (i : ℕ) (l : List Node) → n ≤ i → Memᴰ u l → Path Node (Edges succ) u v n → Memᴰ v (reach succ eqN i l)
  unfolding reach
  reach_complete i l le m p = reach_from_complete i l l (λ x h. inl h) le m p

  pub is_closed_all : {u v : Node} {n : ℕ} (l : List Node) → is_closed succ eqN l ≡ true → Memᴰ u l → Path Node (Edges succ) u v n → Memᴰ v l
  unfolding is_closed
  is_closed_all l t m p =
      closed (λ x. Memᴰ x l)
      (λ x y d h. (memb_true eqN law).0 ((all_in_true (λ w. memb eqN w l) (succ x)).0 ((all_in_true (λ z. all_in (λ w. memb eqN w l) (succ z)) l).0 t x h) y d)) p m
