-- What is reachable in a graph that is given by a list of successors of each node, computed. The laws, which tie it to paths, stand in
-- specs/Reach/Laws.antt. Assumes nothing.
--
-- Edges succ u v         == v stands in the list of successors of u: the edges of such a graph
-- memb eqN v l           == v stands in the list l (a Bool)
-- reach succ eqN i l     == the elements of l, and what paths of at most i edges reach from them, as a list
-- is_closed succ eqN l    == every successor of an element of l stands in l (a Bool)
use Rattle.std.specs.Prelude.{Bool, true, false, ◌||◌}
use Rattle.std.proofs.Math.Bool.{cond}
use mathlib.Core.List.{List, [], ◌∷◌, ◌++◌, Memᴰ}
use Prim.Native.Nat.{ℕ, zero, suc}
use Rattle.basics.specs.Search.{any_in, all_in}
pub mod Laws

module _ {Node : Type 0} (succ : Node → List Node) where
  abbrev pub Edges : Node → Node → Type 0
  Edges u v = Memᴰ v (succ u)

  -- the successors of the elements of a list
  unfoldable pub succs : List Node → List Node
  succs [] = []
  succs (u ∷ l) = succ u ++ succs l

module _ {Node : Type 0} (eqN : Node → Node → Bool) where
  unfoldable pub memb : Node → List Node → Bool
  unfolding any_in
  memb v l = any_in (eqN v) l

  -- `found` with the elements of a list that stand neither in `seen` nor in `found`, each once
  unfoldable pub fresh : List Node → List Node → List Node → List Node
  unfolding memb
  fresh seen found [] = found
  fresh seen found (v ∷ l) =
      let old = memb v found in
      let without = fresh seen found l in
      let with = fresh seen (v ∷ found) l in
      cond (memb v seen || old) without with

unfoldable pub is_empty : {A : Type 0} → List A → Bool
is_empty [] = true
is_empty (x ∷ l) = false

module _ {Node : Type 0} (succ : Node → List Node) (eqN : Node → Node → Bool) where
  -- `seen` with what at most i more edges reach; `front` has those of `seen` whose successors were not looked at
  unfoldable pub reach_from : ℕ → List Node → List Node → List Node
  unfolding fresh succs is_empty
  reach_from zero seen front = seen
  reach_from (suc i) seen front =
      let next = fresh eqN seen [] (succs succ front) in
      let more = reach_from i (next ++ seen) next in
      cond (is_empty next) seen more

  unfoldable pub reach : ℕ → List Node → List Node
  unfolding reach_from
  reach i l = reach_from i l l

  unfoldable pub is_closed : List Node → Bool
  unfolding all_in memb
  is_closed l = all_in (λ u. all_in (λ v. memb eqN v l) (succ u)) l
