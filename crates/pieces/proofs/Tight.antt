-- The last piece of a least run, found from settled numbers: laws for writing a run from its end.
--
-- TightMove M D q      == a normal move into q with D q = (its weight) + D p
-- TightCopy M D q      == a copy that ends in q with D q = (its weight) + D g
-- settled_back         == where D q is neither 0 nor none there is one or the other
-- settled_start        == where D q is 0, q is initial
-- block_tight          == with a settled block for the guess of a tight copy, D q is the block's number and 2 more, for the changes of mode
-- block_above          == and with any guess it is no more than that
-- settled_leads        == a number below top is the weight of pieces from an initial state
use Rattle.std.specs.Prelude.{ℕ, ◌+◌, ◌*◌, ◌≤◌, ◌<◌, ◌≡◌, ◌⊎◌, List, length}
use Rattle.std.proofs.Common.{subst, inl, inr, arith}
use Rattle.graphs.specs.Cost.{Route, Settled}
use Rattle.graphs.specs.Cost.Laws.{descend, zero_goal}
use Rattle.graphs.specs.Back.{Back}
use Rattle.graphs.specs.Back.Laws.{route_back}
use Rattle.fsbm.specs.Published.{FSBM}
use Rattle.pieces.specs.Pieces.{Leads}
use Rattle.pieces.specs.Pairs.{unit, weigh, Pair, both, PairMove, moves, Piece, moved, copied}
use Rattle.pieces.proofs.PairsLaws.{route_leads, piece_positive}
use Rattle.pieces.specs.Blocks.{Node, outside, inside, BlockEdge}
use Rattle.pieces.proofs.BlocksLaws.{block_copies}
use Rattle.pieces.proofs.RoundsLaws.{copy_origin}

pub record TightMove (M : FSBM) (D : ℕ → ℕ) (q : ℕ) : Type 0 where
  pub from : ℕ
  pub by : ℕ
  pub listed : M.δ from by q
  pub not_both : M.H from × M.H q → ⊥
  pub not_from : M.G from → ⊥
  pub tight : D q ≡ weigh by + D from

pub record TightCopy (M : FSBM) (D : ℕ → ℕ) (q : ℕ) : Type 0 where
  pub from : ℕ
  pub middle : ℕ
  pub weight : ℕ
  pub buffers : M.G from
  pub turns : M.H middle
  pub ends : M.H q
  pub route : Route Pair (PairMove M) (both from middle) (both middle q) weight
  pub tight : D q ≡ 3 + weight + D from

module _ {M : FSBM} {top : ℕ} {D : ℕ → ℕ} (s : Settled (Back (Piece M)) M.I top D) where
  pub settled_back : (q : ℕ) → 0 < D q → D q < top → TightMove M D q ⊎ TightCopy M D q
  settled_back q p l = let (v, w, e, is) = descend s q p l in at v w e is
    where
      at : (v w : ℕ) → Piece M v q w → D q ≡ w + D v → TightMove M D q ⊎ TightCopy M D q
      at v w (moved (moves {a = a} δ none n)) is = inl (record { from = v; by = a; listed = δ; not_both = none; not_from = n; tight = is })
      at v w (copied {h = h} {n = n} a b c r) is = inr (record { from = v; middle = h; weight = n; buffers = a; turns = b; ends = c; route = r; tight = is })

  pub settled_start : (q : ℕ) → 0 < top → D q ≡ 0 → M.I q
  settled_start q l e = zero_goal s (λ u v w p. piece_positive v u w p) q l e

  module _ {S : ℕ → Type 0} {B : Node → ℕ} {h : ℕ} (b : Settled (BlockEdge M h D S) (λ (u : Node). u ≡ outside) top B) where
    pub block_above : (q : ℕ) → M.H h → M.H q → B (inside (both h q)) + 2 < top → D q ≤ B (inside (both h q)) + 2
    block_above q turns ends l =
        let (g, w, m, p, is) = copy_origin b q turns ends (omega arith) in
        let k = s.on_edge q g w p (omega arith) in
        omega arith

    pub block_tight : (q : ℕ) (t : TightCopy M D q) → t.middle ≡ h → S t.from → D q < top → D q ≡ B (inside (both h q)) + 2
    block_tight q t is m l =
        let e = t.tight in
        let under = block_copies b m t.buffers (subst (λ (z : ℕ). Route Pair (PairMove M) (both t.from z) (both z q) t.weight) is t.route) (omega arith) in
        let over = block_above q (subst (λ (z : ℕ). M.H z) is t.turns) t.ends (omega arith) in
        omega arith

  pub settled_leads : (q : ℕ) → D q < top → (p : ℕ) × (w : List ℕ) × (k : ℕ) × M.I p × Leads M p w q k × (D q ≡ length w * unit + k)
  settled_leads q l =
      let t = s.realised q l in
      let (w, k, leads, e) = route_leads (route_back (Back (Piece M)) t.route) in
      (t.goal, w, k, t.is_goal, leads, e)
