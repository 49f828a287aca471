-- The laws of specs/Pairs.antt.
--
-- weigh_symbol         == the weight of a move: that of what it reads, and 1
-- pair_weight x i j     == the weight of a route of pairs that reads x, in i and j moves of its halves
-- together             == two halves that read the same string are a route of pairs of this weight
-- apart                == and a route of pairs is two halves that read the same string, with this weight
-- leads_route          == pieces that read w in k moves are a route of weight (letters of w) × unit + k
-- route_leads          == and a route is pieces, with this weight
-- piece_positive, pair_positive == every edge weighs something
use Rattle.std.specs.Prelude.{ℕ, zero, suc, ◌+◌, ◌*◌, ◌<◌, ◌≡◌, refl, List, [], ◌∷◌, ◌++◌, length}
use Rattle.std.proofs.Common.{sym, subst, arith, length-append}
use Rattle.graphs.specs.Cost.{Route, stop, via}
use Rattle.graphs.specs.Back.Laws.{route_weight}
use Rattle.fsbm.specs.Published.{FSBM, symbol}
use Rattle.pieces.specs.Pieces.{Stores, stored, store, Matches, matched, match, Leads, ended, read, copy}
use Rattle.pieces.specs.Pairs.{unit, halves, weigh, Pair, both, PairMove, stores_none, matches_none, letter, moves, Piece, moved, copied}

pub weigh_symbol : (a : ℕ) → weigh a ≡ length (symbol a) * unit + 1
weigh_symbol zero = refl
weigh_symbol (suc a) = refl

abbrev pub pair_weight : List ℕ → ℕ → ℕ → ℕ
pair_weight x i j = length x * (halves * unit) + (i + j)

-- The two halves of a copy

not_empty : {a : ℕ} {x : List ℕ} → suc a ∷ x ≡ [] → ⊥
not_empty e = let z : ◌≡◌ {A = ℕ} 0 1 = cc in omega arith

module _ {M : FSBM} where
  side_by_side : {s s' t t' i j : ℕ} {x y : List ℕ} → Stores M s x s' i → Matches M t y t' j → x ≡ y → Route Pair (PairMove M) (both s t) (both s' t') (pair_weight x i j)
  side_by_side stored matched e = stop
  side_by_side stored (match {a = zero} {k = j} δ from to m) e =
      route_weight (let z : 1 + (0 + (0 + j)) ≡ 0 + (0 + suc j) = omega arith in z) (via (matches_none δ from to) (side_by_side stored m e))
  side_by_side stored (match {a = suc a} δ from to m) e = absurd (not_empty (sym e))
  side_by_side {j = j} (store {a = zero} {k = i} {x = x} δ apart n r) m e =
      route_weight (let z : 1 + pair_weight x i j ≡ pair_weight x (suc i) j = omega arith in z) (via (stores_none δ apart n) (side_by_side r m e))
  side_by_side (store {a = suc a} δ apart n r) matched e = absurd (not_empty e)
  side_by_side (store {a = suc a} {k = i} {x = x} δ apart n r) (match {a = zero} {k = j} δ' from to m) e =
      route_weight (let z : 1 + pair_weight (suc a ∷ x) (suc i) j ≡ pair_weight (suc a ∷ x) (suc i) (suc j) = omega arith in z)
      (via (matches_none δ' from to) (side_by_side (store {a = suc a} δ apart n r) m e))
  side_by_side (store {s = s} {a = suc a} {k = i} {x = x} δ apart n r) (match {s = t} {a = suc b} {t = t₁} {k = j} {x = y} δ' from to m) e =
      let same : suc b ≡ suc a = cc in
      let rest : x ≡ y = cc in
      route_weight (let z : halves * (unit + 1) + pair_weight x i j ≡ pair_weight (suc a ∷ x) (suc i) (suc j) = omega arith in z)
      (via (letter δ apart n (subst (λ (c : ℕ). M.δ t c t₁) same δ') from to) (side_by_side r m rest))

  pub together : {s s' t t' i j : ℕ} {x : List ℕ} → Stores M s x s' i → Matches M t x t' j → Route Pair (PairMove M) (both s t) (both s' t') (pair_weight x i j)
  together r m = side_by_side r m refl

-- the two halves that a route of pairs is made of
pub record Halves (M : FSBM) (u v : Pair) (n : ℕ) : Type 0 where
  pub string : List ℕ
  pub storing_moves : ℕ
  pub matching_moves : ℕ
  pub stores : Stores M u.storing string v.storing storing_moves
  pub matches : Matches M u.matching string v.matching matching_moves
  pub weight : n ≡ pair_weight string storing_moves matching_moves

module _ {M : FSBM} where
  pub apart : {u v : Pair} {n : ℕ} → Route Pair (PairMove M) u v n → Halves M u v n
  apart stop = record { string = []; storing_moves = zero; matching_moves = zero; stores = stored; matches = matched; weight = refl }
  apart (via (stores_none δ none n) r) =
      let k = apart r in
      record {
        string = k.string;
        storing_moves = suc k.storing_moves;
        matching_moves = k.matching_moves;
        stores = store {a = zero} δ none n k.stores;
        matches = k.matches;
        weight = let e = k.weight in omega arith;
      }
  apart (via (matches_none δ from to) r) =
      let k = apart r in
      record {
        string = k.string;
        storing_moves = k.storing_moves;
        matching_moves = suc k.matching_moves;
        stores = k.stores;
        matches = match {a = zero} δ from to k.matches;
        weight = let e = k.weight in omega arith;
      }
  apart (via (letter {a = a} δ none n δ' from to) r) =
      let k = apart r in
      record {
        string = suc a ∷ k.string;
        storing_moves = suc k.storing_moves;
        matching_moves = suc k.matching_moves;
        stores = store {a = suc a} δ none n k.stores;
        matches = match {a = suc a} δ' from to k.matches;
        weight = let e = k.weight in omega arith;
      }

  -- Pieces of a run

  pub leads_route : {q f k : ℕ} {w : List ℕ} → Leads M q w f k → Route ℕ (Piece M) q f (length w * unit + k)
  leads_route ended = stop
  leads_route (read {a = a} {k = k} {w = w} δ none n r) =
      let e = weigh_symbol a in
      let l = length-append (symbol a) w in
      route_weight (let z : weigh a + (length w * unit + k) ≡ length (symbol a ++ w) * unit + suc k = omega arith in z) (via (moved (moves δ none n)) (leads_route r))
  leads_route (copy {i = i} {j = j} {k = k} {x = x} {w = w} g s h m z r) =
      let l = length-append x (x ++ w) in
      let l' = length-append x w in
      route_weight (let z : 3 + pair_weight x i j + (length w * unit + k) ≡ length (x ++ (x ++ w)) * unit + suc (i + suc (j + suc k)) = omega arith in z)
      (via (copied g h z (together s m)) (leads_route r))

  pub route_leads : {q f n : ℕ} → Route ℕ (Piece M) q f n → (w : List ℕ) × (k : ℕ) × Leads M q w f k × (n ≡ length w * unit + k)
  route_leads stop = ([], zero, ended, refl)
  route_leads (via (moved (moves {a = a} δ none n)) r) =
      let (w, k, l, e) = route_leads r in
      let d = weigh_symbol a in
      let s = length-append (symbol a) w in
      (symbol a ++ w, suc k, read δ none n l, omega arith)
  route_leads (via (copied g h z p) r) =
      let (w, k, l, e) = route_leads r in
      let c = apart p in
      let x = c.string in
      let d = c.weight in
      let s = length-append x (x ++ w) in
      let s' = length-append x w in
      (x ++ (x ++ w), suc (c.storing_moves + suc (c.matching_moves + suc k)), copy g c.stores h c.matches z l, omega arith)

-- Weights are positive

weigh_positive : (a : ℕ) → 0 < weigh a
weigh_positive zero = omega arith
weigh_positive (suc a) = omega arith

pub piece_positive : {M : FSBM} (p q w : ℕ) → Piece M p q w → 0 < w
piece_positive p q w (moved (moves {a = a} δ none n)) = weigh_positive a
piece_positive p q w (copied g h z r) = omega arith

pub pair_positive : {M : FSBM} (u v : Pair) (w : ℕ) → PairMove M u v w → 0 < w
pair_positive u v w (stores_none δ none n) = omega arith
pair_positive u v w (matches_none δ from to) = omega arith
pair_positive u v w (letter δ none n δ' from to) = omega arith
