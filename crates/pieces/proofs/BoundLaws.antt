-- The laws of specs/Bound.antt.
--
-- bound_is             == the bound in figures
-- short_copy           == where two halves of a copy read the same string, two with the same ends read one of fewer letters than there are pairs
-- short_leads          == where pieces lead from a state to another, some that read at most word_bound letters do
-- short_word           == a machine that accepts a word accepts one of at most word_bound letters
use Rattle.std.specs.Prelude.{ℕ, zero, suc, ◌+◌, ◌*◌, ◌-◌, ◌≤◌, ◌<◌, ◌≡◌, refl, true, List, length}
use Rattle.std.proofs.Common.{subst, arith}
use Rattle.graphs.specs.Paths.{Path, here, step}
use Rattle.graphs.specs.Cost.{Route, stop, via}
use Rattle.graphs.specs.Cost.Laws.{Plain, short_route}
use Rattle.fsbm.specs.Machine.{well_formed}
use Rattle.fsbm.specs.Published.{FSBM, fsbm_of, InLanguage}
use Rattle.fsbm.specs.Rules.{rules, buffering_below, matching_below}
use Rattle.fsbm.specs.declared.machine.Machine.{Machine}
use Rattle.language.specs.Agreement.{run_path, path_run}
use Rattle.pieces.specs.Pieces.{Leads}
use Rattle.pieces.specs.Pieces.Laws.{path_leads, leads_path}
use Rattle.pieces.specs.Pairs.{unit, halves, weigh, Pair, PairMove, stores_none, matches_none, letter, moves, Piece, moved, copied}
use Rattle.pieces.proofs.PairsLaws.{leads_route, route_leads}
use Rattle.pieces.specs.Blocks.{most_states}
use Rattle.pieces.specs.Bound.{word_bound}

pub bound_is : word_bound ≡ 515970
bound_is = refl

-- Routes of pairs with few moves

abbrev pair_key : Pair → ℕ
pair_key u = u.storing * most_states + u.matching

abbrev Small : Pair → Type 0
Small u = (u.storing < most_states) × (u.matching < most_states)

same_pair : (u v : Pair) → Small u → Small v → pair_key u ≡ pair_key v → u ≡ v
same_pair u v (a, b) (c, d) e =
    let s : u.storing ≡ v.storing = omega arith in
    let t : u.matching ≡ v.matching = omega arith in
    λ i. record { storing = s i; matching = t i }

-- a move between pairs of states that are there
abbrev Inner : FSBM → Pair → Pair → ℕ → Type 0
Inner M u v w = PairMove M u v w × Small u × Small v

-- the most that a copy weighs whose pairs are distinct
abbrev heaviest : ℕ
heaviest = (most_states * most_states - 1) * (halves * (unit + 1))

-- a piece between states that are there, whose pairs are distinct if it is a copy
abbrev Light : FSBM → ℕ → ℕ → ℕ → Type 0
Light M p q w = Piece M p q w × (p < most_states) × (q < most_states) × (w ≤ 3 + heaviest)

module _ (M : FSBM) where
  outer_route : {u v : Pair} {n : ℕ} → Route Pair (Inner M) u v n → Route Pair (PairMove M) u v n
  outer_route stop = stop
  outer_route (via e r) = via e.0 (outer_route r)

  path_small : {u v : Pair} {n : ℕ} → Path Pair (Plain (Inner M)) u v n → Small u → Small v
  path_small here k = k
  path_small (step (w, e) p) k = path_small p e.2

  same_on_path : (u v : Pair) (n : ℕ) → Path Pair (Plain (Inner M)) u v n → pair_key u ≡ pair_key v → u ≡ v
  same_on_path u v n here e = refl
  same_on_path u v n (step (w, d) p) e = same_pair u v d.1 (path_small (step (w, d) p) d.1) e

  key_below : (u : Pair) → Small u → pair_key u < most_states * most_states
  key_below u (a, b) = omega arith

  move_weight : (u v : Pair) (w : ℕ) → Inner M u v w → w ≤ halves * (unit + 1)
  move_weight u v w (stores_none δ none n, k, l) = omega arith
  move_weight u v w (matches_none δ from to, k, l) = omega arith
  move_weight u v w (letter δ none n δ' from to, k, l) = omega arith

  heavy_route : {p q n : ℕ} → Route ℕ (Light M) p q n → Route ℕ (Piece M) p q n
  heavy_route stop = stop
  heavy_route (via e r) = via e.0 (heavy_route r)

  path_below : {p q n : ℕ} → Path ℕ (Plain (Light M)) p q n → p < most_states → q < most_states
  path_below here k = k
  path_below (step (w, e) p) k = path_below p e.2

  module _ (states : (p a q : ℕ) → M.δ p a q → (p < most_states) × (q < most_states)) where
    move_small : {u v : Pair} {w : ℕ} → PairMove M u v w → Small u → Small v
    move_small (stores_none {s = s} {s' = s'} δ none n) (a, b) = ((states s 0 s' δ).1, b)
    move_small (matches_none {t = t} {t' = t'} δ from to) (a, b) = (a, (states t 0 t' δ).1)
    move_small (letter {s = s} {s' = s'} {t = t} {t' = t'} {a = x} δ none n δ' from to) k = ((states s (suc x) s' δ).1, (states t (suc x) t' δ').1)

    inner_route : {u v : Pair} {n : ℕ} → Route Pair (PairMove M) u v n → Small u → Route Pair (Inner M) u v n
    inner_route stop k = stop
    inner_route (via e r) k = let l = move_small e k in via (e, k, l) (inner_route r l)

    pub short_copy : {u v : Pair} {n : ℕ} → Small u → Route Pair (PairMove M) u v n → (k : ℕ) × (k ≤ (most_states * most_states - 1) * (halves * (unit + 1))) × Route Pair (PairMove M) u v k
    short_copy {u} {v} k r =
        let (m, n, few, light, t) = short_route (Inner M) (λ (x : Pair). x ≡ v) pair_key same_on_path (most_states * most_states) (halves * (unit + 1)) move_weight {u = u}
        (λ x l p. key_below x (path_small p k)) (record { goal = v; is_goal = refl; route = inner_route r k }) in
        (n, omega arith, subst (λ (x : Pair). Route Pair (PairMove M) u x n) t.is_goal (outer_route t.route))

    -- Routes of pieces with few of them

    module _ (buffers : (q : ℕ) → M.G q → q < most_states) (matches : (q : ℕ) → M.H q → q < most_states) where
      light_move : (a : ℕ) → weigh a ≤ 3 + heaviest
      light_move zero = omega arith
      light_move (suc a) = omega arith

      light_piece : (p q w : ℕ) → Piece M p q w → (n : ℕ) × Light M p q n
      light_piece p q w (moved (moves {a = a} δ none n)) = let (l, k) = states p a q δ in (w, (moved (moves {a = a} δ none n), l, k, light_move a))
      light_piece p q w (copied {h = h} g turns z r) =
          let l = buffers p g in
          let (k, light, s) = short_copy (l, matches h turns) r in
          (3 + k, (copied g turns z s, l, matches q z, omega arith))

      light_route : {p q n : ℕ} → Route ℕ (Piece M) p q n → (k : ℕ) × Route ℕ (Light M) p q k
      light_route stop = (0, stop)
      light_route (via {u = p} {v = q} {w = w} e r) = let (k, s) = light_route r in let (n, l) = light_piece p q w e in (n + k, via l s)

      pub short_leads : {q f k : ℕ} {w : List ℕ} → q < most_states → Leads M q w f k → (w' : List ℕ) × (k' : ℕ) × (length w' ≤ word_bound) × Leads M q w' f k'
      short_leads {q} {f} below l =
          let (n, r) = light_route (leads_route l) in
          let (m, k, few, light, t) = short_route (Light M) (λ (x : ℕ). x ≡ f) (λ x. x) (λ u v i p e. e) most_states (3 + heaviest) (λ u v w e. e.3) {u = q}
          (λ v i p. path_below p below) (record { goal = f; is_goal = refl; route = r }) in
          let (w', k', l', e) = route_leads (subst (λ (x : ℕ). Route ℕ (Piece M) q x k) t.is_goal (heavy_route t.route)) in
          (w', k', omega arith, l')

pub short_word : (m : Machine) (list : List ℕ) → well_formed m list ≡ true → (w : List ℕ) → InLanguage (fsbm_of m list) w
    → (w' : List ℕ) × (length w' ≤ word_bound) × InLanguage (fsbm_of m list) w'
short_word m list good w l =
    let r = rules m list good in
    let fit : m.states ≤ most_states = r.states_fit in
    let states : (p a q : ℕ) → (fsbm_of m list).δ p a q → (p < most_states) × (q < most_states) =
    λ p a q d. (omega (arith, r.from_below d.number d.listed, d.from), omega (arith, r.to_below d.number d.listed, d.to)) in
    let (w', k, short, leads) = short_leads (fsbm_of m list) states (λ q h. omega (arith, buffering_below m list r q h)) (λ q h. omega (arith, matching_below m list r q h))
    (omega (arith, l.first_initial.0)) (path_leads (run_path m list l.run)) in
    (w', short, record { first = l.first; last = l.last; first_initial = l.first_initial; last_final = l.last_final; run = (path_run m list (leads_path leads)).0 })
