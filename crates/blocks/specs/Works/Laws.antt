-- The laws of specs/Works.antt.
--
-- works_lowers        == numbers lowered along edges of the block
-- still_lowers        == rows past the last state stay
-- match_listed, listed_match == a candidate of From is a matching transition, and the other way round
-- so_start            == the row after its matching halves have moved alone
-- so_more             == the row after the transitions of one letter
-- ready_stride .. group_past == what the functions ask of the index: its ranges, and where the transitions of a letter end
-- moved_none, moved_letter == the ways through `moved`
-- row_leaves, row_done == which transitions a row goes through, and the row's end
-- storable_held, storable_free == the ways through `storable`
-- kind_buffering, kind_matching, ready_of == the sets of states by their marks, as crate images makes them
-- on_none, on_then    == no transition; one lot of transitions after the other
-- so_done             == the row after its last transition
use Rattle.std.specs.Prelude.{ℕ, zero, suc, ◌+◌, ◌*◌, ◌/◌, ◌%◌, ◌≤◌, ◌<◌, ◌≡◌, refl, ◌⊎◌, true, false, List, length, get_or}
use Rattle.std.proofs.Common.{sym, ap, ◌∙◌, subst, inl, inr, arith, eqb-true, eq-eqb}
use Rattle.std.proofs.Math.Decide.{dec_lt, ℕ_discrete}
use Rattle.std.proofs.lemmas.Bool.{eqb-false}
use Rattle.graphs.specs.Working.Laws.{working_lowers, working_looked}
use Rattle.stateset.specs.Set.{width, digit, In, has, SetIs}
use Rattle.stateset.specs.Set.Laws.{in?, has_in, empty_in}
use Rattle.fsbm.specs.Machine.{well_formed, mark_of, buffering, matching, transition_at}
use Rattle.fsbm.specs.Rules.{Rules, rules, buffering_below, matching_below}
use Rattle.fsbm.specs.Published.{Listed, fsbm_of}
use Rattle.fsbm.specs.declared.machine.Machine.{Machine}
use Rattle.images.specs.Graph.{KindsOf}
use Rattle.images.specs.declared.Kinds.{Kinds}
use Rattle.pieces.specs.Pairs.{unit, halves, Pair, both, PairMove, stores_none, matches_none, letter}
use Rattle.pieces.specs.Blocks.{cell, cost_of, Node, outside, inside, BlockEdge, begins, goes_on, block_of}
use Rattle.blocks.specs.Numbers.{HasMark, Steps, Lowers, Put, Spread}
use Rattle.blocks.specs.Numbers.Laws.{steps_none, steps_then}
use Rattle.blocks.specs.Gathered.{Adding, From, Stay}
use Rattle.blocks.specs.Gathered.Laws.{adding_as}
use Rattle.blocks.specs.Stretches.{Stretches}
use Rattle.blocks.specs.Stretches.Laws.{key_fits, bounded, bounded_next, stretch, row_stretch}
use Rattle.blocks.specs.Works.{Kind, Ready, Storable, Works, Waiting, Busy, Early, Looked, Still, RowSo, RowOn, RowDone, Moves, by_none, by_letter}

pub block_inside : (b : List ℕ) (u : Pair) → block_of b (inside u) ≡ cell b u.storing u.matching
unfolding block_of
block_inside b u = refl

pub block_outside : (b : List ℕ) → block_of b outside ≡ 0
unfolding block_of
block_outside b = refl

-- a candidate of a step is an edge
abbrev pub Edges : Machine → List ℕ → ℕ → ℕ → List ℕ → List ℕ → (ℕ → ℕ → ℕ → Type 0) → Type 0
Edges m list h x D b C = (s t v : ℕ) → C s t v → (y : Node) × (w : ℕ) × BlockEdge (fsbm_of m list) h (cost_of D) (In x) (inside (both s t)) y w × (v ≡ w + block_of b y)

module _ (m : Machine) (list : List ℕ) (top h x : ℕ) (D : List ℕ) {Waits Waits' : Node → Type 0} {C : ℕ → ℕ → ℕ → Type 0} {b d b' d' : List ℕ} where
  -- numbers lowered along edges; what is marked waits
  pub works_lowers : Lowers C b d b' d' → Edges m list h x D b C → ((u : Node) → (Waits' u → ⊥) → (Waits u → ⊥) × (Waiting d' u → ⊥)) → Works m list top h x D Waits b
      → Works m list top h x D Waits' b'
  works_lowers f edges waits so_far = working_lowers so_far (block_of b') lower origin quiet
    where
      same : (u : Pair) → cell b' u.storing u.matching ≡ cell b u.storing u.matching → block_of b' (inside u) ≡ block_of b (inside u)
      same u e = block_inside b' u ∙ e ∙ sym (block_inside b u)

      lower : (u : Node) → block_of b' u ≤ block_of b u
      lower outside = let z = block_outside b in let y = block_outside b' in omega arith
      lower (inside u) = let k = f.steps.down u.storing u.matching in let z = block_inside b u in let y = block_inside b' u in omega arith

      edge_at : (u : Pair) → (cell b' u.storing u.matching ≡ cell b u.storing u.matching) ⊎ C u.storing u.matching (cell b' u.storing u.matching)
          → (block_of b' (inside u) ≡ block_of b (inside u)) ⊎ ((y : Node) × (w : ℕ) × BlockEdge (fsbm_of m list) h (cost_of D) (In x) (inside u) y w × (block_of b' (inside u) ≡ w + block_of b y))
      edge_at u (inl e) = inl (same u e)
      edge_at u (inr c) = let (y, w, e, is) = edges u.storing u.matching (cell b' u.storing u.matching) c in inr (y, w, e, block_inside b' u ∙ is)

      origin : (u : Node) → (block_of b' u ≡ block_of b u) ⊎ ((y : Node) × (w : ℕ) × BlockEdge (fsbm_of m list) h (cost_of D) (In x) u y w × (block_of b' u ≡ w + block_of b y))
      origin outside = inl (block_outside b' ∙ sym (block_outside b))
      origin (inside u) = edge_at u (f.origin u.storing u.matching)

      changed : (u : Pair) → (Waiting d' (inside u) → ⊥) → (cell b' u.storing u.matching ≡ cell b u.storing u.matching) ⊎ HasMark d' u.storing u.matching
          → block_of b' (inside u) ≡ block_of b (inside u)
      changed u not-marked (inl e) = same u e
      changed u not-marked (inr k) = absurd (not-marked k)

      stays : (u : Node) → (Waiting d' u → ⊥) → block_of b' u ≡ block_of b u
      stays outside not-marked = block_outside b' ∙ sym (block_outside b)
      stays (inside u) not-marked = changed u not-marked (f.steps.changed u.storing u.matching)

      quiet : (u : Node) → (Waits' u → ⊥) → (Waits u → ⊥) × (block_of b' u ≡ block_of b u)
      quiet u still = let k = waits u still in (k.0, stays u k.1)

-- a row past the last state stays, where the candidates stand in other rows
pub still_lowers : (m : Machine) {C : ℕ → ℕ → ℕ → Type 0} {b d b' d' : List ℕ} → Lowers C b d b' d' → ((s t v : ℕ) → C s t v → s < m.states) → Still m b b'
still_lowers m {C} {b} {d} {b'} f below s t le = on (f.origin s t)
  where
    on : (cell b' s t ≡ cell b s t) ⊎ C s t (cell b' s t) → cell b' s t ≡ cell b s t
    on (inl e) = e
    on (inr c) = let z = below s t (cell b' s t) c in absurd (omega arith)

-- the marks grow, so whoever does not wait then did not wait before
busy_grows : {b d b' d' : List ℕ} (s set : ℕ) → Steps b d b' d' → (u : Node) → (Busy d' s set u → ⊥) → (Busy d s set u → ⊥) × (Waiting d' u → ⊥)
busy_grows s set f outside still = (λ z. z, λ z. z)
busy_grows {d = d} {d' = d'} s set f (inside u) still = (λ z. still (on z), λ z. still (inl z))
  where
    on : HasMark d u.storing u.matching ⊎ ((u.storing ≡ s) × In set u.matching) → HasMark d' u.storing u.matching ⊎ ((u.storing ≡ s) × In set u.matching)
    on (inl k) = inl (f.stays u.storing u.matching k)
    on (inr k) = inr k

module _ {m : Machine} {list index : List ℕ} {h : ℕ} (r : Ready m list index h) where
  sorts : Rules m list
  sorts = rules m list r.good

  below : (q : ℕ) → matching m.marks q ≡ true → q < m.states
  below q k = matching_below m list (rules m list r.good) q k

  -- A matching transition from a state of the set, seen from the row's numbers
  pub record Found (set x : ℕ) (b : List ℕ) (s w t' v : ℕ) : Type 0 where
    pub source : ℕ
    pub member : In set source
    pub leaves : matching m.marks source ≡ true
    pub move : Listed list m.transitions source x t'
    pub enters : matching m.marks t' ≡ true
    pub value : v ≡ cell b s source + w

  pub match_listed : {top x set w s t' v : ℕ} {b : List ℕ} → x ≤ m.letters → From list index top (m.letters + 1) x w h b s (λ q. In set q × In h q) t' v → Found set x b s w t' v
  match_listed {x = x} le c =
      let t = c.source in
      let k = c.far.reach.number in
      let from = (r.matches t).0 c.holds.1 in
      let (l, f, a) = (stretch m list sorts index r.starts t x k (below t from) le).0 (c.far.reach.from_on, c.far.reach.below) in
      record {
        source = t;
        member = c.holds.0;
        leaves = from;
        move = record { number = k; listed = l; from = f; letter = a; to = c.far.reach.enters };
        enters = (r.matches _).0 c.far.reach.allowed;
        value = c.far.reach.value;
      }

  pub listed_match : {x t t' : ℕ} (top set w s : ℕ) (b : List ℕ) → x ≤ m.letters → In set t → matching m.marks t ≡ true → Listed list m.transitions t x t' → matching m.marks t' ≡ true
      → cell b s t < top → From list index top (m.letters + 1) x w h b s (λ q. In set q × In h q) t' (cell b s t + w)
  listed_match {x} {t} {t'} top set w s b le member from e to known =
      let k = (stretch m list sorts index r.starts t x e.number (below t from) le).1 (e.listed, e.from, e.letter) in
      record {
        source = t;
        holds = (member, (r.matches t).1 from);
        far = record { known = known; reach = record { number = e.number; from_on = k.0; below = k.1; enters = e.to; allowed = (r.matches t').1 to; value = refl } };
      }

  module _ (top s set : ℕ) (here : s < m.states) where
    -- what is gathered is a candidate
    gathered : {C : ℕ → ℕ → Type 0} {p p' : List ℕ} {got t : ℕ} → Adding C p 0 p' got → In got t → C t (get_or p' t 0)
    gathered {t = t} f k = on (f.origin t k)
      where
        on : {A B : Type 0} → (In 0 t × A) ⊎ B → B
        on (inl z) = absurd (empty_in t z.0)
        on (inr z) = z

    -- The matching halves move alone
    pub so_start : {b d p p₁ b₁ d₁ : List ℕ} {got : ℕ} → Adding (From list index top (m.letters + 1) 0 1 h b s (λ q. In set q × In h q)) p 0 p₁ got → Lowers (Put s (In got) p₁) b d b₁ d₁
        → RowSo m list top s set (get_or index (s * (m.letters + 1) + 0) 0) b d b₁ d₁
    so_start {b} {d} {p} {p₁} {b₁} {d₁} {got} f g = record { steps = g.steps; still = still_lowers m g (λ s' t v c. omega (arith, c.row)); works = works; looked = looked }
      where
        edges : (h' x : ℕ) (D : List ℕ) → Edges m list h' x D b (Put s (In got) p₁)
        edges h' x D s' t' v c =
            let k = match_listed {set = set} (omega arith) (gathered f c.holds) in
            let e : inside (both s t') ≡ inside (both s' t') = ap (λ (z : ℕ). inside (both z t')) (sym c.row) in (
              inside (both s k.source),
              1,
              subst (λ (z : Node). BlockEdge (fsbm_of m list) h' (cost_of D) (In x) z (inside (both s k.source)) 1) e (goes_on (matches_none k.move k.leaves k.enters)),
              (let z = block_inside b (both s k.source) in omega (arith, c.value, k.value)),
            )

        works : (h' x : ℕ) (D : List ℕ) → Works m list top h' x D (Busy d s set) b → Works m list top h' x D (Busy d₁ s set) b₁
        works h' x D = works_lowers m list top h' x D g (edges h' x D) (busy_grows s set g.steps)

        looked : Looked m list top s set (get_or index (s * (m.letters + 1) + 0) 0) b₁ d₁
        looked u v w e is member quiet early l = on (g.steps.changed s u.matching)
          where
            by : {u v : Pair} {w : ℕ} (e : PairMove (fsbm_of m list) u v w) → u.storing ≡ s → In set u.matching → Early m list (get_or index (s * (m.letters + 1) + 0) 0) e
                → w + cell b s u.matching < top → cell b₁ v.storing v.matching ≤ w + cell b s u.matching
            by (stores_none e a c) is member early l =
                let k = (row_stretch m list sorts index r.starts s e.number here).1 (e.listed, e.from ∙ is) in
                absurd (omega (arith, k.0))
            by (letter e a c f' p q) is member early l =
                let k = (row_stretch m list sorts index r.starts s e.number here).1 (e.listed, e.from ∙ is) in
                absurd (omega (arith, k.0))
            by (matches_none {s = s'} {t = t} {t' = t'} e a c) is member early l =
                let k = f.settled t' (cell b s t + 1) (listed_match top set 1 s b (omega arith) member a e c (omega arith)) in
                let z = g.settled s t' (get_or p₁ t' 0) (record { row = refl; holds = k.0; value = refl }) in
                let y : cell b₁ s' t' ≡ cell b₁ s t' = ap (λ (i : ℕ). cell b₁ i t') is in
                omega (arith, k.1)

            on : (cell b₁ s u.matching ≡ cell b s u.matching) ⊎ HasMark d₁ s u.matching → cell b₁ v.storing v.matching ≤ w + cell b₁ s u.matching
            on (inr k) = absurd (quiet k)
            on (inl same) = let k = by e is member early (omega arith) in omega arith

    -- The transitions of one letter
    module _ {may : ℕ} (allowed : Storable m s may) where
      pub so_more : {x lo hi got : ℕ} {b₀ d₀ b d p p₁ b₁ d₁ : List ℕ} → lo < m.transitions → (transition_at list lo).from ≡ s → x ≡ (transition_at list lo).letter
          → hi ≡ get_or index (s * (m.letters + 1) + x + 1) 0
          → Adding (Moves list index top (m.letters + 1) x h b s set) p 0 p₁ got → Lowers (Spread list lo hi may got p₁) b d b₁ d₁
          → RowSo m list top s set lo b₀ d₀ b d → RowSo m list top s set hi b₀ d₀ b₁ d₁
      so_more {x} {lo} {hi} {got} {b₀} {d₀} {b} {d} {p} {p₁} {b₁} {d₁} lt from is end f g so =
          record {
            steps = steps_then so.steps g.steps;
            still = λ s' t le. still_lowers m g (λ s'' t' v c. to_below (stored c.number s'' c.from_on c.below c.enters)) s' t le ∙ so.still s' t le;
            works = λ h' y D k. works h' y D (so.works h' y D k);
            looked = looked;
          }
        where
          fits : x ≤ m.letters
          fits = let z = sorts.letter_below lo lt in omega arith

          first : get_or index (s * (m.letters + 1) + x) 0 ≤ lo
          first = ((stretch m list sorts index r.starts s x lo here fits).1 (lt, from, sym is)).0

          -- the transitions from lo up to hi leave s by x
          these : (k : ℕ) → lo ≤ k → k < hi → (k < m.transitions) × ((transition_at list k).from ≡ s) × ((transition_at list k).letter ≡ x)
          these k le l = (stretch m list sorts index r.starts s x k here fits).0 (let z = first in omega arith, omega arith)

          stored : (k s' : ℕ) → lo ≤ k → k < hi → get_or list (k * 3 + 2) 0 ≡ s' → Listed list m.transitions s x s'
          stored k s' le l enters = let t = these k le l in record { number = k; listed = t.0; from = t.1; letter = t.2; to = enters }

          edge : (h' y : ℕ) (D : List ℕ) {s' t v k : ℕ} → lo ≤ k → k < hi → get_or list (k * 3 + 2) 0 ≡ s' → In may s' → Moves list index top (m.letters + 1) x h b s set t v
              → (z : Node) × (w : ℕ) × BlockEdge (fsbm_of m list) h' (cost_of D) (In y) (inside (both s' t)) z w × (v ≡ w + block_of b z)
          edge h' y D {s'} {t} {v} {k} le l enters a (by_none z c) =
              let o = allowed.only s' a in (
                inside (both s t),
                1,
                goes_on (stores_none (subst (λ (i : ℕ). Listed list m.transitions s i s') z (stored k s' le l enters)) o.1 o.0),
                (let q = block_inside b (both s t) in omega (arith, c.value)),
              )
          edge h' y D {s'} {t} {v} {k} le l enters a (by_letter z c) = by_one x z refl
            where
              by_one : (i : ℕ) → 0 < i → i ≡ x → (z : Node) × (w : ℕ) × BlockEdge (fsbm_of m list) h' (cost_of D) (In y) (inside (both s' t)) z w × (v ≡ w + block_of b z)
              by_one zero n e = absurd (omega arith)
              by_one (suc i) n e =
                  let o = allowed.only s' a in
                  let j = match_listed {set = set} fits c in
                  let one = subst (λ (i : ℕ). Listed list m.transitions s i s') (sym e) (stored k s' le l enters) in
                  let two = subst (λ (i : ℕ). Listed list m.transitions j.source i t) (sym e) j.move in (
                    inside (both s j.source),
                    halves * (unit + 1),
                    goes_on (letter one o.1 o.0 two j.leaves j.enters),
                    (let q = block_inside b (both s j.source) in omega (arith, j.value)),
                  )

          edges : (h' y : ℕ) (D : List ℕ) → Edges m list h' y D b (Spread list lo hi may got p₁)
          edges h' y D s' t v c =
              let (z, w, e, value) = edge h' y D c.from_on c.below c.enters c.allowed (gathered f c.gathered) in
              (z, w, e, c.value ∙ value)

          works : (h' y : ℕ) (D : List ℕ) → Works m list top h' y D (Busy d s set) b → Works m list top h' y D (Busy d₁ s set) b₁
          works h' y D = works_lowers m list top h' y D g (edges h' y D) (busy_grows s set g.steps)

          to_below : {a s' : ℕ} → Listed list m.transitions s a s' → s' < m.states
          to_below e = let z = sorts.to_below e.number e.listed in omega (arith, e.to)

          to_there : {a s' : ℕ} → (e : Listed list m.transitions s a s') → s' < 64
          to_there e = let z = sorts.to_below e.number e.listed in let y = sorts.states_fit in omega (arith, e.to)

          spreads : {s' t v : ℕ} {a : ℕ} (e : Listed list m.transitions s a s') → lo ≤ e.number → e.number < hi → ((matching m.marks s ≡ true) × (matching m.marks s' ≡ true) → ⊥)
              → (buffering m.marks s' ≡ true → ⊥) → Moves list index top (m.letters + 1) x h b s set t v → cell b₁ s' t ≤ v
          spreads {s'} {t} {v} e le l apart free c =
              let k = f.settled t v c in
              let z = g.settled s' t (get_or p₁ t 0)
              (record { number = e.number; from_on = le; below = l; enters = e.to; allowed = allowed.all s' (to_there e) free apart; gathered = k.0; value = refl }) in
              omega (arith, k.1)

          new : {u v : Pair} {w : ℕ} (e : PairMove (fsbm_of m list) u v w) → u.storing ≡ s → In set u.matching → Early m list hi e → (Early m list lo e → ⊥)
              → w + cell b s u.matching < top → cell b₁ v.storing v.matching ≤ w + cell b s u.matching
          new (stores_none {s = q} {s' = s'} {t = t} e a c) z member early late l =
              let le : lo ≤ e.number = (let n : e.number < lo → ⊥ = late in omega arith) in
              let x_is : x ≡ 0 = sym (these e.number le early).2 ∙ e.letter in
              let a' = subst (λ (i : ℕ). (matching m.marks i ≡ true) × (matching m.marks s' ≡ true) → ⊥) z a in
              let k = spreads {t = t} {v = cell b s t + 1} (record { number = e.number; listed = e.listed; from = e.from ∙ z; letter = e.letter; to = e.to }) le early a' c
              (by_none x_is (record { holds = member; known = omega arith; value = refl })) in
              omega arith
          new (matches_none e a c) z member early late l = absurd (late tt)
          new (letter {s = q} {s' = s'} {t = t} {t' = t'} {a = i} e a c e₂ m₁ m₂) z member early late l =
              let le : lo ≤ e.number = (let n : e.number < lo → ⊥ = late in omega arith) in
              let x_is : x ≡ suc i = sym (these e.number le early).2 ∙ e.letter in
              let a' = subst (λ (i : ℕ). (matching m.marks i ≡ true) × (matching m.marks s' ≡ true) → ⊥) z a in
              let e₃ = subst (λ (j : ℕ). Listed list m.transitions t j t') (sym x_is) e₂ in
              let k = spreads {t = t'} {v = cell b s t + halves * (unit + 1)} (record { number = e.number; listed = e.listed; from = e.from ∙ z; letter = e.letter; to = e.to }) le early a' c
              (by_letter (omega arith) (listed_match top set (halves * (unit + 1)) s b fits member m₁ e₃ m₂ (omega arith))) in
              omega arith

          early? : {u v : Pair} {w : ℕ} (e : PairMove (fsbm_of m list) u v w) → Dec (Early m list lo e)
          early? (stores_none e a c) = dec_lt e.number lo
          early? (matches_none e a c) = yes tt
          early? (letter e a c e₂ m₁ m₂) = dec_lt e.number lo

          looked : Looked m list top s set hi b₁ d₁
          looked u v w e z member quiet early l = on (g.steps.changed s u.matching) (early? e)
            where
              on : (cell b₁ s u.matching ≡ cell b s u.matching) ⊎ HasMark d₁ s u.matching → Dec (Early m list lo e) → cell b₁ v.storing v.matching ≤ w + cell b₁ s u.matching
              on (inr k) n = absurd (quiet k)
              on (inl same) (yes n) =
                  let k = so.looked u v w e z member (λ j. quiet (g.steps.stays s u.matching j)) n (omega arith) in
                  let j = g.steps.down v.storing v.matching in
                  omega arith
              on (inl same) (no n) = let k = new e z member early n (omega arith) in omega arith

    -- The row's end
    pub so_done : {k : ℕ} {b d b' d' : List ℕ} → get_or index (s * (m.letters + 1) + (m.letters + 1)) 0 ≤ k → RowSo m list top s set k b d b' d' → RowDone m list top s set b d b' d'
    so_done {k} {b} {d} {b'} {d'} le so = record { steps = so.steps; still = so.still; works = λ h' x D so_far. working_looked (so.works h' x D so_far) (λ u. quiet h' x D u) }
      where
        early : {u v : Pair} {w : ℕ} (e : PairMove (fsbm_of m list) u v w) → u.storing ≡ s → Early m list k e
        early (stores_none e a c) z = let j = (row_stretch m list sorts index r.starts s e.number here).1 (e.listed, e.from ∙ z) in omega (arith, j.1)
        early (matches_none e a c) z = tt
        early (letter e a c e₂ m₁ m₂) z = let j = (row_stretch m list sorts index r.starts s e.number here).1 (e.listed, e.from ∙ z) in omega (arith, j.1)

        edge : (h' x : ℕ) (D : List ℕ) (u : Pair) → u.storing ≡ s → In set u.matching → (HasMark d' s u.matching → ⊥) → {y z : Node} (w : ℕ)
            → BlockEdge (fsbm_of m list) h' (cost_of D) (In x) y z w → z ≡ inside u → w + block_of b' (inside u) < top → block_of b' y ≤ w + block_of b' (inside u)
        edge h' x D u is member not-marked w (begins i j) e l = absurd (let z : ◌≡◌ {A = ℕ} 0 1 = cc in omega arith)
        edge h' x D u is member not-marked w (goes_on {u = p} {v = v} n) e l =
            let q : p ≡ u = cc in
            let s_is : p.storing ≡ s = ap (λ (i : Pair). i.storing) q ∙ is in
            let t_is : p.matching ≡ u.matching = ap (λ (i : Pair). i.matching) q in
            let c₁ : cell b' s p.matching ≡ cell b' s u.matching = ap (cell b' s) t_is in
            let c₂ : cell b' u.storing u.matching ≡ cell b' s u.matching = ap (λ (i : ℕ). cell b' i u.matching) is in
            let y = block_inside b' u in
            let z = block_inside b' v in
            let o = so.looked p v w n s_is (subst (λ (i : ℕ). In set i) (sym t_is) member) (λ j. not-marked (subst (λ (i : ℕ). HasMark d' s i) t_is j)) (early n s_is) (omega arith) in
            omega arith

        quiet : (h' x : ℕ) (D : List ℕ) (z : Node) → (Waiting d' z → ⊥)
            → (Busy d' s set z → ⊥) ⊎ ((y : Node) (w : ℕ) → BlockEdge (fsbm_of m list) h' (cost_of D) (In x) y z w → w + block_of b' z < top → block_of b' y ≤ w + block_of b' z)
        quiet h' x D outside still = inl (λ i. i)
        quiet h' x D (inside u) still = on (ℕ_discrete u.storing s) (in? set u.matching)
          where
            on : Dec (u.storing ≡ s) → Dec (In set u.matching)
                → (Busy d' s set (inside u) → ⊥) ⊎ ((y : Node) (w : ℕ) → BlockEdge (fsbm_of m list) h' (cost_of D) (In x) y (inside u) w → w + block_of b' (inside u) < top → block_of b' y ≤ w + block_of b' (inside u))
            on (yes e) (yes k) = inr (λ y w n l. edge h' x D u e k (λ j. still (subst (λ (i : ℕ). HasMark d' i u.matching) (sym e) j)) w n refl l)
            on (no f) k = inl (busy_not (λ i. f i.0))
              where
                busy_not : ((u.storing ≡ s) × In set u.matching → ⊥) → Busy d' s set (inside u) → ⊥
                busy_not n (inl i) = still i
                busy_not n (inr i) = n i
            on (yes e) (no f) = inl (busy_not (λ i. f i.1))
              where
                busy_not : ((u.storing ≡ s) × In set u.matching → ⊥) → Busy d' s set (inside u) → ⊥
                busy_not n (inl i) = still i
                busy_not n (inr i) = n i

-- Lots of transitions

pub on_none : (m : Machine) (list : List ℕ) (top s set k : ℕ) (b d : List ℕ) → RowOn m list top s set k b d k b d
on_none m list top s set k b d = record { steps = steps_none b d; on = λ b₀ d₀ so. so }

pub on_then : {m : Machine} {list : List ℕ} {top s set k k₁ k₂ : ℕ} {b d b₁ d₁ b₂ d₂ : List ℕ} → RowOn m list top s set k b d k₁ b₁ d₁ → RowOn m list top s set k₁ b₁ d₁ k₂ b₂ d₂ → RowOn m list top s set k b d k₂ b₂ d₂
on_then f g = record { steps = steps_then f.steps g.steps; on = λ b₀ d₀ so. g.on b₀ d₀ (f.on b₀ d₀ so) }

-- What the functions ask of the index

module _ {m : Machine} {list index : List ℕ} {h : ℕ} (r : Ready m list index h) where
  pub ready_stride : m.letters + 1 ≤ 251
  ready_stride = let z = (sorts r).letters_fit in omega arith

  pub ready_next : (q x : ℕ) → q < m.states → x < m.letters + 1 → get_or index (q * (m.letters + 1) + x + 1) 0 * 3 ≤ length list
  ready_next q x here le = let z = bounded_next m list (sorts r) index r.starts q x here (omega arith) in let k = (sorts r).list_fits in omega arith

  pub ready_end : (q : ℕ) → q < m.states → get_or index (q * (m.letters + 1) + (m.letters + 1)) 0 * 3 ≤ length list
  ready_end q here = let z = bounded m list (sorts r) index r.starts q (m.letters + 1) here (omega arith) in let k = (sorts r).list_fits in omega arith

  -- the transitions from matching states by one letter
  pub ready_from : (set x : ℕ) → x < m.letters + 1 → (t : ℕ) → In set t → In h t → get_or index (t * (m.letters + 1) + x + 1) 0 * 3 ≤ length list
  ready_from set x le t member held = ready_next t x (below r t ((r.matches t).0 held)) le

  pub ready_states : m.states ≤ 64
  ready_states = (sorts r).states_fit

  pub ready_state : (s : ℕ) → s < m.states → s < 64
  ready_state s here = let z = (sorts r).states_fit in omega arith

  pub ready_room : (k : ℕ) → k < m.transitions → k * 3 + 3 ≤ length list
  ready_room k lt = let z = (sorts r).list_fits in omega arith

  pub ready_letter : (k : ℕ) → k < m.transitions → (transition_at list k).letter < m.letters + 1
  ready_letter k lt = let z = (sorts r).letter_below k lt in omega arith

  module _ (s : ℕ) (here : s < m.states) where
    pub row_fits : (s * (m.letters + 1) ≤ 15813) × (s * (m.letters + 1) + (m.letters + 1) < 16065)
    row_fits = let z = key_fits s (m.letters + 1) m.letters (ready_state s here) ready_stride (omega arith) in (z.0, omega (arith, z.1))

    pub group_fits : (k : ℕ) → k < m.transitions → s * (m.letters + 1) + (transition_at list k).letter < 16064
    group_fits k lt = (key_fits s (m.letters + 1) (transition_at list k).letter (ready_state s here) ready_stride (ready_letter k lt)).1

    pub group_past : (k : ℕ) → k < m.transitions → (transition_at list k).from ≡ s → k < get_or index (s * (m.letters + 1) + (transition_at list k).letter + 1) 0
    group_past k lt from = ((stretch m list (sorts r) index r.starts s (transition_at list k).letter k here ((sorts r).letter_below k lt)).1 (lt, from, refl)).1

    pub row_leaves : (lo end : ℕ) → lo ≡ get_or index (s * (m.letters + 1)) 0 → end ≡ get_or index (s * (m.letters + 1) + (m.letters + 1)) 0
        → (k : ℕ) → lo ≤ k → k < end → (k < m.transitions) × ((transition_at list k).from ≡ s)
    row_leaves lo end e f k le lt =
        let z : get_or index (s * (m.letters + 1)) 0 ≡ get_or index (s * (m.letters + 1) + 0) 0 = ap (λ (i : ℕ). get_or index i 0) (let y : s * (m.letters + 1) ≡ s * (m.letters + 1) + 0 = omega arith in y) in
        (row_stretch m list (sorts r) index r.starts s k here).0 (omega arith, omega arith)

    pub row_done : {top set lo end k : ℕ} {b d b₁ d₁ b₂ d₂ : List ℕ} → lo ≡ get_or index (s * (m.letters + 1)) 0 → end ≡ get_or index (s * (m.letters + 1) + (m.letters + 1)) 0 → end ≤ k
        → RowSo m list top s set (get_or index (s * (m.letters + 1) + 0) 0) b d b₁ d₁ → RowOn m list top s set lo b₁ d₁ k b₂ d₂ → RowDone m list top s set b d b₂ d₂
    row_done {top} {set} {lo} {end} {k} {b} {d} {b₁} {d₁} e f le so g =
        let z : get_or index (s * (m.letters + 1) + 0) 0 ≡ lo = ap (λ (i : ℕ). get_or index i 0) (let y : s * (m.letters + 1) + 0 ≡ s * (m.letters + 1) = omega arith in y) ∙ sym e in
        so_done r top s set here (omega arith) (g.on b d (subst (λ (i : ℕ). RowSo m list top s set i b d b₁ d₁) z so))

module _ {list index : List ℕ} {top stride x h : ℕ} {b : List ℕ} {s set : ℕ} where
  pub moved_none : {p p' : List ℕ} {got : ℕ} → x ≡ 0 → Adding (Stay top b s (In set)) p 0 p' got → Adding (Moves list index top stride x h b s set) p 0 p' got
  moved_none e f = adding_as (λ t v c. by_none e c) back f
    where
      back : (t v : ℕ) → Moves list index top stride x h b s set t v → Stay top b s (In set) t v
      back t v (by_none z c) = c
      back t v (by_letter z c) = absurd (omega arith)

  pub moved_letter : {p p' : List ℕ} {got : ℕ} → (x ≡ 0 → ⊥) → Adding (From list index top stride x (halves * (unit + 1)) h b s (λ q. In set q × In h q)) p 0 p' got
      → Adding (Moves list index top stride x h b s set) p 0 p' got
  moved_letter e f = adding_as (λ t v c. by_letter (omega arith) c) back f
    where
      back : (t v : ℕ) → Moves list index top stride x h b s set t v → From list index top stride x (halves * (unit + 1)) h b s (λ q. In set q × In h q) t v
      back t v (by_none z c) = absurd (e z)
      back t v (by_letter z c) = c

-- The states that a storing move may enter

module _ (m : Machine) (g h s : ℕ) (buffers : Kind (buffering m.marks) g) (matches : Kind (matching m.marks) h) {all u free v : ℕ}
    (whole : SetIs all u (λ q. (q < 64) × (q < width))) (is : SetIs free v (λ q. In all q × (In g q → ⊥))) where
  pub storable_held : {held w : ℕ} → has h s ≡ true → SetIs held w (λ q. In free q × (In h q → ⊥)) → Storable m s held
  storable_held {held} e k =
      record {
        only = λ q j. let z = (k.members q).0 j in (λ n. ((is.members q).0 z.0).1 ((buffers q).1 n), λ n. z.1 ((matches q).1 n.1));
        all = λ q l f n.
            (k.members q).1
            ((is.members q).1 ((whole.members q).1 (l, l), λ j. f ((buffers q).0 j)), λ j. n ((matches s).0 ((has_in h s).0 e), (matches q).0 j));
      }

  pub storable_free : has h s ≡ false → Storable m s free
  storable_free e =
      record {
        only = λ q j. (λ n. ((is.members q).0 j).1 ((buffers q).1 n), λ n. eqb-false (digit h s) 1 e ((matches s).1 n.0));
        all = λ q l f n. (is.members q).1 ((whole.members q).1 (l, l), λ j. f ((buffers q).0 j));
      }

-- The sets of states by their marks

module _ (m : Machine) (list : List ℕ) (good : well_formed m list ≡ true) (k : Kinds) (is : KindsOf m.marks m.states k) where
  pub kind_buffering : Kind (buffering m.marks) k.buffering
  kind_buffering q = (
    λ i. eq-eqb (mark_of m.marks q / 4 % 2) 1 ((is.buffering.members q).0 i).1,
    λ e. (is.buffering.members q).1 (buffering_below m list (rules m list good) q e, eqb-true (mark_of m.marks q / 4 % 2) 1 e),
  )

  pub kind_matching : Kind (matching m.marks) k.matching
  kind_matching q = (
    λ i. eq-eqb (mark_of m.marks q / 8 % 2) 1 ((is.matching.members q).0 i).1,
    λ e. (is.matching.members q).1 (matching_below m list (rules m list good) q e, eqb-true (mark_of m.marks q / 8 % 2) 1 e),
  )

  pub ready_of : (index : List ℕ) → Stretches m list index → Ready m list index k.matching
  ready_of index starts = record { good = good; starts = starts; matches = kind_matching }
