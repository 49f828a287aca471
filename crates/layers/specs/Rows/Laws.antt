-- The laws of specs/Rows.antt.
--
-- weight_set        == the sum after one number is replaced
-- lowering_none, lowering_one, lowering_as == no candidate, those of one state, candidates by another name
-- lowering_stays, lowering_falls == two lots of candidates one after the other
-- Sweeping, sweep_start, sweep_turn, sweep_end == a loop over the states of a set
-- through_bounded, beside_marked == at its end no candidate would lower the row
-- through_real, beside_real == the numbers stay those of ways to acceptance
-- may_leads, leads_may == which transitions a mode may take, by the marks and by the sets of states
-- target_below      == where the sets of the table lead
-- visit_lowers      == the candidates of one state, from its set in the table
-- closed_here, closed_more, closed_none == passes over the row itself: the last one, one before others, and where no state has a transition
use Prim.Native.Nat.{ℕ, zero, suc, ◌+◌, ◌^◌, ◌≤◌, ◌<◌}
use Rattle.std.specs.Prelude.{◌≡◌, refl, ◌⊎◌, ◌↔◌, Bool, ◌||◌, List, [], ◌∷◌, length, get_or}
use Rattle.std.proofs.Common.{sym, ◌∙◌, subst, get_or-set_other}
use Rattle.std.proofs.Math.Path.{ap}
use Rattle.std.proofs.Math.Logic.{inl, inr}
use Rattle.std.proofs.Math.Bool.{true, false}
use Rattle.std.proofs.lemmas.Bool.{false≢true}
use native.Mathlib.Omega.{arith}
use Rattle.std.proofs.Math.Decide.{ℕ_discrete, dec_lt}
use Rattle.std.proofs.Math.ListN.{set, length-set, get_or-eq_default}
use Rattle.std.proofs.Math.Seq.{get_or-set_same}
use borrow.Author.Tests.{ltb-true, ltb-false}
use Rattle.basics.specs.Search.Laws.{true_or_false, or_true_right}
use Rattle.stateset.specs.Set.{width, In, Taken}
use Rattle.stateset.specs.Set.Laws.{empty_in}
use Rattle.fsbm.specs.Machine.{transition_at}
use Rattle.fsbm.specs.Published.{Listed, fsbm_of, Configuration, config, Yields}
use Rattle.fsbm.specs.declared.machine.Machine.{Machine}
use Rattle.fsbm.specs.Rules.{rules}
use Rattle.fsbm.specs.declared.config.Mode.{Mode}
use Rattle.fsbm.specs.declared.config.Mode.TheVariants.{Normal, Buffering, Emptying}
use Rattle.images.specs.Graph.{set_of}
use Rattle.targets.specs.Prepared.{Row}
use Rattle.images.specs.Graph.{May}
use Rattle.layers.specs.Costs.{none, Near, Go, at, Leads, Bounded, ChangeBound, RowReal}
use Rattle.layers.specs.Costs.Laws.{silent_yields, go_step, normal_leads, buffer_leads, empty_leads, normal_apart, buffer_apart, empty_apart, the_listed}
use Rattle.layers.specs.Rows.{Given, weight, lowered, Lowered, Lowering, Through, Beside, Only, Within, Swept, Reads, Closed}

weight_set : (row : List ℕ) (a v : ℕ) → a < length row → weight (set row a v) + at row a ≡ weight row + v
unfolding weight
weight_set [] a v l = absurd (omega arith)
weight_set (x ∷ row) zero v l = omega arith
weight_set (x ∷ row) (suc a) v l = let h = weight_set row a v (omega arith) in omega arith

-- a number that is not 0 stands in the row
inside : (row : List ℕ) (a : ℕ) → 0 < at row a → a < length row
inside row a h = on (dec_lt a (length row))
  where
    on : Dec (a < length row) → a < length row
    on (yes l) = l
    on (no l) = let z = get_or-eq_default row 0 {n = a} (omega arith) in absurd (omega arith)

module _ {C : ℕ → ℕ → Type 0} where
  pub lowering_none : (row : List ℕ) → ((q v : ℕ) → C q v → ⊥) → Lowering C row row false
  lowering_none row never =
      record {
        size = refl;
        origin = λ q. inl refl;
        settled = λ q v c. absurd (never q v c);
        lower = λ q. omega arith;
        fewer = omega arith;
        same = λ e. refl;
        less = λ e. absurd (false≢true e);
      }

  -- v + 1 is the least candidate of a, and no other state has one
  pub lowering_one : (row row' : List ℕ) (a v : ℕ) (r : Bool) → (v < none → C a (suc v)) → ((q w : ℕ) → C q w → (q ≡ a) × (suc v ≤ w)) → Lowered row a v row' r
      → Lowering C row row' r
  unfolding lowered
  lowering_one row row' a v false is only h =
      let e : row' ≡ row = h.is in
      let ge = ltb-false (suc v) (at row a) (sym h.told) in
      rw e
      (record {
        size = refl;
        origin = λ q. inl refl;
        settled = λ q w c. at_one q w c ge;
        lower = λ q. omega arith;
        fewer = omega arith;
        same = λ z. refl;
        less = λ z. absurd (false≢true z);
      })
    where
      at_one : (q w : ℕ) → C q w → at row a ≤ suc v → at row q ≤ w
      at_one q w c ge =
          let (e, f) = only q w c in
          let g : at row q ≡ at row a = ap (at row) e in
          omega arith
  lowering_one row row' a v true is only h =
      let e : row' ≡ set row a (suc v) = h.is in
      let lt = ltb-true (suc v) (at row a) (sym h.told) in
      let l = inside row a (omega arith) in
      let w = weight_set row a (suc v) l in
      let here = get_or-set_same row a (suc v) 0 l in
      rw e
      (record {
        size = length-set row a (suc v);
        origin = λ q. from here q (ℕ_discrete q a);
        settled = λ q w c. at_one here q w c;
        lower = λ q. down here q (ℕ_discrete q a) lt;
        fewer = omega arith;
        same = λ z. absurd (false≢true (sym z));
        less = λ z. omega arith;
      })
    where
      from : at (set row a (suc v)) a ≡ suc v → (q : ℕ) → Dec (q ≡ a) → (at (set row a (suc v)) q ≡ at row q) ⊎ C q (at (set row a (suc v)) q)
      from here q (yes e) = inr (rw (e, here) (is (omega (arith, ltb-true (suc v) (at row a) (sym h.told), h.small))))
      from here q (no n) = inl (get_or-set_other row a q (suc v) 0 n)

      at_one : at (set row a (suc v)) a ≡ suc v → (q w : ℕ) → C q w → at (set row a (suc v)) q ≤ w
      at_one here q w c =
          let (e, f) = only q w c in
          let g : at (set row a (suc v)) q ≡ at (set row a (suc v)) a = ap (at (set row a (suc v))) e in
          omega arith

      down : at (set row a (suc v)) a ≡ suc v → (q : ℕ) → Dec (q ≡ a) → suc v < at row a → at (set row a (suc v)) q ≤ at row q
      down here q (yes e) lt = let g : at (set row a (suc v)) q ≡ at (set row a (suc v)) a = ap (at (set row a (suc v))) e in let f : at row q ≡ at row a = ap (at row) e in omega arith
      down here q (no n) lt = let h = get_or-set_other row a q (suc v) 0 n in omega arith

module _ {C₁ C₂ C : ℕ → ℕ → Type 0} (left : (q v : ℕ) → C₁ q v → C q v) (right : (q v : ℕ) → C₂ q v → C q v) (either : (q v : ℕ) → C q v → C₁ q v ⊎ C₂ q v) where
  then_origin : {row row₁ row₂ : List ℕ} {r₁ r₂ : Bool} → Lowering C₁ row row₁ r₁ → Lowering C₂ row₁ row₂ r₂ → (q : ℕ) → (at row₂ q ≡ at row q) ⊎ C q (at row₂ q)
  then_origin {row} {row₁} {row₂} f g q = two (f.origin q) (g.origin q)
    where
      two : (at row₁ q ≡ at row q) ⊎ C₁ q (at row₁ q) → (at row₂ q ≡ at row₁ q) ⊎ C₂ q (at row₂ q) → (at row₂ q ≡ at row q) ⊎ C q (at row₂ q)
      two (inl d) (inl e) = inl (e ∙ d)
      two (inr d) (inl e) = inr (left q (at row₂ q) (subst (λ (v : ℕ). C₁ q v) (sym e) d))
      two a (inr e) = inr (right q (at row₂ q) e)

  then_settled : {row row₁ row₂ : List ℕ} {r₁ r₂ : Bool} → Lowering C₁ row row₁ r₁ → Lowering C₂ row₁ row₂ r₂ → (q v : ℕ) → C q v → at row₂ q ≤ v
  then_settled {row} {row₁} {row₂} f g q v c = one (either q v c)
    where
      one : C₁ q v ⊎ C₂ q v → at row₂ q ≤ v
      one (inl d) = let a = f.settled q v d in let b = g.lower q in omega arith
      one (inr d) = g.settled q v d

  pub lowering_stays : {row row₁ row₂ : List ℕ} {r : Bool} → Lowering C₁ row row₁ r → Lowering C₂ row₁ row₂ false → Lowering C row row₂ r
  lowering_stays {row} {row₁} {row₂} f g =
      record {
        size = g.size ∙ f.size;
        origin = then_origin f g;
        settled = then_settled f g;
        lower = λ q. let a = f.lower q in let b = g.lower q in omega arith;
        fewer = omega (arith, f.fewer, g.fewer);
        same = λ z. g.same refl ∙ f.same z;
        less = λ z. omega (arith, f.less z, g.fewer);
      }

  pub lowering_falls : {row row₁ row₂ : List ℕ} {r : Bool} → Lowering C₁ row row₁ r → Lowering C₂ row₁ row₂ true → Lowering C row row₂ true
  lowering_falls {row} {row₁} {row₂} f g =
      record {
        size = g.size ∙ f.size;
        origin = then_origin f g;
        settled = then_settled f g;
        lower = λ q. let a = f.lower q in let b = g.lower q in omega arith;
        fewer = omega (arith, f.fewer, g.fewer);
        same = λ z. absurd (false≢true (sym z));
        less = λ z. omega (arith, f.fewer, g.less refl);
      }

-- The same candidates by another name

pub lowering_as : {C D : ℕ → ℕ → Type 0} {row row' : List ℕ} {r : Bool} → ((q v : ℕ) → C q v → D q v) → ((q v : ℕ) → D q v → C q v) → Lowering C row row' r → Lowering D row row' r
lowering_as {C} {D} {row} {row'} to from f =
    record { size = f.size; origin = λ q. at_one q (f.origin q); settled = λ q v d. f.settled q v (from q v d); lower = f.lower; fewer = f.fewer; same = f.same; less = f.less }
  where
    at_one : (q : ℕ) → (at row' q ≡ at row q) ⊎ C q (at row' q) → (at row' q ≡ at row q) ⊎ D q (at row' q)
    at_one q (inl e) = inl e
    at_one q (inr c) = inr (to q (at row' q) c)

-- A loop over the states of a set: the rest is still to do

pub record Sweeping (C : ℕ → ℕ → Type 0) (set rest : ℕ) (row₀ row : List ℕ) (fell : Bool) : Type 0 where
  pub fits : rest < 2 ^ width
  pub inside : (q : ℕ) → In rest q → In set q
  pub so_far : Lowering (Swept C set rest) row₀ row fell

module _ {C : ℕ → ℕ → Type 0} {set : ℕ} where
  pub sweep_start : (row : List ℕ) → set < 2 ^ width → Sweeping C set set row row false
  sweep_start row fits = record { fits = fits; inside = λ q h. h; so_far = lowering_none row (λ q v c. c.done c.inside) }

  pub sweep_end : {rest : ℕ} {row₀ row : List ℕ} {fell : Bool} → rest ≡ 0 → Sweeping C set rest row₀ row fell → Lowering (Within C set) row₀ row fell
  sweep_end e s =
      lowering_as (λ q v c. record { inside = c.inside; is = c.is })
      (λ q v c. record { inside = c.inside; done = λ h. empty_in q (subst (λ (n : ℕ). In n q) e h); is = c.is }) s.so_far

  module _ {rest a rest' : ℕ} {row₀ row : List ℕ} {fell : Bool} (s : Sweeping C set rest row₀ row fell) (here : In rest a) (fits : rest' < 2 ^ width)
      (others : (p : ℕ) → In rest' p ↔ (In rest p × (p ≡ a → ⊥))) where
    left : (q v : ℕ) → Swept C set rest q v → Swept C set rest' q v
    left q v c = record { inside = c.inside; done = λ h. c.done ((others q).0 h).0; is = c.is }

    right : (q v : ℕ) → Only C a q v → Swept C set rest' q v
    right q v c = record { inside = subst (In set) (sym c.here) (s.inside a here); done = λ h. ((others q).0 h).1 c.here; is = c.is }

    either : (q v : ℕ) → Swept C set rest' q v → Swept C set rest q v ⊎ Only C a q v
    either q v c = on (ℕ_discrete q a)
      where
        on : Dec (q ≡ a) → Swept C set rest q v ⊎ Only C a q v
        on (yes e) = inr (record { here = e; is = c.is })
        on (no n) = inl (record { inside = c.inside; done = λ h. c.done ((others q).1 (h, n)); is = c.is })

    pub sweep_falls : {row' : List ℕ} {b : Bool} → Lowering (Only C a) row row' b → b ≡ true → {r : Bool} → r ≡ true → Sweeping C set rest' row₀ row' r
    sweep_falls {row'} g t e =
        rw e
        (record {
          fits = fits;
          inside = λ q h. s.inside q ((others q).0 h).0;
          so_far = lowering_falls left right either s.so_far (subst (λ (z : Bool). Lowering (Only C a) row row' z) t g);
        })

    pub sweep_stays : {row' : List ℕ} {b : Bool} → Lowering (Only C a) row row' b → b ≡ false → {r : Bool} → r ≡ fell → Sweeping C set rest' row₀ row' r
    sweep_stays {row'} g f e =
        rw e
        (record {
          fits = fits;
          inside = λ q h. s.inside q ((others q).0 h).0;
          so_far = lowering_stays left right either s.so_far (subst (λ (z : Bool). Lowering (Only C a) row row' z) f g);
        })

  -- a turn, in which any number may have fallen
  pub sweep_turn : {rest a rest' : ℕ} {row₀ row row' : List ℕ} {fell b : Bool} → Sweeping C set rest row₀ row fell → Taken rest a rest' → Lowering (Only C a) row row' b → Sweeping C set rest' row₀ row' (fell || b)
  sweep_turn {rest} {a} {rest'} {row₀} {row} {row'} {fell} {b} s t g = on (true_or_false b)
    where
      or_false_none : (c : Bool) → (c || false) ≡ c
      or_false_none true = refl
      or_false_none false = refl

      on : (b ≡ true) ⊎ (b ≡ false) → Sweeping C set rest' row₀ row' (fell || b)
      on (inl e) = sweep_falls s t.member t.rest.fits t.rest.members g e (or_true_right fell b e)
      on (inr e) = sweep_stays s t.member t.rest.fits t.rest.members g e (rw e (or_false_none fell))

-- Along transitions

module _ {m : Machine} {list : List ℕ} {t : Mode} {x : ℕ} {next : List ℕ} {set : ℕ} where
  pub through_bounded : {row row' : List ℕ} {r : Bool} → Lowering (Within (Through m list t x next) set) row row' r → Bounded m list (In set) t x row' next
  through_bounded f k l h = f.settled (transition_at list k).from (suc (at next (transition_at list k).to)) (record { inside = h; is = record { number = k; leads = l; from = refl; value = refl } })

  -- where the transitions are moves from one row's configurations to the other's
  pub through_real : {N : ℕ → ℕ} {row row' : List ℕ} {r : Bool} (F G : ℕ → Configuration)
      → ((k : ℕ) → Leads m list t x k → ((transition_at list k).to < m.states) × Yields (fsbm_of m list) (F (transition_at list k).from) (G (transition_at list k).to))
      → ((q : ℕ) → In set q → (F q).mode ≡ Normal → Near N (F q).input (F q).state)
      → ((q : ℕ) → q < m.states → at next q < none → Go m list N (G q) (at next q))
      → ((q : ℕ) → q < m.states → at row q < none → Go m list N (F q) (at row q))
      → Lowering (Within (Through m list t x next) set) row row' r
      → (q : ℕ) → q < m.states → at row' q < none → Go m list N (F q) (at row' q)
  through_real {N} {row = row} {row' = row'} F G moves kept real-next real f q lt l = on (f.origin q)
    where
      on : (at row' q ≡ at row q) ⊎ Within (Through m list t x next) set q (at row' q) → Go m list N (F q) (at row' q)
      on (inl e) = rw e (real q lt (omega arith))
      on (inr c) =
          let k = c.is.number in
          let (to_there, y) = moves k c.is.leads in
          let e = c.is.value in
          let z = c.is.from in
          let y' : Yields (fsbm_of m list) (F q) (G (transition_at list k).to) = subst (λ (p : ℕ). Yields (fsbm_of m list) (F p) (G (transition_at list k).to)) z y in
          rw e (go_step m list y' (kept q c.inside) (real-next (transition_at list k).to to_there (omega arith)))

  -- those that read a letter
  pub reads_through : {row row' : List ℕ} {r : Bool} → 0 < x → Lowering (Within (Reads m list t x next) set) row row' r → Lowering (Within (Through m list t x next) set) row row' r
  reads_through pos f = lowering_as (λ q v c. record { inside = c.inside; is = c.is.through }) (λ q v c. record { inside = c.inside; is = record { some = pos; through = c.is } }) f

  pub through_reads : {row row' : List ℕ} {r : Bool} → 0 < x → Lowering (Within (Through m list t x next) set) row row' r → Lowering (Within (Reads m list t x next) set) row row' r
  through_reads pos f = lowering_as (λ q v c. record { inside = c.inside; is = record { some = pos; through = c.is } }) (λ q v c. record { inside = c.inside; is = c.is.through }) f

  pub reads_none : (row : List ℕ) → x ≡ 0 → Lowering (Within (Reads m list t x next) set) row row false
  reads_none row z = lowering_none row (λ q v c. let pos = c.is.some in absurd (omega arith))

  pub reads_same : {row row' : List ℕ} {r : Bool} → x ≡ 0 → Lowering (Within (Reads m list t x next) set) row row' r → (q : ℕ) → at row' q ≡ at row q
  reads_same {row} {row'} z f q = on (f.origin q)
    where
      on : (at row' q ≡ at row q) ⊎ Within (Reads m list t x next) set q (at row' q) → at row' q ≡ at row q
      on (inl e) = e
      on (inr c) = let pos = c.is.some in absurd (omega arith)

-- Along changes of mode

pub beside_one : {next : List ℕ} (row row' : List ℕ) (a : ℕ) (r : Bool) → Lowered row a (at next a) row' r → Lowering (Only (Beside next) a) row row' r
beside_one {next} row row' a r h =
    lowering_one row row' a (at next a) r (λ l. record { here = refl; is = record { value = refl } })
    (λ q w c. (c.here, (let e : suc (at next a) ≡ w = ap (λ (p : ℕ). suc (at next p)) (sym c.here) ∙ sym c.is.value in omega arith))) h

module _ {next : List ℕ} {set : ℕ} where
  pub beside_marked : {row row' : List ℕ} {r : Bool} → Lowering (Within (Beside next) set) row row' r → ChangeBound (In set) row' next
  beside_marked f q h = f.settled q (suc (at next q)) (record { inside = h; is = record { value = refl } })

  pub beside_real : {m : Machine} {list : List ℕ} {N : ℕ → ℕ} {row row' : List ℕ} {r : Bool} (F G : ℕ → Configuration)
      → ((q : ℕ) → In set q → Yields (fsbm_of m list) (F q) (G q))
      → ((q : ℕ) → In set q → (F q).mode ≡ Normal → Near N (F q).input (F q).state)
      → ((q : ℕ) → q < m.states → at next q < none → Go m list N (G q) (at next q))
      → ((q : ℕ) → q < m.states → at row q < none → Go m list N (F q) (at row q))
      → Lowering (Within (Beside next) set) row row' r
      → (q : ℕ) → q < m.states → at row' q < none → Go m list N (F q) (at row' q)
  beside_real {m} {list} {N} {row = row} {row' = row'} F G moves kept real-next real f q lt l = on (f.origin q)
    where
      on : (at row' q ≡ at row q) ⊎ Within (Beside next) set q (at row' q) → Go m list N (F q) (at row' q)
      on (inl e) = rw e (real q lt (omega arith))
      on (inr c) = let e = c.is.value in rw e (go_step m list (moves q c.inside) (kept q c.inside) (real-next q lt (omega arith)))

-- The sets of the table

module _ (m : Machine) (list targets : List ℕ) (g h : ℕ) (given : Given m list targets g h) where
  may_leads : (t : Mode) {p x q : ℕ} (δ : Listed list m.transitions p x q) → May g h t p q → Leads m list t x δ.number
  may_leads Normal {p} {x} {q} δ c =
      normal_leads m list δ (λ z. c.0 ((given.matchings p).1 z.0, (given.matchings q).1 z.1)) (λ z. c.1 ((given.bufferings p).1 z))
  may_leads Buffering {p} {x} {q} δ c =
      buffer_leads m list δ (λ z. c.0 ((given.matchings p).1 z.0, (given.matchings q).1 z.1)) (λ z. c.1 ((given.bufferings q).1 z))
  may_leads Emptying {p} {x} {q} δ c = empty_leads m list δ ((given.matchings p).0 c.0) ((given.matchings q).0 c.1)

  leads_may : (t : Mode) {x k : ℕ} → Leads m list t x k → May g h t (transition_at list k).from (transition_at list k).to
  leads_may Normal {x} {k} l =
      let (a, b) = normal_apart m list l in
      (λ z. a ((given.matchings (transition_at list k).from).0 z.0, (given.matchings (transition_at list k).to).0 z.1), λ z. b ((given.bufferings (transition_at list k).from).0 z))
  leads_may Buffering {x} {k} l =
      let (a, b) = buffer_apart m list l in
      (λ z. a ((given.matchings (transition_at list k).from).0 z.0, (given.matchings (transition_at list k).to).0 z.1), λ z. b ((given.bufferings (transition_at list k).to).0 z))
  leads_may Emptying {x} {k} l =
      let (a, b) = empty_apart m list l in
      ((given.matchings (transition_at list k).from).1 a, (given.matchings (transition_at list k).to).1 b)

  -- only matching states are left in emptying mode
  pub emptying_from : {x k : ℕ} → Leads m list Emptying x k → In h (transition_at list k).from
  emptying_from l = (leads_may Emptying l).0

  -- the states that a transition leads to are the machine's
  pub target_below : (x a : ℕ) → a < m.states → Row m list targets x → (q : ℕ) → In (get_or targets (set_of m.states x a) 0) q → q < m.states
  target_below x a below row_of q i =
      let δ = (row_of.listed a q below).0 i in
      subst (λ (p : ℕ). p < m.states) δ.to ((rules m list given.good).to_below δ.number δ.listed)

  -- v is the least number of the states that the transitions of a lead to
  module _ (t : Mode) (x a : ℕ) (next : List ℕ) (below : a < m.states) (row_of : Row m list targets x) (v : ℕ) (small : v ≤ none)
      (real : v < none → (q : ℕ) × In (get_or targets (set_of m.states x a) 0) q × May g h t a q × (v ≡ at next q))
      (least : (q : ℕ) → In (get_or targets (set_of m.states x a) 0) q → May g h t a q → v ≤ at next q) where
    reached : v < none → Through m list t x next a (suc v)
    reached l =
        let (q, i, may, e) = real l in
        let δ = (row_of.listed a q below).0 i in
        record { number = δ.number; leads = may_leads t δ may; from = δ.from; value = ap suc e ∙ ap (λ (p : ℕ). suc (at next p)) (sym δ.to) }

    into : (q w : ℕ) → q ≡ a → (c : Through m list t x next q w) → v ≤ at next (transition_at list c.number).to
    into q w e c =
        let k = c.number in
        let from_a : (transition_at list k).from ≡ a = c.from ∙ e in
        least (transition_at list k).to
        ((row_of.listed a (transition_at list k).to below).1 (record { number = k; listed = c.leads.listed; from = from_a; letter = c.leads.letter; to = refl }))
        (subst (λ (p : ℕ). May g h t p (transition_at list k).to) from_a (leads_may t c.leads))

    pub visit_lowers : (row row' : List ℕ) (r : Bool) → Lowered row a v row' r → Lowering (Only (Through m list t x next) a) row row' r
    visit_lowers row row' r low =
        lowering_one row row' a v r (λ l. record { here = refl; is = reached l })
        (λ q w c. (c.here, (let k = into q w c.here c.is in let e = c.is.value in omega arith))) low

  -- A row that is lowered along transitions that read nothing

  module _ (t : Mode) (set may : ℕ) (to_below : (k : ℕ) → k < m.transitions → (transition_at list k).to < m.states) (part : (q : ℕ) → In may q ↔ (In set q × In (get_or targets 0 0) q)) where
    silent_real : {row row' : List ℕ} {r : Bool} → Lowering (Within (Through m list t 0 row) may) row row' r → (N : ℕ → ℕ) (u v : List ℕ) → (t ≡ Normal → v ≡ []) → (t ≡ Normal → (q : ℕ) → In set q → Near N u q)
        → RowReal m list N u v t row → RowReal m list N u v t row'
    silent_real f N u v z kept real =
        through_real (λ q. config u q v t) (λ q. config u q v t) (λ k l. (to_below k l.listed, silent_yields m list t u v z l)) (λ q i n. kept n q ((part q).0 i).0) real real f

    silent_may : (k : ℕ) → Leads m list t 0 k → In set (transition_at list k).from → In may (transition_at list k).from
    silent_may k l i = (part (transition_at list k).from).1 (i, given.sources (transition_at list k).from (transition_at list k).to (the_listed m list l))

    pub closed_here : (row row' : List ℕ) {r : Bool} → r ≡ false → Lowering (Within (Through m list t 0 row) may) row row' r → Closed m list (In set) t row row'
    closed_here row row' e f =
        record {
          real = silent_real f;
          bounded = subst (λ (s : List ℕ). Bounded m list (In set) t 0 row' s) (sym (f.same e)) (λ k l i. through_bounded f k l (silent_may k l i));
          lower = f.lower;
          fewer = f.fewer;
        }

    pub closed_more : (row row₁ row' : List ℕ) {r : Bool} → Lowering (Within (Through m list t 0 row) may) row row₁ r → Closed m list (In set) t row₁ row' → Closed m list (In set) t row row'
    closed_more row row₁ row' f g =
        record {
          real = λ N u v z kept h. g.real N u v z kept (silent_real f N u v z kept h);
          bounded = g.bounded;
          lower = λ q. omega (arith, f.lower q, g.lower q);
          fewer = omega (arith, f.fewer, g.fewer);
        }

    pub closed_none : (row : List ℕ) → may ≡ 0 → Closed m list (In set) t row row
    closed_none row e =
        closed_here row row refl (lowering_none row (λ q v c. empty_in q (subst (λ (n : ℕ). In n q) e c.inside)))
