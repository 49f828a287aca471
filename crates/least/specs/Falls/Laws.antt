-- The laws of specs/Falls.antt.
--
-- cost_set_same, cost_set_other == the numbers after one is replaced
-- falls_none, falls_then, falls_as, falls_under == nothing lowered; one lot after the other; in other words; by the numbers themselves
-- fall_not, fall_is     == one number, which is not less, or is
-- weigh_letter          == the weight of a move by a letter
-- step_not, step_is     == one transition, which is not allowed, or is
-- steps_start, steps_more, steps_past == the loop over transitions
-- enterable_held, enterable_all == the ways through `enterable`
-- normal_none .. normal_steps == the ways through `normal`
-- end_not, end_is       == one state where a copy ends, with no number in the block, or with one
-- ends_start, ends_more, ends_end == the loop over the states where a copy ends
use Rattle.std.specs.Prelude.{ℕ, zero, suc, ◌+◌, ◌*◌, ◌^◌, ◌≤◌, ◌<◌, ◌≡◌, refl, ◌⊎◌, true, false, List, length, get_or, set}
use Rattle.std.proofs.Common.{sym, ap, ◌∙◌, subst, inl, inr, arith, length-set, get_or-set_same, get_or-set_other}
use Rattle.std.proofs.Math.Decide.{ℕ_discrete, dec_lt}
use Rattle.std.specs.Int.Count.{ones}
use Rattle.std.proofs.lemmas.Bool.{eqb-false}
use Rattle.stateset.specs.Set.{width, digit, In, has, added, SetIs, Taken}
use Rattle.stateset.specs.Set.Laws.{has_in}
use Rattle.fsbm.specs.Machine.{transition_at, buffering}
use Rattle.fsbm.specs.Published.{fsbm_of}
use Rattle.fsbm.specs.Rules.{rules}
use Rattle.fsbm.specs.declared.machine.Machine.{Machine}
use Rattle.pieces.specs.Pairs.{unit, weigh, NormalMove, moves}
use Rattle.pieces.specs.Blocks.{nothing, cell, cost_of}
use Rattle.pieces.proofs.BlocksLaws.{cost_inside, cost_past}
use Rattle.blocks.specs.Numbers.Laws.{total_set, added_more, Left, Rest, left_start, left_more, left_end}
use Rattle.blocks.specs.Stretches.Laws.{row_stretch}
use Rattle.blocks.specs.Works.{Kind, Ready}
use Rattle.least.specs.Falls.{Falls, Single, Step, Steps, NormalFrom, End, CopyEnds, Enterable}

module _ (d : List ℕ) (q v : ℕ) (inside : q < 64) where
  pub cost_set_same : q < length d → cost_of (set d q v) q ≡ v
  cost_set_same l = cost_inside (set d q v) q inside ∙ get_or-set_same d q v 0 l

  pub cost_set_other : (p : ℕ) → (p ≡ q → ⊥) → cost_of (set d q v) p ≡ cost_of d p
  cost_set_other p f = on (dec_lt p 64)
    where
      on : Dec (p < 64) → cost_of (set d q v) p ≡ cost_of d p
      on (yes l) = cost_inside (set d q v) p l ∙ get_or-set_other d q p v 0 f ∙ sym (cost_inside d p l)
      on (no n) = cost_past (set d q v) p (omega arith) ∙ sym (cost_past d p (omega arith))

pub falls_none : {Made Bound : ℕ → ℕ → Type 0} (d : List ℕ) (got : ℕ) → got < 2 ^ width → ((q v : ℕ) → Bound q v → ⊥) → Falls Made Bound d got d got
falls_none d got h never =
    record {
      size = refl;
      fits = h;
      down = λ q. omega arith;
      stays = λ q m. m;
      changed = λ q. inl refl;
      less = omega arith;
      origin = λ q. inl refl;
      settled = λ q v c. absurd (never q v c);
    }

module _ {Made₁ Bound₁ Made₂ Bound₂ Made Bound : ℕ → ℕ → Type 0} (left : (q v : ℕ) → Made₁ q v → Made q v) (right : (q v : ℕ) → Made₂ q v → Made q v)
    (either : (q v : ℕ) → Bound q v → Bound₁ q v ⊎ Bound₂ q v) where
  pub falls_then : {d d₁ d₂ : List ℕ} {got got₁ got₂ : ℕ} → Falls Made₁ Bound₁ d got d₁ got₁ → Falls Made₂ Bound₂ d₁ got₁ d₂ got₂ → Falls Made Bound d got d₂ got₂
  falls_then {d} {d₁} {d₂} {got} {got₁} {got₂} f g =
      record {
        size = g.size ∙ f.size;
        fits = g.fits;
        down = λ q. let x = f.down q in let y = g.down q in omega arith;
        stays = λ q m. g.stays q (f.stays q m);
        changed = λ q. change q (f.changed q) (g.changed q);
        less = omega (arith, f.less, g.less);
        origin = λ q. from q (f.origin q) (g.origin q);
        settled = λ q v c. to q v (either q v c);
      }
    where
      change : (q : ℕ) → (cost_of d₁ q ≡ cost_of d q) ⊎ In got₁ q → (cost_of d₂ q ≡ cost_of d₁ q) ⊎ In got₂ q → (cost_of d₂ q ≡ cost_of d q) ⊎ In got₂ q
      change q (inl x) (inl y) = inl (y ∙ x)
      change q (inr x) y = inr (g.stays q x)
      change q (inl x) (inr y) = inr y

      from : (q : ℕ) → (cost_of d₁ q ≡ cost_of d q) ⊎ Made₁ q (cost_of d₁ q) → (cost_of d₂ q ≡ cost_of d₁ q) ⊎ Made₂ q (cost_of d₂ q) → (cost_of d₂ q ≡ cost_of d q) ⊎ Made q (cost_of d₂ q)
      from q (inl x) (inl y) = inl (y ∙ x)
      from q (inr x) (inl y) = inr (left q (cost_of d₂ q) (subst (λ (v : ℕ). Made₁ q v) (sym y) x))
      from q x (inr y) = inr (right q (cost_of d₂ q) y)

      to : (q v : ℕ) → Bound₁ q v ⊎ Bound₂ q v → cost_of d₂ q ≤ v
      to q v (inl x) = let h = f.settled q v x in let k = g.down q in omega arith
      to q v (inr y) = g.settled q v y

pub falls_as : {Made Bound Made' Bound' : ℕ → ℕ → Type 0} → ((q v : ℕ) → Made q v → Made' q v) → ((q v : ℕ) → Bound' q v → Bound q v) → {d d' : List ℕ} {got got' : ℕ}
    → Falls Made Bound d got d' got' → Falls Made' Bound' d got d' got'
falls_as {Made} {Bound} {Made'} there back {d} {d'} f =
    record {
      size = f.size;
      fits = f.fits;
      down = f.down;
      stays = f.stays;
      changed = f.changed;
      less = f.less;
      origin = λ q. on q (f.origin q);
      settled = λ q v c. f.settled q v (back q v c);
    }
  where
    on : (q : ℕ) → (cost_of d' q ≡ cost_of d q) ⊎ Made q (cost_of d' q) → (cost_of d' q ≡ cost_of d q) ⊎ Made' q (cost_of d' q)
    on q (inl e) = inl e
    on q (inr c) = inr (there q (cost_of d' q) c)

-- what was lowered bounds each number that is no less
pub falls_under : {Made Bound : ℕ → ℕ → Type 0} {d d' : List ℕ} {got got' : ℕ} → Falls Made Bound d got d' got' → Falls Made (λ q v. cost_of d' q ≤ v) d got d' got'
falls_under f =
    record { size = f.size; fits = f.fits; down = f.down; stays = f.stays; changed = f.changed; less = f.less; origin = f.origin; settled = λ q v c. c }

-- One number

module _ (d : List ℕ) (got q v : ℕ) (inside : q < 64) where
  pub fall_not : got < 2 ^ width → get_or d q 0 ≤ v → Falls (Single q v) (Single q v) d got d got
  fall_not h l =
      record {
        size = refl;
        fits = h;
        down = λ p. omega arith;
        stays = λ p m. m;
        changed = λ p. inl refl;
        less = omega arith;
        origin = λ p. inl refl;
        settled = λ p w c. let e : cost_of d p ≡ cost_of d q = ap (cost_of d) c.state in let k = cost_inside d q inside in omega (arith, c.value);
      }

  pub fall_is : length d ≡ 64 → v < get_or d q 0 → {r : ℕ} → SetIs r (added got q) (λ p. In got p ⊎ ((p ≡ q) × (p < width))) → Falls (Single q v) (Single q v) d got (set d q v) r
  fall_is size less {r} is =
      record {
        size = length-set d q v;
        fits = is.fits;
        down = λ p. down p (ℕ_discrete p q);
        stays = λ p m. (is.members p).1 (inl m);
        changed = λ p. changed p (ℕ_discrete p q);
        less =
            let x = total_set d q v (omega arith) in
            let y = added_more got q inside in
            let z = ap ones is.value in
            omega arith;
        origin = λ p. from p (ℕ_discrete p q);
        settled = λ p w c. let e = value p c.state in omega (arith, c.value);
      }
    where
      value : (p : ℕ) → p ≡ q → cost_of (set d q v) p ≡ v
      value p e = ap (cost_of (set d q v)) e ∙ cost_set_same d q v inside (omega arith)

      down : (p : ℕ) → Dec (p ≡ q) → cost_of (set d q v) p ≤ cost_of d p
      down p (yes e) = let x = value p e in let y : cost_of d p ≡ cost_of d q = ap (cost_of d) e in let z = cost_inside d q inside in omega arith
      down p (no f) = let x = cost_set_other d q v inside p f in omega arith

      changed : (p : ℕ) → Dec (p ≡ q) → (cost_of (set d q v) p ≡ cost_of d p) ⊎ In r p
      changed p (yes e) = inr ((is.members p).1 (inr (e, omega arith)))
      changed p (no f) = inl (cost_set_other d q v inside p f)

      from : (p : ℕ) → Dec (p ≡ q) → (cost_of (set d q v) p ≡ cost_of d p) ⊎ Single q v p (cost_of (set d q v) p)
      from p (yes e) = inr (record { state = e; value = value p e })
      from p (no f) = inl (cost_set_other d q v inside p f)

-- Transitions

pub weigh_letter : (x : ℕ) → (x ≡ 0 → ⊥) → unit + 1 ≡ weigh x
weigh_letter zero e = absurd (e refl)
weigh_letter (suc x) e = refl

module _ (list : List ℕ) (may n : ℕ) where
  pub step_not : {k t : ℕ} (d : List ℕ) (got : ℕ) → got < 2 ^ width → t ≡ (transition_at list k).to → has may t ≡ false → Falls (Step list k may n) (Step list k may n) d got d got
  step_not {k} {t} d got h is e =
      falls_none d got h (λ q v (c : Step list k may n q v). eqb-false (digit may t) 1 e (subst (λ (i : ℕ). In may i) (sym c.enters ∙ sym is) c.allowed))

  pub step_is : {k t w : ℕ} {d d' : List ℕ} {got got' : ℕ} → t ≡ (transition_at list k).to → has may t ≡ true → w ≡ weigh (transition_at list k).letter → Falls (Single t (n + w)) (Single t (n + w)) d got d' got'
      → Falls (Step list k may n) (Step list k may n) d got d' got'
  step_is {k} {t} {w} is e value f =
      falls_as
      (λ q v (c : Single t (n + w) q v). record {
        enters = sym is ∙ sym c.state;
        allowed = subst (λ (i : ℕ). In may i) (sym c.state) ((has_in may t).0 e);
        value = c.value ∙ ap (λ (i : ℕ). n + i) value;
      })
      (λ q v (c : Step list k may n q v). record { state = sym c.enters ∙ sym is; value = c.value ∙ ap (λ (i : ℕ). n + i) (sym value) }) f

  pub steps_start : (lo : ℕ) (d : List ℕ) (got : ℕ) → got < 2 ^ width → Falls (Steps list lo lo may n) (Steps list lo lo may n) d got d got
  steps_start lo d got h = falls_none d got h (λ q v (c : Steps list lo lo may n q v). omega (arith, c.from_on, c.below))

  pub steps_more : {lo k : ℕ} {d d₁ d₂ : List ℕ} {got got₁ got₂ : ℕ} → lo ≤ k → Falls (Steps list lo k may n) (Steps list lo k may n) d got d₁ got₁
      → Falls (Step list k may n) (Step list k may n) d₁ got₁ d₂ got₂ → Falls (Steps list lo (k + 1) may n) (Steps list lo (k + 1) may n) d got d₂ got₂
  steps_more {lo} {k} le f g =
      falls_then (λ q v c. record { number = c.number; from_on = c.from_on; below = omega (arith, c.below); step = c.step })
      (λ q v c. record { number = k; from_on = le; below = omega arith; step = c }) (λ q v c. either q v c) f g
    where
      either : (q v : ℕ) → Steps list lo (k + 1) may n q v → Steps list lo k may n q v ⊎ Step list k may n q v
      either q v c = on (dec_lt c.number k)
        where
          on : Dec (c.number < k) → Steps list lo k may n q v ⊎ Step list k may n q v
          on (yes l) = inl (record { number = c.number; from_on = c.from_on; below = l; step = c.step })
          on (no z) = inr (subst (λ (i : ℕ). Step list i may n q v) (let e : c.number ≡ k = omega (arith, c.below) in e) c.step)

  pub steps_past : {lo hi k : ℕ} {d d' : List ℕ} {got got' : ℕ} → (k ≡ lo) ⊎ (k ≤ hi) → hi ≤ k → Falls (Steps list lo k may n) (Steps list lo k may n) d got d' got'
      → Falls (Steps list lo hi may n) (Steps list lo hi may n) d got d' got'
  steps_past {lo} {hi} {k} (inl e) le f =
      falls_as (λ q v (c : Steps list lo k may n q v). absurd (omega (arith, c.from_on, c.below))) (λ q v (c : Steps list lo hi may n q v). absurd (omega (arith, c.from_on, c.below))) f
  steps_past {lo} {hi} {k} {d} {d'} {got} {got'} (inr l) le f =
      subst (λ (i : ℕ). Falls (Steps list lo i may n) (Steps list lo i may n) d got d' got') (let e : k ≡ hi = omega arith in e) f

-- The states that a normal move may enter

module _ (h q : ℕ) {all u : ℕ} (whole : SetIs all u (λ p. (p < 64) × (p < width))) where
  pub enterable_held : {rest v : ℕ} → has h q ≡ true → SetIs rest v (λ p. In all p × (In h p → ⊥)) → Enterable h q rest
  enterable_held e is p = (
    λ m. let k = (is.members p).0 m in (((whole.members p).0 k.0).0, λ z. k.1 z.1),
    λ z. (is.members p).1 ((whole.members p).1 (z.0, z.0), λ k. z.1 ((has_in h q).0 e, k)),
  )

  pub enterable_all : has h q ≡ false → Enterable h q all
  enterable_all e p = (λ m. (((whole.members p).0 m).0, λ z. eqb-false (digit h q) 1 e z.0), λ z. (whole.members p).1 (z.0, z.0))

-- The normal moves from a state

module _ {m : Machine} {list index : List ℕ} {h : ℕ} (r : Ready m list index h) (g : ℕ) (buffers : Kind (buffering m.marks) g) (q : ℕ) (d : List ℕ) where
  pub normal_none : (got : ℕ) → got < 2 ^ width → nothing ≤ cost_of d q → Falls (NormalFrom m list d q) (NormalFrom m list d q) d got d got
  normal_none got k le = falls_none d got k (λ p v (c : NormalFrom m list d q p v). omega (arith, c.known))

  pub normal_buffers : (got : ℕ) → got < 2 ^ width → has g q ≡ true → Falls (NormalFrom m list d q) (NormalFrom m list d q) d got d got
  normal_buffers got k e = falls_none d got k (λ p v c. on c.move)
    where
      on : {p w : ℕ} → NormalMove (fsbm_of m list) q p w → ⊥
      on (moves i j l) = l ((buffers q).0 ((has_in g q).0 e))

  pub normal_past : (got : ℕ) → got < 2 ^ width → m.states ≤ q → Falls (NormalFrom m list d q) (NormalFrom m list d q) d got d got
  normal_past got k le = falls_none d got k (λ p v c. on c.move)
    where
      on : {p w : ℕ} → NormalMove (fsbm_of m list) q p w → ⊥
      on (moves i j l) = let z = (rules m list r.good).from_below i.number i.listed in omega (arith, i.from)

  pub normal_steps : {lo hi may n : ℕ} {d' : List ℕ} {got got' : ℕ} → q < m.states → has g q ≡ false → n ≡ cost_of d q → n < nothing → Enterable h q may
      → lo ≡ get_or index (q * (m.letters + 1)) 0 → hi ≡ get_or index (q * (m.letters + 1) + (m.letters + 1)) 0
      → Falls (Steps list lo hi may n) (Steps list lo hi may n) d got d' got' → Falls (NormalFrom m list d q) (NormalFrom m list d q) d got d' got'
  normal_steps {lo} {hi} {may} {n} here free is less enter first end f = falls_as there back f
    where
      same : get_or index (q * (m.letters + 1)) 0 ≡ get_or index (q * (m.letters + 1) + 0) 0
      same = ap (λ (i : ℕ). get_or index i 0) (let e : q * (m.letters + 1) ≡ q * (m.letters + 1) + 0 = omega arith in e)

      there : (p v : ℕ) → Steps list lo hi may n p v → NormalFrom m list d q p v
      there p v c =
          let k = (row_stretch m list (rules m list r.good) index r.starts q c.number here).0 (let z = same in omega (arith, c.from_on), omega (arith, c.below)) in
          record {
            known = omega arith;
            weight = weigh (transition_at list c.number).letter;
            move =
                moves (record { number = c.number; listed = k.0; from = k.1; letter = refl; to = c.step.enters })
                (λ z. ((enter p).0 c.step.allowed).1 ((r.matches q).1 z.0, (r.matches p).1 z.1)) (λ z. eqb-false (digit g q) 1 free ((buffers q).1 z));
            value = omega (arith, c.step.value);
          }

      back : (p v : ℕ) → NormalFrom m list d q p v → Steps list lo hi may n p v
      back p v c = on c.move c.value
        where
          on : {w : ℕ} → NormalMove (fsbm_of m list) q p w → v ≡ w + cost_of d q → Steps list lo hi may n p v
          on (moves {a = a} i j l) e =
              let k = (row_stretch m list (rules m list r.good) index r.starts q i.number here).1 (i.listed, i.from) in
              let z = same in
              let s = rules m list r.good in
              let t = s.to_below i.number i.listed in
              let u = s.states_fit in
              let w : weigh (transition_at list i.number).letter ≡ weigh a = ap weigh i.letter in
              record {
                number = i.number;
                from_on = omega (arith, k.0);
                below = omega (arith, k.1);
                step = record {
                  enters = i.to;
                  allowed = (enter p).1 (omega (arith, i.to), λ y. j ((r.matches q).0 y.0, (r.matches p).0 y.1));
                  value = omega arith;
                };
              }

-- The states where a copy ends

pub end_not : (top z v : ℕ) (d : List ℕ) (got : ℕ) → got < 2 ^ width → top ≤ v → Falls (End top z v) (End top z v) d got d got
end_not top z v d got h le = falls_none d got h (λ q w (c : End top z v q w). omega (arith, c.known))

pub end_is : {top z v : ℕ} {d d' : List ℕ} {got got' : ℕ} → v < top → Falls (Single z (v + 2)) (Single z (v + 2)) d got d' got' → Falls (End top z v) (End top z v) d got d' got'
end_is l f = falls_as (λ q w c. record { known = l; single = c }) (λ q w c. c.single) f

module _ (top : ℕ) (b : List ℕ) (guess : ℕ) where
  pub ends_start : (set : ℕ) (d : List ℕ) (got : ℕ) → got < 2 ^ width → Falls (CopyEnds top b guess (Left set set)) (CopyEnds top b guess (Left set set)) d got d got
  ends_start set d got h = falls_none d got h (λ z v c. left_start set z c.holds)

  pub ends_more : {set rest rest' q w : ℕ} {d d₁ d₂ : List ℕ} {got got₁ got₂ : ℕ} → Rest set rest → Taken rest q rest' → w ≡ cell b guess q
      → Falls (CopyEnds top b guess (Left set rest)) (CopyEnds top b guess (Left set rest)) d got d₁ got₁ → Falls (End top q w) (End top q w) d₁ got₁ d₂ got₂
      → Falls (CopyEnds top b guess (Left set rest')) (CopyEnds top b guess (Left set rest')) d got d₂ got₂
  ends_more {set} {rest} {rest'} {q} {w} r k value f g = falls_then left right either f g
    where
      left : (z v : ℕ) → CopyEnds top b guess (Left set rest) z v → CopyEnds top b guess (Left set rest') z v
      left z v c = record { holds = (left_more r k z).1 (inl c.holds); known = c.known; value = c.value }

      right : (z v : ℕ) → End top q w z v → CopyEnds top b guess (Left set rest') z v
      right z v c =
          let e : cell b guess z ≡ w = ap (cell b guess) c.single.state ∙ sym value in
          record { holds = (left_more r k z).1 (inr c.single.state); known = omega (arith, c.known); value = omega (arith, c.single.value) }

      either : (z v : ℕ) → CopyEnds top b guess (Left set rest') z v → CopyEnds top b guess (Left set rest) z v ⊎ End top q w z v
      either z v c = on ((left_more r k z).0 c.holds)
        where
          on : Left set rest z ⊎ (z ≡ q) → CopyEnds top b guess (Left set rest) z v ⊎ End top q w z v
          on (inl l) = inl (record { holds = l; known = c.known; value = c.value })
          on (inr e) =
              let y : cell b guess z ≡ w = ap (cell b guess) e ∙ sym value in
              inr (record { known = omega (arith, c.known); single = record { state = e; value = omega (arith, c.value) } })

  pub ends_end : (set rest : ℕ) {d d' : List ℕ} {got got' : ℕ} → rest ≡ 0 → Falls (CopyEnds top b guess (Left set rest)) (CopyEnds top b guess (Left set rest)) d got d' got'
      → Falls (CopyEnds top b guess (In set)) (CopyEnds top b guess (In set)) d got d' got'
  ends_end set rest e f =
      falls_as (λ z v c. record { holds = (left_end set rest z e).0 c.holds; known = c.known; value = c.value })
      (λ z v c. record { holds = (left_end set rest z e).1 c.holds; known = c.known; value = c.value }) f
