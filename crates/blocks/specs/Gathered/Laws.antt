-- The laws of specs/Gathered.antt.
--
-- adding_none, adding_then   == no candidate; two lots of candidates one after the other
-- adding_as                  == the same candidates in other words
-- pick_shut, pick_keeps, pick_lowers, pick_adds == one candidate: not allowed, not less, less, for a new state
-- reach_none, reach_more, reach_past == the loop over the transitions of one state by one letter
-- far_none, far_reach        == one state, which has no number, or has one
-- from_start, from_more, from_end == the loop over the states of a set
-- near_none, near_pick, stay_start, stay_more, stay_end == the same where the state stays
use Rattle.std.specs.Prelude.{ℕ, ◌+◌, ◌*◌, ◌^◌, ◌≤◌, ◌<◌, ◌≡◌, refl, ◌⊎◌, true, false, List, length, get_or, set}
use Rattle.std.proofs.Common.{sym, ap, ◌∙◌, subst, inl, inr, arith, length-set, get_or-set_same}
use Rattle.std.proofs.Math.Decide.{dec_lt}
use Rattle.basics.specs.Lists.Laws.{set_cases}
use Rattle.stateset.specs.Set.{width, In, has, added, SetIs, Taken}
use Rattle.stateset.specs.Set.Laws.{has_in, has_not}
use Rattle.pieces.specs.Blocks.{cell}
use Rattle.blocks.specs.Numbers.Laws.{Left, Rest, left_start, left_more, left_end}
use Rattle.blocks.specs.Gathered.{Adding, Pick, Reach, Far, From, Near, Stay}

pub adding_none : {C : ℕ → ℕ → Type 0} (p : List ℕ) (got : ℕ) → got < 2 ^ width → ((t v : ℕ) → C t v → ⊥) → Adding C p got p got
adding_none p got h never =
    record { size = refl; fits = h; grows = λ t m. (m, omega arith); origin = λ t m. inl (m, refl); settled = λ t v c. absurd (never t v c) }

module _ {C₁ C₂ C : ℕ → ℕ → Type 0} (left : (t v : ℕ) → C₁ t v → C t v) (right : (t v : ℕ) → C₂ t v → C t v) (either : (t v : ℕ) → C t v → C₁ t v ⊎ C₂ t v) where
  pub adding_then : {p p₁ p₂ : List ℕ} {got got₁ got₂ : ℕ} → Adding C₁ p got p₁ got₁ → Adding C₂ p₁ got₁ p₂ got₂ → Adding C p got p₂ got₂
  adding_then {p} {p₁} {p₂} {got} {got₁} {got₂} f g =
      record {
        size = g.size ∙ f.size;
        fits = g.fits;
        grows = λ t m. let x = f.grows t m in let y = g.grows t x.0 in (y.0, omega (arith, x.1, y.1));
        origin = λ t m. from t (g.origin t m);
        settled = λ t v c. to t v (either t v c);
      }
    where
      first : (t : ℕ) → get_or p₂ t 0 ≡ get_or p₁ t 0 → (In got t × (get_or p₁ t 0 ≡ get_or p t 0)) ⊎ C₁ t (get_or p₁ t 0) → (In got t × (get_or p₂ t 0 ≡ get_or p t 0)) ⊎ C t (get_or p₂ t 0)
      first t e (inl x) = inl (x.0, e ∙ x.1)
      first t e (inr x) = inr (left t (get_or p₂ t 0) (subst (λ (v : ℕ). C₁ t v) (sym e) x))

      from : (t : ℕ) → (In got₁ t × (get_or p₂ t 0 ≡ get_or p₁ t 0)) ⊎ C₂ t (get_or p₂ t 0) → (In got t × (get_or p₂ t 0 ≡ get_or p t 0)) ⊎ C t (get_or p₂ t 0)
      from t (inl y) = first t y.1 (f.origin t y.0)
      from t (inr y) = inr (right t (get_or p₂ t 0) y)

      to : (t v : ℕ) → C₁ t v ⊎ C₂ t v → In got₂ t × (get_or p₂ t 0 ≤ v)
      to t v (inl x) = let a = f.settled t v x in let b = g.grows t a.0 in (b.0, omega (arith, a.1, b.1))
      to t v (inr y) = g.settled t v y

pub adding_as : {C C' : ℕ → ℕ → Type 0} → ((t v : ℕ) → C t v → C' t v) → ((t v : ℕ) → C' t v → C t v) → {p p' : List ℕ} {got got' : ℕ} → Adding C p got p' got' → Adding C' p got p' got'
adding_as {C} {C'} there back {p} {p'} {got} {got'} f =
    record { size = f.size; fits = f.fits; grows = f.grows; origin = λ t m. on t (f.origin t m); settled = λ t v c. f.settled t v (back t v c) }
  where
    on : (t : ℕ) → (In got t × (get_or p' t 0 ≡ get_or p t 0)) ⊎ C t (get_or p' t 0) → (In got t × (get_or p' t 0 ≡ get_or p t 0)) ⊎ C' t (get_or p' t 0)
    on t (inl e) = inl e
    on t (inr c) = inr (there t (get_or p' t 0) c)

-- one candidate

module _ (may t v : ℕ) (p : List ℕ) (got : ℕ) (fits : got < 2 ^ width) where
  pub pick_shut : has may t ≡ false → Adding (Pick may t v) p got p got
  pick_shut e = adding_none p got fits (λ t' v' c. has_not may t e c.allowed)

  module _ (is : has may t ≡ true) where
    pub pick_keeps : has got t ≡ true → get_or p t 0 ≤ v → Adding (Pick may t v) p got p got
    pick_keeps has-it l =
        record { size = refl; fits = fits; grows = λ t' m. (m, omega arith); origin = λ t' m. inl (m, refl); settled = λ t' v' c. on t' v' c }
      where
        on : (t' v' : ℕ) → Pick may t v t' v' → In got t' × (get_or p t' 0 ≤ v')
        on t' v' c =
            let e : get_or p t' 0 ≡ get_or p t 0 = ap (λ (i : ℕ). get_or p i 0) c.state in
            (subst (λ (i : ℕ). In got i) (sym c.state) ((has_in got t).0 has-it), omega (arith, c.value))

    module _ (room : t < length p) where
      value : (t' : ℕ) → t' ≡ t → get_or (set p t v) t' 0 ≡ v
      value t' e = ap (λ (i : ℕ). get_or (set p t v) i 0) e ∙ get_or-set_same p t v 0 room

      abbrev Origin : ℕ → ℕ → ℕ → Type 0
      Origin got t' x = In got t' → (In got t' × (x ≡ get_or p t' 0)) ⊎ Pick may t v t' x

      picked : Pick may t v t v
      picked = record { state = refl; allowed = (has_in may t).0 is; value = refl }

      pub pick_lowers : has got t ≡ true → v ≤ get_or p t 0 → Adding (Pick may t v) p got (set p t v) got
      pick_lowers has-it l =
          record {
            size = length-set p t v;
            fits = fits;
            grows = λ t' m. (m, set_cases p t v 0 room (λ t' x. x ≤ get_or p t' 0) l (λ t' n. omega arith) t');
            origin = λ t' m. set_cases p t v 0 room (Origin got) (λ m. inr picked) (λ t' n m. inl (m, refl)) t' m;
            settled = λ t' v' c. (subst (λ (i : ℕ). In got i) (sym c.state) ((has_in got t).0 has-it), let e = value t' c.state in omega (arith, c.value));
          }

      pub pick_adds : has got t ≡ false → {r : ℕ} → SetIs r (added got t) (λ q. In got q ⊎ ((q ≡ t) × (q < width))) → t < width → Adding (Pick may t v) p got (set p t v) r
      pick_adds not_yet {r} a inside =
          record {
            size = length-set p t v;
            fits = a.fits;
            grows = λ t' m. ((a.members t').1 (inl m), set_cases p t v 0 room (λ t' x. In got t' → x ≤ get_or p t' 0) (λ m. absurd (has_not got t not_yet m)) (λ t' n m. omega arith) t' m);
            origin = λ t' m. from t' ((a.members t').0 m);
            settled = λ t' v' c. ((a.members t').1 (inr (c.state, omega (arith, c.state))), let e = value t' c.state in omega (arith, c.value));
          }
        where
          from : (t' : ℕ) → In got t' ⊎ ((t' ≡ t) × (t' < width)) → (In got t' × (get_or (set p t v) t' 0 ≡ get_or p t' 0)) ⊎ Pick may t v t' (get_or (set p t v) t' 0)
          from t' (inl m) = set_cases p t v 0 room (Origin got) (λ m. absurd (has_not got t not_yet m)) (λ t' n m. inl (m, refl)) t' m
          from t' (inr e) = inr (record { state = e.0; allowed = (has_in may t).0 is; value = value t' e.0 })

-- The transitions of one state by one letter

module _ (list : List ℕ) (may v : ℕ) where
  pub reach_none : (lo hi : ℕ) (p : List ℕ) (got : ℕ) → got < 2 ^ width → hi ≤ lo → Adding (Reach list lo hi may v) p got p got
  reach_none lo hi p got h le = adding_none p got h (λ t v' (c : Reach list lo hi may v t v'). omega (arith, c.from_on, c.below))

  pub reach_more : {lo k t : ℕ} {p p₁ p₂ : List ℕ} {got got₁ got₂ : ℕ} → lo ≤ k → t ≡ get_or list (k * 3 + 2) 0 → Adding (Reach list lo k may v) p got p₁ got₁
      → Adding (Pick may t v) p₁ got₁ p₂ got₂ → Adding (Reach list lo (k + 1) may v) p got p₂ got₂
  reach_more {lo} {k} {t} le is f g = adding_then left right either f g
    where
      left : (t' v' : ℕ) → Reach list lo k may v t' v' → Reach list lo (k + 1) may v t' v'
      left t' v' c = record { number = c.number; from_on = c.from_on; below = omega (arith, c.below); enters = c.enters; allowed = c.allowed; value = c.value }

      right : (t' v' : ℕ) → Pick may t v t' v' → Reach list lo (k + 1) may v t' v'
      right t' v' c =
          record {
            number = k;
            from_on = le;
            below = omega arith;
            enters = sym is ∙ sym c.state;
            allowed = subst (λ (i : ℕ). In may i) (sym c.state) c.allowed;
            value = c.value;
          }

      either : (t' v' : ℕ) → Reach list lo (k + 1) may v t' v' → Reach list lo k may v t' v' ⊎ Pick may t v t' v'
      either t' v' c = on (dec_lt c.number k)
        where
          on : Dec (c.number < k) → Reach list lo k may v t' v' ⊎ Pick may t v t' v'
          on (yes l) = inl (record { number = c.number; from_on = c.from_on; below = l; enters = c.enters; allowed = c.allowed; value = c.value })
          on (no f) =
              let e : c.number ≡ k = omega (arith, c.below) in
              let z : t' ≡ t = sym c.enters ∙ ap (λ (i : ℕ). get_or list (i * 3 + 2) 0) e ∙ sym is in
              inr (record { state = z; allowed = subst (λ (i : ℕ). In may i) z c.allowed; value = c.value })

  -- the loop's end, also where there is nothing to do
  pub reach_past : {lo hi k : ℕ} {p p' : List ℕ} {got got' : ℕ} → (k ≡ lo) ⊎ (k ≤ hi) → hi ≤ k → Adding (Reach list lo k may v) p got p' got' → Adding (Reach list lo hi may v) p got p' got'
  reach_past {lo} {hi} {k} (inl e) le f =
      adding_as (λ t v' (c : Reach list lo k may v t v'). absurd (omega (arith, c.from_on, c.below))) (λ t v' (c : Reach list lo hi may v t v'). absurd (omega (arith, c.from_on, c.below))) f
  reach_past {lo} {hi} {k} {p} {p'} {got} {got'} (inr l) le f = let e : k ≡ hi = omega arith in subst (λ (i : ℕ). Adding (Reach list lo i may v) p got p' got') e f

-- One state

module _ (list index : List ℕ) (top base may v w : ℕ) where
  pub far_none : (p : List ℕ) (got : ℕ) → got < 2 ^ width → top ≤ v → Adding (Far list index top base may v w) p got p got
  far_none p got h le = adding_none p got h (λ t v' (c : Far list index top base may v w t v'). omega (arith, c.known))

  pub far_reach : {lo hi : ℕ} {p p' : List ℕ} {got got' : ℕ} → v < top → lo ≡ get_or index base 0 → hi ≡ get_or index (base + 1) 0 → Adding (Reach list lo hi may (v + w)) p got p' got'
      → Adding (Far list index top base may v w) p got p' got'
  far_reach {lo} {hi} {p} {p'} {got} {got'} l e k f =
      adding_as (λ t v' c. record { known = l; reach = c }) (λ t v' c. c.reach)
      (subst (λ (i : ℕ). Adding (Reach list i (get_or index (base + 1) 0) may (v + w)) p got p' got') e (subst (λ (i : ℕ). Adding (Reach list lo i may (v + w)) p got p' got') k f))

-- The states of a set

module _ (list index : List ℕ) (top stride x w may : ℕ) (b : List ℕ) (s : ℕ) where
  pub from_start : (set : ℕ) (p : List ℕ) (got : ℕ) → got ≡ 0 → Adding (From list index top stride x w may b s (Left set set)) p 0 p got
  from_start set p got e = rw e (adding_none p 0 (omega arith) (λ t v c. left_start set c.source c.holds))

  pub from_more : {set rest rest' q n base : ℕ} {p p₁ p₂ : List ℕ} {got got₁ got₂ : ℕ} → Rest set rest → Taken rest q rest'
      → n ≡ cell b s q → base ≡ q * stride + x
      → Adding (From list index top stride x w may b s (Left set rest)) p got p₁ got₁ → Adding (Far list index top base may n w) p₁ got₁ p₂ got₂
      → Adding (From list index top stride x w may b s (Left set rest')) p got p₂ got₂
  from_more {set} {rest} {rest'} {q} {n} {base} r k number place f g = adding_then left right either f g
    where
      left : (t v : ℕ) → From list index top stride x w may b s (Left set rest) t v → From list index top stride x w may b s (Left set rest') t v
      left t v c = record { source = c.source; holds = (left_more r k c.source).1 (inl c.holds); far = c.far }

      right : (t v : ℕ) → Far list index top base may n w t v → From list index top stride x w may b s (Left set rest') t v
      right t v c =
          record {
            source = q;
            holds = (left_more r k q).1 (inr refl);
            far = subst (λ (i : ℕ). Far list index top i may (cell b s q) w t v) place (subst (λ (i : ℕ). Far list index top base may i w t v) number c);
          }

      either : (t v : ℕ) → From list index top stride x w may b s (Left set rest') t v → From list index top stride x w may b s (Left set rest) t v ⊎ Far list index top base may n w t v
      either t v c = on ((left_more r k c.source).0 c.holds)
        where
          on : Left set rest c.source ⊎ (c.source ≡ q) → From list index top stride x w may b s (Left set rest) t v ⊎ Far list index top base may n w t v
          on (inl l) = inl (record { source = c.source; holds = l; far = c.far })
          on (inr e) =
              inr (subst (λ (i : ℕ). Far list index top i may n w t v) (sym place) (subst (λ (i : ℕ). Far list index top (q * stride + x) may i w t v) (sym number)
              (subst (λ (i : ℕ). Far list index top (i * stride + x) may (cell b s i) w t v) e c.far)))

  pub from_end : (set rest : ℕ) {p p' : List ℕ} {got got' : ℕ} → rest ≡ 0 → Adding (From list index top stride x w may b s (Left set rest)) p got p' got'
      → Adding (From list index top stride x w may b s (In set)) p got p' got'
  from_end set rest e f =
      adding_as (λ t v c. record { source = c.source; holds = (left_end set rest c.source e).0 c.holds; far = c.far })
      (λ t v c. record { source = c.source; holds = (left_end set rest c.source e).1 c.holds; far = c.far }) f

-- The states of a set, where the state stays

module _ (top may t v : ℕ) where
  pub near_none : (p : List ℕ) (got : ℕ) → got < 2 ^ width → top ≤ v → Adding (Near top may t v) p got p got
  near_none p got h le = adding_none p got h (λ t' v' (c : Near top may t v t' v'). omega (arith, c.known))

  pub near_pick : {p p' : List ℕ} {got got' : ℕ} → v < top → Adding (Pick may t (v + 1)) p got p' got' → Adding (Near top may t v) p got p' got'
  near_pick l f = adding_as (λ t' v' c. record { known = l; pick = c }) (λ t' v' c. c.pick) f

module _ (top : ℕ) (b : List ℕ) (s : ℕ) where
  pub stay_start : (set : ℕ) (p : List ℕ) (got : ℕ) → got ≡ 0 → Adding (Stay top b s (Left set set)) p 0 p got
  stay_start set p got e = rw e (adding_none p 0 (omega arith) (λ t v c. left_start set t c.holds))

  pub stay_more : {set rest rest' q n : ℕ} {p p₁ p₂ : List ℕ} {got got₁ got₂ : ℕ} → Rest set rest → Taken rest q rest' → n ≡ cell b s q
      → Adding (Stay top b s (Left set rest)) p got p₁ got₁ → Adding (Near top set q n) p₁ got₁ p₂ got₂ → Adding (Stay top b s (Left set rest')) p got p₂ got₂
  stay_more {set} {rest} {rest'} {q} {n} r k number f g = adding_then left right either f g
    where
      left : (t v : ℕ) → Stay top b s (Left set rest) t v → Stay top b s (Left set rest') t v
      left t v c = record { holds = (left_more r k t).1 (inl c.holds); known = c.known; value = c.value }

      right : (t v : ℕ) → Near top set q n t v → Stay top b s (Left set rest') t v
      right t v c =
          let e : cell b s t ≡ n = ap (cell b s) c.pick.state ∙ sym number in
          record { holds = (left_more r k t).1 (inr c.pick.state); known = omega (arith, c.known); value = omega (arith, c.pick.value) }

      either : (t v : ℕ) → Stay top b s (Left set rest') t v → Stay top b s (Left set rest) t v ⊎ Near top set q n t v
      either t v c = on ((left_more r k t).0 c.holds)
        where
          on : Left set rest t ⊎ (t ≡ q) → Stay top b s (Left set rest) t v ⊎ Near top set q n t v
          on (inl l) = inl (record { holds = l; known = c.known; value = c.value })
          on (inr e) =
              let z : cell b s t ≡ n = ap (cell b s) e ∙ sym number in
              inr (record { known = omega (arith, c.known); pick = record { state = e; allowed = r.part q k.member; value = omega (arith, c.value) } })

  pub stay_end : (set rest : ℕ) {p p' : List ℕ} {got got' : ℕ} → rest ≡ 0 → Adding (Stay top b s (Left set rest)) p got p' got' → Adding (Stay top b s (In set)) p got p' got'
  stay_end set rest e f =
      adding_as (λ t v c. record { holds = (left_end set rest t e).0 c.holds; known = c.known; value = c.value })
      (λ t v c. record { holds = (left_end set rest t e).1 c.holds; known = c.known; value = c.value }) f
