-- The laws of specs/Numbers.antt.
--
-- cell_set_same, cell_set_other == the numbers after one is replaced
-- total_set, marked_set      == the sum, and the number of marks, after one element is replaced
-- sized_after, sized_set     == the lengths stay
-- steps_none, steps_then     == nothing lowered; one step after the other
-- lowers_none, lowers_then   == no candidate; two lots of candidates one after the other
-- lowers_as                  == the same candidates in other words
-- lower_not, lower_is        == one candidate, which is not less, or is
-- Left set rest, Rest set rest == a loop over a set: the members that are not left to do; what is left is a part of the set
-- lowest_inside, taken, taken_fewer == the member that a loop takes: it is a state; what is left without it has fewer members
-- rest_start, rest_more, left_start, left_more, left_end == the loop begins, takes a member, ends
-- put_start, put_more, put_end == the loop over the states of a row
-- spread_start, spread_more, spread_past == the loop over transitions
-- enter_not, enter_is        == one transition, which is not allowed, or is
use Rattle.std.specs.Prelude.{ℕ, zero, suc, ◌+◌, ◌*◌, ◌^◌, ◌≤◌, ◌<◌, ◌≡◌, refl, ◌⊎◌, ◌↔◌, List, [], ◌∷◌, length, get_or, set, true, false}
use Rattle.std.proofs.Common.{sym, ap, ◌∙◌, subst, inl, inr, arith, length-set, get_or-set_same, get_or-set_other}
use Rattle.std.proofs.Math.Decide.{ℕ_discrete, dec_lt}
use Rattle.std.specs.Int.Count.{ones}
use Rattle.std.proofs.lemmas.Bool.{eqb-false}
use Rattle.stateset.specs.Set.{width, In, has, digit, added, removed, lowest_of, SetIs, Lowest, Taken}
use Rattle.stateset.specs.Set.Laws.{in?, has_in, in_lt, lowest_removed, drop_lowest, ones_add, add_member, added_state, empty_in}
use Rattle.pieces.specs.Blocks.{cell}
use Rattle.pieces.proofs.BlocksLaws.{cell_inside, cell_past}
use Rattle.blocks.specs.Numbers.{total, marked, HasMark, Sized, Steps, Lowers, One, Put, Enter, Spread}

-- two pairs of states with one number are one
place_same : (s t s' t' : ℕ) → t < 64 → t' < 64 → s' * 64 + t' ≡ s * 64 + t → (s' ≡ s) × (t' ≡ t)
place_same s t s' t' h k e = (omega arith, omega arith)

module _ (b : List ℕ) (s t v : ℕ) (row : s < 64) (column : t < 64) where
  pub cell_set_same : s * 64 + t < length b → cell (set b (s * 64 + t) v) s t ≡ v
  cell_set_same l = cell_inside (set b (s * 64 + t) v) s t row column ∙ get_or-set_same b (s * 64 + t) v 0 l

  pub cell_set_other : (s' t' : ℕ) → ((s' ≡ s) × (t' ≡ t) → ⊥) → cell (set b (s * 64 + t) v) s' t' ≡ cell b s' t'
  cell_set_other s' t' other = on (dec_lt s' 64) (dec_lt t' 64)
    where
      on : Dec (s' < 64) → Dec (t' < 64) → cell (set b (s * 64 + t) v) s' t' ≡ cell b s' t'
      on (yes h) (yes k) =
          cell_inside (set b (s * 64 + t) v) s' t' h k ∙ get_or-set_other b (s * 64 + t) (s' * 64 + t') v 0 (λ e. other (place_same s t s' t' column k e)) ∙ sym (cell_inside b s' t' h k)
      on (no f) k = cell_past (set b (s * 64 + t) v) s' t' (inl (omega arith)) ∙ sym (cell_past b s' t' (inl (omega arith)))
      on (yes h) (no f) = cell_past (set b (s * 64 + t) v) s' t' (inr (omega arith)) ∙ sym (cell_past b s' t' (inr (omega arith)))

pub total_set : (b : List ℕ) (i v : ℕ) → i < length b → total (set b i v) + get_or b i 0 ≡ total b + v
unfolding total
total_set [] i v l = absurd (omega arith)
total_set (x ∷ b) zero v l = omega arith
total_set (x ∷ b) (suc i) v l = let h = total_set b i v (omega arith) in omega arith

pub marked_set : (d : List ℕ) (i x : ℕ) → i < length d → marked (set d i x) + ones (get_or d i 0) ≡ marked d + ones x
unfolding marked
marked_set [] i v l = absurd (omega arith)
marked_set (x ∷ d) zero v l = omega arith
marked_set (x ∷ d) (suc i) v l = let h = marked_set d i v (omega arith) in omega arith

-- a state more in a set is at most one member more
pub added_more : (x q : ℕ) → q < width → ones (added x q) ≤ suc (ones x)
added_more x q h = on (in? x q)
  where
    on : Dec (In x q) → ones (added x q) ≤ suc (ones x)
    on (yes m) = let e = ap ones (added_state x q h ∙ add_member x q m) in omega arith
    on (no f) = let e = ap ones (added_state x q h) ∙ ones_add x q f in omega arith

-- Steps

pub steps_none : (b d : List ℕ) → Steps b d b d
steps_none b d =
    record {
      size = refl;
      rows = refl;
      down = λ s t. omega arith;
      stays = λ s t h. h;
      changed = λ s t. inl refl;
      falls = omega arith;
    }

pub steps_then : {b d b₁ d₁ b₂ d₂ : List ℕ} → Steps b d b₁ d₁ → Steps b₁ d₁ b₂ d₂ → Steps b d b₂ d₂
steps_then {b} {d} {b₁} {d₁} {b₂} {d₂} f g =
    record {
      size = g.size ∙ f.size;
      rows = g.rows ∙ f.rows;
      down = λ s t. let x = f.down s t in let y = g.down s t in omega arith;
      stays = λ s t h. g.stays s t (f.stays s t h);
      changed = λ s t. on s t (f.changed s t) (g.changed s t);
      falls = omega (arith, f.falls, g.falls);
    }
  where
    on : (s t : ℕ) → (cell b₁ s t ≡ cell b s t) ⊎ HasMark d₁ s t → (cell b₂ s t ≡ cell b₁ s t) ⊎ HasMark d₂ s t → (cell b₂ s t ≡ cell b s t) ⊎ HasMark d₂ s t
    on s t (inl x) (inl y) = inl (y ∙ x)
    on s t (inr x) y = inr (g.stays s t x)
    on s t (inl x) (inr y) = inr y

pub sized_after : {b d b' d' : List ℕ} → Sized b d → Steps b d b' d' → Sized b' d'
sized_after z f = record { numbers = f.size ∙ z.numbers; rows = f.rows ∙ z.rows }

pub sized_set : {b d : List ℕ} (s x : ℕ) → Sized b d → Sized b (set d s x)
sized_set {b} {d} s x z = record { numbers = z.numbers; rows = length-set d s x ∙ z.rows }

-- Candidates

pub lowers_none : {C : ℕ → ℕ → ℕ → Type 0} (b d : List ℕ) → ((s t v : ℕ) → C s t v → ⊥) → Lowers C b d b d
lowers_none b d never = record { steps = steps_none b d; origin = λ s t. inl refl; settled = λ s t v c. absurd (never s t v c) }

module _ {C₁ C₂ C : ℕ → ℕ → ℕ → Type 0} (left : (s t v : ℕ) → C₁ s t v → C s t v) (right : (s t v : ℕ) → C₂ s t v → C s t v)
    (either : (s t v : ℕ) → C s t v → C₁ s t v ⊎ C₂ s t v) where
  pub lowers_then : {b d b₁ d₁ b₂ d₂ : List ℕ} → Lowers C₁ b d b₁ d₁ → Lowers C₂ b₁ d₁ b₂ d₂ → Lowers C b d b₂ d₂
  lowers_then {b} {d} {b₁} {d₁} {b₂} {d₂} f g =
      record { steps = steps_then f.steps g.steps; origin = λ s t. from s t (f.origin s t) (g.origin s t); settled = λ s t v c. to s t v (either s t v c) }
    where
      from : (s t : ℕ) → (cell b₁ s t ≡ cell b s t) ⊎ C₁ s t (cell b₁ s t) → (cell b₂ s t ≡ cell b₁ s t) ⊎ C₂ s t (cell b₂ s t) → (cell b₂ s t ≡ cell b s t) ⊎ C s t (cell b₂ s t)
      from s t (inl x) (inl y) = inl (y ∙ x)
      from s t (inr x) (inl y) = inr (left s t (cell b₂ s t) (subst (λ (v : ℕ). C₁ s t v) (sym y) x))
      from s t x (inr y) = inr (right s t (cell b₂ s t) y)

      to : (s t v : ℕ) → C₁ s t v ⊎ C₂ s t v → cell b₂ s t ≤ v
      to s t v (inl x) = let h = f.settled s t v x in let k = g.steps.down s t in omega arith
      to s t v (inr y) = g.settled s t v y

pub lowers_as : {C C' : ℕ → ℕ → ℕ → Type 0} → ((s t v : ℕ) → C s t v → C' s t v) → ((s t v : ℕ) → C' s t v → C s t v) → {b d b' d' : List ℕ} → Lowers C b d b' d' → Lowers C' b d b' d'
lowers_as {C} {C'} there back {b} {d} {b'} {d'} f =
    record { steps = f.steps; origin = λ s t. on s t (f.origin s t); settled = λ s t v c. f.settled s t v (back s t v c) }
  where
    on : (s t : ℕ) → (cell b' s t ≡ cell b s t) ⊎ C s t (cell b' s t) → (cell b' s t ≡ cell b s t) ⊎ C' s t (cell b' s t)
    on s t (inl e) = inl e
    on s t (inr c) = inr (there s t (cell b' s t) c)

-- one candidate

module _ (b d : List ℕ) (s t v : ℕ) (row : s < 64) (column : t < 64) where
  pub lower_not : get_or b (s * 64 + t) 0 ≤ v → Lowers (One s t v) b d b d
  lower_not l = record { steps = steps_none b d; origin = λ s' t'. inl refl; settled = λ s' t' v' c. on s' t' v' c }
    where
      on : (s' t' v' : ℕ) → One s t v s' t' v' → cell b s' t' ≤ v'
      on s' t' v' c =
          let e : cell b s' t' ≡ cell b s t = ap (λ (x : ℕ). cell b x t') c.row ∙ ap (cell b s) c.column in
          let k = cell_inside b s t row column in
          omega (arith, c.value)

  module _ (sized : Sized b d) (less : v < get_or b (s * 64 + t) 0) {r : ℕ} (is : SetIs r (added (get_or d s 0) t) (λ p. In (get_or d s 0) p ⊎ ((p ≡ t) × (p < width)))) where
    fits : s * 64 + t < length b
    fits = omega (arith, sized.numbers)

    row_fits : s < length d
    row_fits = omega (arith, sized.rows)

    here : get_or (set d s r) s 0 ≡ r
    here = get_or-set_same d s r 0 row_fits

    now_less : Steps b d (set b (s * 64 + t) v) (set d s r)
    now_less =
        record {
          size = length-set b (s * 64 + t) v;
          rows = length-set d s r;
          down = λ s' t'. down s' t' (ℕ_discrete s' s) (ℕ_discrete t' t);
          stays = λ s' t' m. stays s' t' m (ℕ_discrete s' s);
          changed = λ s' t'. changed s' t' (ℕ_discrete s' s) (ℕ_discrete t' t);
          falls =
              let x = total_set b (s * 64 + t) v fits in
              let y = marked_set d s r row_fits in
              let z = added_more (get_or d s 0) t column in
              let w = ap ones is.value in
              omega arith;
        }
      where
        marks_here : (s' t' : ℕ) → s' ≡ s → In r t' → HasMark (set d s r) s' t'
        marks_here s' t' e m = subst (λ (x : ℕ). HasMark (set d s r) x t') (sym e) (subst (λ (x : ℕ). In x t') (sym here) m)

        down : (s' t' : ℕ) → Dec (s' ≡ s) → Dec (t' ≡ t) → cell (set b (s * 64 + t) v) s' t' ≤ cell b s' t'
        down s' t' (yes e) (yes k) =
            let x : cell (set b (s * 64 + t) v) s' t' ≡ cell (set b (s * 64 + t) v) s t = ap (λ (i : ℕ). cell (set b (s * 64 + t) v) i t') e ∙ ap (cell (set b (s * 64 + t) v) s) k in
            let y : cell b s' t' ≡ cell b s t = ap (λ (i : ℕ). cell b i t') e ∙ ap (cell b s) k in
            let z = cell_set_same b s t v row column fits in
            let w = cell_inside b s t row column in
            omega arith
        down s' t' (no f) k = let x = cell_set_other b s t v row column s' t' (λ z. f z.0) in omega arith
        down s' t' (yes e) (no f) = let x = cell_set_other b s t v row column s' t' (λ z. f z.1) in omega arith

        stays : (s' t' : ℕ) → HasMark d s' t' → Dec (s' ≡ s) → HasMark (set d s r) s' t'
        stays s' t' m (yes e) = marks_here s' t' e ((is.members t').1 (inl (subst (λ (x : ℕ). HasMark d x t') e m)))
        stays s' t' m (no f) = subst (λ (x : ℕ). In x t') (sym (get_or-set_other d s s' r 0 f)) m

        changed : (s' t' : ℕ) → Dec (s' ≡ s) → Dec (t' ≡ t) → (cell (set b (s * 64 + t) v) s' t' ≡ cell b s' t') ⊎ HasMark (set d s r) s' t'
        changed s' t' (yes e) (yes k) = inr (marks_here s' t' e ((is.members t').1 (inr (k, omega arith))))
        changed s' t' (no f) k = inl (cell_set_other b s t v row column s' t' (λ z. f z.0))
        changed s' t' (yes e) (no f) = inl (cell_set_other b s t v row column s' t' (λ z. f z.1))

    pub lower_is : Lowers (One s t v) b d (set b (s * 64 + t) v) (set d s r)
    lower_is = record { steps = now_less; origin = λ s' t'. from s' t' (ℕ_discrete s' s) (ℕ_discrete t' t); settled = λ s' t' v' c. on s' t' v' c }
      where
        value : (s' t' : ℕ) → s' ≡ s → t' ≡ t → cell (set b (s * 64 + t) v) s' t' ≡ v
        value s' t' e k = ap (λ (i : ℕ). cell (set b (s * 64 + t) v) i t') e ∙ ap (cell (set b (s * 64 + t) v) s) k ∙ cell_set_same b s t v row column fits

        from : (s' t' : ℕ) → Dec (s' ≡ s) → Dec (t' ≡ t) → (cell (set b (s * 64 + t) v) s' t' ≡ cell b s' t') ⊎ One s t v s' t' (cell (set b (s * 64 + t) v) s' t')
        from s' t' (yes e) (yes k) = inr (record { row = e; column = k; value = value s' t' e k })
        from s' t' (no f) k = inl (cell_set_other b s t v row column s' t' (λ z. f z.0))
        from s' t' (yes e) (no f) = inl (cell_set_other b s t v row column s' t' (λ z. f z.1))

        on : (s' t' v' : ℕ) → One s t v s' t' v' → cell (set b (s * 64 + t) v) s' t' ≤ v'
        on s' t' v' c = let e = value s' t' c.row c.column in omega (arith, c.value)

-- A loop over a set

pub lowest_inside : (x q : ℕ) → x < 2 ^ width → (x ≡ 0 → ⊥) → Lowest x q → q < 64
lowest_inside x q h some low = in_lt {w = width} {x = x} {q = q} h (low.member (omega arith))

pub taken : {x q r : ℕ} → x < 2 ^ width → (x ≡ 0 → ⊥) → Lowest x q → SetIs r (removed x (lowest_of x)) (λ p. In x p × (p ≡ lowest_of x → ⊥)) → Taken x q r
taken {x} {q} {r} h some low s = record { some = omega arith; state = lowest_inside x q h some low; lowest = low; member = low.member (omega arith); rest = lowest_removed low s }

-- what is left has fewer members
pub taken_fewer : {x q r : ℕ} → x < 2 ^ width → Taken x q r → ones r < ones x
taken_fewer {x} {q} {r} h k = drop_lowest x q r h k.some k.lowest k.rest.value

abbrev pub Left : ℕ → ℕ → ℕ → Type 0
Left set rest t = In set t × (In rest t → ⊥)

pub record Rest (set rest : ℕ) : Type 0 where
  pub fits : rest < 2 ^ width
  pub part : (t : ℕ) → In rest t → In set t

pub rest_start : (set : ℕ) → set < 2 ^ width → Rest set set
rest_start set h = record { fits = h; part = λ t m. m }

module _ {set rest rest' q : ℕ} (r : Rest set rest) (k : Taken rest q rest') where
  pub rest_more : Rest set rest'
  rest_more = record { fits = k.rest.fits; part = λ t m. r.part t ((k.rest.members t).0 m).0 }

  -- what is done then was done before, or is the member that was taken
  pub left_more : (t : ℕ) → Left set rest' t ↔ (Left set rest t ⊎ (t ≡ q))
  left_more t = (λ l. there l (in? rest t), back)
    where
      there : Left set rest' t → Dec (In rest t) → Left set rest t ⊎ (t ≡ q)
      there l (no f) = inl (l.0, f)
      there l (yes m) = here (ℕ_discrete t q)
        where
          here : Dec (t ≡ q) → Left set rest t ⊎ (t ≡ q)
          here (yes e) = inr e
          here (no f) = absurd (l.1 ((k.rest.members t).1 (m, f)))

      back : Left set rest t ⊎ (t ≡ q) → Left set rest' t
      back (inl l) = (l.0, λ m. l.1 ((k.rest.members t).0 m).0)
      back (inr e) = (r.part t (subst (λ (x : ℕ). In rest x) (sym e) k.member), λ m. ((k.rest.members t).0 m).1 e)

pub left_start : (set t : ℕ) → Left set set t → ⊥
left_start set t l = l.1 l.0

pub left_end : (set rest t : ℕ) → rest ≡ 0 → Left set rest t ↔ In set t
left_end set rest t e = (λ l. l.0, λ m. (m, λ k. empty_in t (subst (λ (x : ℕ). In x t) e k)))

-- The loop over the states of a row

module _ (s : ℕ) (p : List ℕ) where
  pub put_start : (set : ℕ) (b d : List ℕ) → Lowers (Put s (Left set set) p) b d b d
  put_start set b d = lowers_none b d (λ s' t v c. left_start set t c.holds)

  pub put_more : {set rest rest' q w : ℕ} {b d b₁ d₁ b₂ d₂ : List ℕ} → Rest set rest → Taken rest q rest' → w ≡ get_or p q 0
      → Lowers (Put s (Left set rest) p) b d b₁ d₁ → Lowers (One s q w) b₁ d₁ b₂ d₂ → Lowers (Put s (Left set rest') p) b d b₂ d₂
  put_more {set} {rest} {rest'} {q} {w} r k value f g = lowers_then left right either f g
    where
      left : (s' t v' : ℕ) → Put s (Left set rest) p s' t v' → Put s (Left set rest') p s' t v'
      left s' t v' c = record { row = c.row; holds = (left_more r k t).1 (inl c.holds); value = c.value }

      right : (s' t v' : ℕ) → One s q w s' t v' → Put s (Left set rest') p s' t v'
      right s' t v' c = record { row = c.row; holds = (left_more r k t).1 (inr c.column); value = c.value ∙ value ∙ ap (λ (i : ℕ). get_or p i 0) (sym c.column) }

      either : (s' t v' : ℕ) → Put s (Left set rest') p s' t v' → Put s (Left set rest) p s' t v' ⊎ One s q w s' t v'
      either s' t v' c = on ((left_more r k t).0 c.holds)
        where
          on : Left set rest t ⊎ (t ≡ q) → Put s (Left set rest) p s' t v' ⊎ One s q w s' t v'
          on (inl l) = inl (record { row = c.row; holds = l; value = c.value })
          on (inr e) = inr (record { row = c.row; column = e; value = c.value ∙ ap (λ (i : ℕ). get_or p i 0) e ∙ sym value })

  pub put_end : (set rest : ℕ) {b d b' d' : List ℕ} → rest ≡ 0 → Lowers (Put s (Left set rest) p) b d b' d' → Lowers (Put s (In set) p) b d b' d'
  put_end set rest e f =
      lowers_as (λ s' t v c. record { row = c.row; holds = (left_end set rest t e).0 c.holds; value = c.value })
      (λ s' t v c. record { row = c.row; holds = (left_end set rest t e).1 c.holds; value = c.value }) f

-- The loop over transitions

module _ (list : List ℕ) (may got : ℕ) (p : List ℕ) where
  pub spread_start : (lo : ℕ) (b d : List ℕ) → Lowers (Spread list lo lo may got p) b d b d
  spread_start lo b d = lowers_none b d (λ s t v (c : Spread list lo lo may got p s t v). omega (arith, c.from_on, c.below))

  pub spread_more : {lo k s : ℕ} {b d b₁ d₁ b₂ d₂ : List ℕ} → lo ≤ k → s ≡ get_or list (k * 3 + 2) 0 → Lowers (Spread list lo k may got p) b d b₁ d₁
      → Lowers (Enter may got p s) b₁ d₁ b₂ d₂ → Lowers (Spread list lo (k + 1) may got p) b d b₂ d₂
  spread_more {lo} {k} {s} le is f g = lowers_then left right either f g
    where
      left : (s' t v : ℕ) → Spread list lo k may got p s' t v → Spread list lo (k + 1) may got p s' t v
      left s' t v c =
          record { number = c.number; from_on = c.from_on; below = omega (arith, c.below); enters = c.enters; allowed = c.allowed; gathered = c.gathered; value = c.value }

      right : (s' t v : ℕ) → Enter may got p s s' t v → Spread list lo (k + 1) may got p s' t v
      right s' t v c =
          record {
            number = k;
            from_on = le;
            below = omega arith;
            enters = sym is ∙ sym c.put.row;
            allowed = subst (λ (x : ℕ). In may x) (sym c.put.row) c.allowed;
            gathered = c.put.holds;
            value = c.put.value;
          }

      either : (s' t v : ℕ) → Spread list lo (k + 1) may got p s' t v → Spread list lo k may got p s' t v ⊎ Enter may got p s s' t v
      either s' t v c = on (dec_lt c.number k)
        where
          on : Dec (c.number < k) → Spread list lo k may got p s' t v ⊎ Enter may got p s s' t v
          on (yes l) = inl (record { number = c.number; from_on = c.from_on; below = l; enters = c.enters; allowed = c.allowed; gathered = c.gathered; value = c.value })
          on (no f) =
              let e : c.number ≡ k = omega (arith, c.below) in
              let z : s' ≡ s = sym c.enters ∙ ap (λ (i : ℕ). get_or list (i * 3 + 2) 0) e ∙ sym is in
              inr (record { allowed = subst (λ (x : ℕ). In may x) z c.allowed; put = record { row = z; holds = c.gathered; value = c.value } })

  -- the loop's end, also where there is nothing to do
  pub spread_past : {lo hi k : ℕ} {b d b' d' : List ℕ} → (k ≡ lo) ⊎ (k ≤ hi) → hi ≤ k → Lowers (Spread list lo k may got p) b d b' d' → Lowers (Spread list lo hi may got p) b d b' d'
  spread_past {lo} {hi} {k} (inl e) le f =
      lowers_as (λ s t v (c : Spread list lo k may got p s t v). absurd (omega (arith, c.from_on, c.below)))
      (λ s t v (c : Spread list lo hi may got p s t v). absurd (omega (arith, c.from_on, c.below))) f
  spread_past {lo} {hi} {k} {b} {d} {b'} {d'} (inr l) le f = let e : k ≡ hi = omega arith in subst (λ (i : ℕ). Lowers (Spread list lo i may got p) b d b' d') e f

-- one transition

module _ (may got : ℕ) (p : List ℕ) (s : ℕ) where
  pub enter_not : (b d : List ℕ) → has may s ≡ false → Lowers (Enter may got p s) b d b d
  enter_not b d e = lowers_none b d (λ s' t v c. eqb-false (digit may s) 1 e c.allowed)

  pub enter_is : {b d b' d' : List ℕ} → has may s ≡ true → Lowers (Put s (In got) p) b d b' d' → Lowers (Enter may got p s) b d b' d'
  enter_is e f = lowers_as (λ s' t v c. record { allowed = (has_in may s).0 e; put = c }) (λ s' t v c. c.put) f
