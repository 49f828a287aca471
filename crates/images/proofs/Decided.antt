-- Whether moves lead from one state to another is decided by trying all: so a table needs to hold no more than the bare fact that its
-- closures are right, and a proof finds the moves again.
--
-- stable       == what is decided, and cannot be false, is so
-- some_below   == whether P holds of a number below n
-- image        == the image of a set under a relation that is decided
-- star?        == whether a state is reached from another by steps that are decided
-- edge?, free?, empty_copy?, turn? == the moves of a table of targets
-- closed_again == what a table is said to have, with the moves
use Prim.Native.Nat.{ℕ, zero, suc, ◌-◌, ◌^◌, ◌≤◌, ◌<◌}
use mathlib.Core.Path.{◌≡◌, refl, subst}
use mathlib.Core.Logic.{◌⊎◌, inl, inr}
use mathlib.Core.Bool.{Bool, true, false}
use native.Mathlib.Omega.{arith}
use native.Mathlib.Decide.{ℕ_discrete, dec_lt}
use lib.Bits.{bit_or}
use lib.Count.{ones}
use lib.ListN.{get_or}
use Rattle.std.proofs.Math.Logic.{∥∥₁_elim, ∥∥₁_map}
use Rattle.std.proofs.lemmas.Bool.{false≢true}
use Rattle.stateset.specs.Set.{width, In, added, without, collected, SetIs}
use Rattle.stateset.specs.Set.Laws.{in?, in_lt, collected_is, without_is, union_is, single_is}
use Rattle.fsbm.specs.declared.config.Mode.{Mode}
use Rattle.fsbm.specs.declared.config.Mode.TheVariants.{Normal, Buffering, Emptying}
use Rattle.images.specs.Graph.{Members, From, Star, here, more, Graph, May, Edge, Free, EmptyCopy, Turn, closure_of, Closed}
use Rattle.images.proofs.SetCases.{members_is}
use Rattle.images.proofs.Sweeps.{Closing, closing_start, closing_turn, closing_less, closing_end}

pub stable : {A : Type 0} → Dec A → ∥ A ∥₁ → A
stable (yes a) h = a
stable (no f) h = absurd (∥∥₁_elim h (λ a b. absurd a) f)

pub not? : {A : Type 0} → Dec A → Dec (A → ⊥)
not? (yes a) = no (λ f. f a)
not? (no f) = yes f

pub and? : {A B : Type 0} → Dec A → Dec B → Dec (A × B)
and? (yes a) (yes b) = yes (a, b)
and? (yes a) (no f) = no (λ z. f z.1)
and? (no f) b = no (λ z. f z.0)

pub or? : {A B : Type 0} → Dec A → Dec B → Dec (A ⊎ B)
or? (yes a) b = yes (inl a)
or? (no f) (yes b) = yes (inr b)
or? {A} {B} (no f) (no g) = no neither
  where
    neither : A ⊎ B → ⊥
    neither (inl a) = f a
    neither (inr b) = g b

pub dec_as : {A B : Type 0} → (A → B) → (B → A) → Dec A → Dec B
dec_as to from (yes a) = yes (to a)
dec_as to from (no f) = no (λ b. f (from b))

pub some_below : (P : ℕ → Type 0) → ((p : ℕ) → Dec (P p)) → (n : ℕ) → Dec ((p : ℕ) × (p < n) × P p)
some_below P d zero = no (λ (z : (p : ℕ) × (p < 0) × P p). absurd (omega (arith, z.1)))
some_below P d (suc n) = at (d n) (some_below P d n)
  where
    other : (P n → ⊥) → ((p : ℕ) × (p < n) × P p → ⊥) → (p : ℕ) → p < suc n → P p → Dec (p ≡ n) → ⊥
    other f g p lt h (yes e) = f (subst P e h)
    other f g p lt h (no ne) = g (p, omega arith, h)

    at : Dec (P n) → Dec ((p : ℕ) × (p < n) × P p) → Dec ((p : ℕ) × (p < suc n) × P p)
    at (yes h) r = yes (n, omega arith, h)
    at (no f) (yes z) = yes (z.0, (let l = z.1 in omega arith), z.2)
    at (no f) (no g) = no (λ z. other f g z.0 z.1 z.2 (ℕ_discrete z.0 n))

-- a relation between states that is decided

module _ (R : ℕ → ℕ → Type 0) (r? : (p q : ℕ) → Dec (R p q)) (low : (p q : ℕ) → R p q → q < width) where
  from? : (set q : ℕ) → Dec ((p : ℕ) × (p < width) × (In set p × R p q))
  from? set q = some_below (λ p. In set p × R p q) (λ p. and? (in? set p) (r? p q)) width

  unfoldable is_yes : {A : Type 0} → Dec A → Bool
  is_yes (yes a) = true
  is_yes (no f) = false

  yes_is : {A : Type 0} (d : Dec A) → is_yes d ≡ true → A
  unfolding is_yes
  yes_is (yes a) e = a
  yes_is (no f) e = absurd (false≢true e)

  is_so : {A : Type 0} (d : Dec A) → A → is_yes d ≡ true
  unfolding is_yes
  is_so (yes a) h = refl
  is_so (no f) h = absurd (f h)

  image : ℕ → ℕ
  image set = collected width (λ q. is_yes (from? set q))

  image_is : (set : ℕ) → set < 2 ^ width → Members (image set) (From set R)
  unfolding image
  image_is set fits = record { fits = s.fits; members = λ q. (λ m. to q ((s.members q).0 m), λ z. (s.members q).1 (back q z)) }
    where
      s : SetIs (image set) (image set) (λ q. (q < width) × (q < width) × (is_yes (from? set q) ≡ true))
      s = collected_is width (λ q. is_yes (from? set q))

      to : (q : ℕ) → (q < width) × (q < width) × (is_yes (from? set q) ≡ true) → From set R q
      to q k = let z = yes_is (from? set q) k.2 in (z.0, z.2.0, z.2.1)

      back : (q : ℕ) → From set R q → (q < width) × (q < width) × (is_yes (from? set q) ≡ true)
      back q z =
          let l = low z.0 q z.2 in
          (l, l, is_so (from? set q) (z.0, in_lt {w = width} {x = set} {q = z.0} fits z.1, (z.1, z.2)))

  turn : (fuel set all new : ℕ) → Closing R set all new → width - ones all ≤ fuel
      → ((u d : ℕ) → Closing R set u d → width - ones u < fuel → (r : ℕ) × Members r (From set (Star R))) → (r : ℕ) × Members r (From set (Star R))
  turn fuel set all new c le go_on = at (ℕ_discrete d 0)
    where
      i : Members (image new) (From new R)
      i = image_is new c.new_fits

      d : ℕ
      d = without (image new) all

      diff : Members d (λ q. In (image new) q × (In all q → ⊥))
      diff = members_is (without_is (image new) all i.fits c.all_fits)

      u : SetIs (bit_or all d) (bit_or all d) (λ q. In all q ⊎ In d q)
      u = union_is all d c.all_fits diff.fits

      at : Dec (d ≡ 0) → (r : ℕ) × Members r (From set (Star R))
      at (yes e) = (all, closing_end R set all new (image new) d c i diff e)
      at (no f) =
          let l = closing_less R set all new (image new) d c i diff (bit_or all d) u (members_is u) f in
          go_on (bit_or all d) d (closing_turn R set all new (image new) d c i diff (bit_or all d) (members_is u)) (omega arith)

  close : (fuel set all new : ℕ) → Closing R set all new → width - ones all ≤ fuel → (r : ℕ) × Members r (From set (Star R))
  close zero set all new c le = turn zero set all new c le (λ all new c le. absurd (omega arith))
  close (suc n) set all new c le = turn (suc n) set all new c le (λ all new c le. close n set all new c (omega arith))

  pub star? : (p q : ℕ) → p < width → Dec (Star R p q)
  star? p q lt = at (in? z.0 q)
    where
      s : SetIs (added 0 p) (added 0 p) (λ q. (q ≡ p) × (q < width))
      s = single_is 0 p (added 0 p) refl refl

      z : (r : ℕ) × Members r (From (added 0 p) (Star R))
      z = close width (added 0 p) (added 0 p) (added 0 p) (closing_start R (added 0 p) s.fits) (omega arith)

      at : Dec (In z.0 q) → Dec (Star R p q)
      at (yes m) =
          let y = (z.1.members q).0 m in
          yes (subst (λ (n : ℕ). Star R n q) ((s.members y.0).0 y.1).0 y.2)
      at (no f) = no (λ h. f ((z.1.members q).1 (p, (s.members p).1 (refl, lt), h)))

  pub star_low : {p q : ℕ} → p < width → Star R p q → q < width
  star_low lt here = lt
  star_low lt (more {q = q} {r = r} h e) = low q r e

-- the moves of a table

module _ (G : Graph) (few : G.states ≤ width) (each : (i : ℕ) → get_or G.targets i 0 < 2 ^ width) (storing : G.buffering < 2 ^ width) (matching : G.matching < 2 ^ width) where
  may? : (T : Mode) (p q : ℕ) → Dec (May G.buffering G.matching T p q)
  may? Normal p q = and? (not? (and? (in? G.matching p) (in? G.matching q))) (not? (in? G.buffering p))
  may? Buffering p q = and? (not? (and? (in? G.matching p) (in? G.matching q))) (not? (in? G.buffering q))
  may? Emptying p q = and? (in? G.matching p) (in? G.matching q)

  pub edge? : (T : Mode) (x p q : ℕ) → Dec (Edge G T x p q)
  edge? T x p q =
      dec_as (λ z. record { state = z.0; target = z.1.0; may = z.1.1 }) (λ e. (e.state, (e.target, e.may)))
      (and? (dec_lt p G.states) (and? (in? _ q) (may? T p q)))

  pub edge_low : (T : Mode) (x p q : ℕ) → Edge G T x p q → q < width
  edge_low T x p q e = in_lt (each _) e.target

  pub free? : (T : Mode) (p q : ℕ) → p < width → Dec (Free G T p q)
  free? T = star? (Edge G T 0) (edge? T 0) (edge_low T 0)

  -- a copy of nothing by way of a matching state
  abbrev By : ℕ → ℕ → ℕ → Type 0
  By p q m = (m < width) × (Free G Buffering p m × (In G.matching m × Free G Emptying m q))

  by? : (p q m : ℕ) → p < width → Dec (By p q m)
  by? p q m lt = at (dec_lt m width)
    where
      at : Dec (m < width) → Dec (By p q m)
      at (yes l) = and? (yes l) (and? (free? Buffering p m lt) (and? (in? G.matching m) (free? Emptying m q l)))
      at (no f) = no (λ z. f z.0)

  pub empty_copy? : (p q : ℕ) → Dec (EmptyCopy G p q)
  empty_copy? p q = at (in? G.buffering p)
    where
      at : Dec (In G.buffering p) → Dec (EmptyCopy G p q)
      at (no f) = no (λ c. f c.begins)
      at (yes b) =
          dec_as
          (λ z. record { begins = b; middle = z.0; storing = z.2.1.0; turns = z.2.1.1.0; emptying = z.2.1.1.1 })
          (λ c. let l = in_lt matching c.turns in (c.middle, l, (l, (c.storing, (c.turns, c.emptying)))))
          (some_below (By p q) (λ m. by? p q m (in_lt storing b)) width)

  pub turn? : (p q : ℕ) → Dec (Turn G p q)
  turn? p q = or? (edge? Normal 0 p q) (empty_copy? p q)

  turn_low : (p q : ℕ) → Turn G p q → q < width
  turn_low p q (inl e) = edge_low Normal 0 p q e
  turn_low p q (inr c) = star_low (Edge G Emptying 0) (edge? Emptying 0) (edge_low Emptying 0) (in_lt matching c.turns) c.emptying

  -- the facts of a closure that are no more than one, and those of a state that it has
  state_of : (p : ℕ) → Closed G.targets G.states G.buffering G.matching p → p < G.states
  state_of p z = z.state

  to_star : (p q : ℕ) → In (get_or G.targets (closure_of p) 0) q → Closed G.targets G.states G.buffering G.matching p → Star (Turn G) p q
  to_star p q m z = (z.closure.members q).0 m

  of_star : (p q : ℕ) → Star (Turn G) p q → Closed G.targets G.states G.buffering G.matching p → In (get_or G.targets (closure_of p) 0) q
  of_star p q s z = (z.closure.members q).1 s

  pub closed_again : (p : ℕ) → ∥ Closed G.targets G.states G.buffering G.matching p ∥₁ → Closed G.targets G.states G.buffering G.matching p
  closed_again p h =
      record {
        state = state;
        closure = record {
          fits = each (closure_of p);
          members = λ q. (
            λ m. stable (star? (Turn G) turn? turn_low p q (let l = state in omega arith)) (∥∥₁_map h (to_star p q m)),
            λ s. stable (in? (get_or G.targets (closure_of p) 0) q) (∥∥₁_map h (of_star p q s)),
          );
        };
      }
    where
      state : p < G.states
      state = stable (dec_lt p G.states) (∥∥₁_map h (state_of p))
