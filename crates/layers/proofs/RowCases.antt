-- The ways through the functions of src/row.rt.
--
-- Glancing                       == what the loop of glance has seen
-- Least, least_turn, least_end   == the loop of least_of
-- least_low                      == a return of least_in
-- visit_seen, visit_live, visit_none == what visit asks of the row it lowers into, and its returns
-- lower_not, lower_is            == the returns of lower
use Prim.Native.Nat.{ℕ, suc, ◌+◌, ◌^◌, ◌≤◌, ◌<◌}
use mathlib.Core.Path.{◌≡◌, refl, sym, ap, ◌∙◌, subst}
use mathlib.Core.Bool.{Bool, true, false}
use mathlib.Core.List.{List}
use native.Mathlib.Omega.{arith}
use native.Mathlib.Decide.{ℕ_discrete, dec_lt, dec_le}
use Rattle.std.specs.Prelude.{min}
use Rattle.std.proofs.Math.Nat.{min-le_left, min-le_right, min-eq_left, min-eq_right}
use lib.ListN.{get_or, set}
use borrow.Author.Tests.{le-ltb, lt-ltb}
use Rattle.stateset.specs.Set.{width, In, SetIs, Taken}
use Rattle.stateset.specs.Set.Laws.{empty_in, lowest_in}
use Rattle.fsbm.specs.declared.config.Mode.{Mode}
use Rattle.fsbm.specs.declared.machine.Machine.{Machine}
use Rattle.images.specs.Graph.{set_of, May}
use Rattle.targets.specs.Prepared.{Row}
use Rattle.layers.specs.declared.row.Sum.{Sum}
use Rattle.layers.specs.Costs.{none, at}
use Rattle.layers.specs.Rows.Laws.{visit_lowers, target_below}
use Rattle.layers.specs.Rows.{Given, lowered, Lowered, Lowering, Through, Only, Cut, Glance, Seen, LeastOf}

-- A row at a glance

-- what is seen of the states below k
pub record Glancing (row : List ℕ) (k least live lows : ℕ) : Type 0 where
  pub lives : (q : ℕ) → q < k → at row q < none → In live q
  pub lowest : (q : ℕ) → In lows q → at row q ≡ least

-- The least number of a set: the rest is still to do

pub record Least (row : List ℕ) (set rest least : ℕ) : Type 0 where
  pub fits : rest < 2 ^ width
  pub inside : (q : ℕ) → In rest q → In set q
  pub small : least ≤ none
  pub below : (q : ℕ) → In set q → (In rest q → ⊥) → least ≤ at row q
  pub real : least < none → (q : ℕ) × In set q × (least ≡ at row q)

module _ (row : List ℕ) (set : ℕ) where
  pub least_turn : {rest a rest' least : ℕ} → Least row set rest least → Taken rest a rest' → Least row set rest' (min least (at row a))
  least_turn {rest} {a} {rest'} {least} s t =
      let x = min-le_left least (at row a) in
      let y = min-le_right least (at row a) in
      record {
        fits = t.rest.fits;
        inside = λ q i. s.inside q ((t.rest.members q).0 i).0;
        small = omega (arith, s.small, x);
        below = λ q i n. at_one q i n (ℕ_discrete q a);
        real = λ l. from l (dec_le least (at row a));
      }
    where
      at_one : (q : ℕ) → In set q → (In rest' q → ⊥) → Dec (q ≡ a) → min least (at row a) ≤ at row q
      at_one q i n (yes e) = let k : at row q ≡ at row a = ap (at row) e in omega (arith, min-le_right least (at row a))
      at_one q i n (no d) = omega (arith, min-le_left least (at row a), s.below q i (λ h. n ((t.rest.members q).1 (h, d))))

      from : min least (at row a) < none → Dec (least ≤ at row a) → (q : ℕ) × In set q × (min least (at row a) ≡ at row q)
      from l (yes e) = let m = min-eq_left e in let (q, i, k) = s.real (omega arith) in (q, i, m ∙ k)
      from l (no e) = (a, s.inside a t.member, min-eq_right (omega arith))

  pub least_end : {rest least : ℕ} → Least row set rest least → rest ≡ 0 → LeastOf row set least
  least_end s e = record { small = s.small; below = λ q i. s.below q i (λ h. empty_in q (subst (λ (n : ℕ). In n q) e h)); real = s.real }

pub least_low : (row : List ℕ) (s : Sum) (set low : ℕ) {v : ℕ} → Seen row set s → SetIs low v (λ q. In set q × In s.lows q) → (low ≡ 0 → ⊥) → LeastOf row set s.least
least_low row s set low seen sh n =
    let i = lowest_in width low (omega arith) sh.fits in
    let (a, b) = (sh.members _).0 i in
    record { small = seen.small; below = λ q h. seen.least q h; real = λ l. (_, a, sym (seen.lows _ b)) }

-- The transitions of one state: live has those of its targets that have a number

module _ (m : Machine) (list targets : List ℕ) (g h : ℕ) (given : Given m list targets g h) (t : Mode) (x a : ℕ) (below : a < m.states) (row_of : Row m list targets x)
    (next : List ℕ) (s : Sum) (glance : Glance next m.states s) (live : ℕ) {w : ℕ} (both : SetIs live w (λ q. In (get_or targets (set_of m.states x a) 0) q × In s.live q)) where
  live_below : (q : ℕ) → In live q → q < m.states
  live_below q i = target_below m list targets g h given x a below row_of q ((both.members q).0 i).0

  pub visit_seen : (r : ℕ) → Cut g h t a live r → s.least ≤ none → Seen next r s
  visit_seen r cut small = record { small = small; least = λ q i. glance.least q (live_below q ((cut q).0 i).0); lows = glance.lows }

  pub visit_live : (r v : ℕ) → Cut g h t a live r → LeastOf next r v → (row row' : List ℕ) (b : Bool) → Lowered row a v row' b → Lowering (Only (Through m list t x next) a) row row' b
  visit_live r v cut least =
      visit_lowers m list targets g h given t x a next below row_of v least.small
      (λ l. let (q, i, e) = least.real l in let z = (cut q).0 i in (q, ((both.members q).0 z.0).0, z.1, e))
      (λ q i may. on q i may (dec_lt (at next q) none))
    where
      on : (q : ℕ) → In (get_or targets (set_of m.states x a) 0) q → May g h t a q → Dec (at next q < none) → v ≤ at next q
      on q i may (yes l) = least.below q ((cut q).1 ((both.members q).1 (i, glance.live q (target_below m list targets g h given x a below row_of q i) l), may))
      on q i may (no l) = omega (arith, least.small)

  pub visit_none : live ≡ 0 → (row row' : List ℕ) (b : Bool) → Lowered row a none row' b → Lowering (Only (Through m list t x next) a) row row' b
  visit_none z =
      visit_live 0 none (λ q. (λ i. absurd (empty_in q i), λ i. absurd (empty_in q (subst (λ (n : ℕ). In n q) z i.0))))
      (record { small = omega arith; below = λ q i. absurd (empty_in q i); real = λ (l : none < none). absurd (omega arith) })

-- One number

module _ (row : List ℕ) (a v e : ℕ) (is : e ≡ min (v + 1) none) where
  pub lower_not : at row a ≤ e → at row a ≤ none → Lowered row a v row false
  unfolding lowered
  lower_not le small = record { told = sym (le-ltb (suc v) (at row a) (omega (arith, min-le_left (v + 1) none))); is = refl; small = small }

  pub lower_is : e < at row a → at row a ≤ none → Lowered row a v (set row a e) true
  unfolding lowered
  lower_is lt small =
      let z : e ≡ suc v = omega (arith, on (dec_le (v + 1) none)) in
      record { told = sym (lt-ltb (suc v) (at row a) (omega arith)); is = ap (set row a) z; small = small }
    where
      on : Dec (v + 1 ≤ none) → e ≡ v + 1
      on (yes l) = is ∙ min-eq_left l
      on (no n) = let k : min (v + 1) none ≡ none = min-eq_right (omega arith) in absurd (omega arith)
