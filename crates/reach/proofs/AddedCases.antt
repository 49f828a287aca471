-- Sets to which states are added, and the walks that a set begins.
--
-- added_none   == nothing is added
-- added_as     == the same said otherwise
-- added_put    == one set becomes its union with another
-- added_then   == first some, then others
-- Begins G w T i kind set k q == in mode T the letters from i up to k lead to q from a state of the set that is of the kind
-- begins_start, begins_turn, begins_dead == the states that are begun with; one letter more; where there is none there is none later
use Prim.Native.Nat.{ℕ, suc, ◌+◌, ◌≤◌, ◌<◌}
use mathlib.Core.Path.{◌≡◌, refl}
use mathlib.Core.Logic.{◌↔◌, ◌⊎◌, inl, inr}
use mathlib.Core.List.{List}
use native.Mathlib.Omega.{arith}
use lib.ListN.{length, get_or, set}
use Rattle.basics.specs.Lists.Laws.{set_cases}
use Rattle.stateset.specs.Set.{In}
use Rattle.fsbm.specs.declared.config.Mode.{Mode}
use Rattle.images.specs.Graph.{Members, From, Fitting, Graph, Free, Advance}
use Rattle.images.proofs.SetCases.{members_as, none_in}
use Rattle.decide.specs.Reach.{Walk, still, reads}
use Rattle.decide.proofs.CopyCases.{walk_last, walk_before, walk_free}
use Rattle.decide.proofs.StageCases.{fitting_set}
use Rattle.reach.specs.Copies.{Added}

pub added_none : {a : List ℕ} {P : ℕ → ℕ → Type 0} → Fitting 256 a → ((p q : ℕ) → P p q → ⊥) → Added a a P
added_none {a} {P} fit none = record { fitting = fit; members = λ p q. (λ h. inl h, back p q) }
  where
    back : (p q : ℕ) → In (get_or a p 0) q ⊎ P p q → In (get_or a p 0) q
    back p q (inl h) = h
    back p q (inr z) = absurd (none p q z)

pub added_as : {a b : List ℕ} {P Q : ℕ → ℕ → Type 0} → Added a b P → ((p q : ℕ) → P p q → Q p q) → ((p q : ℕ) → Q p q → P p q) → Added a b Q
added_as {a} {b} {P} {Q} d to of = record { fitting = d.fitting; members = λ p q. (λ h. on p q ((d.members p q).0 h), λ h. (d.members p q).1 (back p q h)) }
  where
    on : (p q : ℕ) → In (get_or a p 0) q ⊎ P p q → In (get_or a p 0) q ⊎ Q p q
    on p q (inl h) = inl h
    on p q (inr z) = inr (to p q z)

    back : (p q : ℕ) → In (get_or a p 0) q ⊎ Q p q → In (get_or a p 0) q ⊎ P p q
    back p q (inl h) = inl h
    back p q (inr z) = inr (of p q z)

-- x is what is added to the set of position at
pub added_put : {a b : List ℕ} {P Q : ℕ → ℕ → Type 0} (at x u : ℕ) → Added a b P → at < 256 → Members u (λ q. In (get_or b at 0) q ⊎ In x q) → ((p q : ℕ) → P p q → Q p q)
    → ((q : ℕ) → In x q → Q at q) → ((p q : ℕ) → Q p q → P p q ⊎ ((p ≡ at) × In x q)) → Added a (set b at u) Q
added_put {a} {b} {P} {Q} at x u d lt union old new of =
    record {
      fitting = fitting_set b at u d.fitting lt union.fits;
      members = λ p q. set_cases b at u 0 inside (λ p y. In y q ↔ (In (get_or a p 0) q ⊎ Q p q)) (λ h. here q ((union.members q).0 h), λ h. (union.members q).1 (here_back q h))
          (λ p n. (λ h. on p q ((d.members p q).0 h), λ h. (d.members p q).1 (elsewhere p q n h))) p;
    }
  where
    inside : at < length b
    inside = let z = d.fitting.size in omega arith

    on : (p q : ℕ) → In (get_or a p 0) q ⊎ P p q → In (get_or a p 0) q ⊎ Q p q
    on p q (inl h) = inl h
    on p q (inr z) = inr (old p q z)

    here : (q : ℕ) → In (get_or b at 0) q ⊎ In x q → In (get_or a at 0) q ⊎ Q at q
    here q (inl h) = on at q ((d.members at q).0 h)
    here q (inr h) = inr (new q h)

    here_back : (q : ℕ) → In (get_or a at 0) q ⊎ Q at q → In (get_or b at 0) q ⊎ In x q
    here_back q (inl h) = inl ((d.members at q).1 (inl h))
    here_back q (inr z) = which (of at q z)
      where
        which : P at q ⊎ ((at ≡ at) × In x q) → In (get_or b at 0) q ⊎ In x q
        which (inl y) = inl ((d.members at q).1 (inr y))
        which (inr y) = inr y.1

    elsewhere : (p q : ℕ) → (p ≡ at → ⊥) → In (get_or a p 0) q ⊎ Q p q → In (get_or a p 0) q ⊎ P p q
    elsewhere p q n (inl h) = inl h
    elsewhere p q n (inr z) = which (of p q z)
      where
        which : P p q ⊎ ((p ≡ at) × In x q) → In (get_or a p 0) q ⊎ P p q
        which (inl y) = inr y
        which (inr y) = absurd (n y.0)

pub added_then : {a b c : List ℕ} {P Q R : ℕ → ℕ → Type 0} → Added a b P → Added b c Q → ((p q : ℕ) → P p q → R p q) → ((p q : ℕ) → Q p q → R p q)
    → ((p q : ℕ) → R p q → P p q ⊎ Q p q) → Added a c R
added_then {a} {b} {c} {P} {Q} {R} d e first second of =
    record { fitting = e.fitting; members = λ p q. (λ h. on p q ((e.members p q).0 h), λ h. (e.members p q).1 (back p q h)) }
  where
    before : (p q : ℕ) → In (get_or a p 0) q ⊎ P p q → In (get_or a p 0) q ⊎ R p q
    before p q (inl h) = inl h
    before p q (inr z) = inr (first p q z)

    on : (p q : ℕ) → In (get_or b p 0) q ⊎ Q p q → In (get_or a p 0) q ⊎ R p q
    on p q (inl h) = before p q ((d.members p q).0 h)
    on p q (inr z) = inr (second p q z)

    back : (p q : ℕ) → In (get_or a p 0) q ⊎ R p q → In (get_or b p 0) q ⊎ Q p q
    back p q (inl h) = inl ((d.members p q).1 (inl h))
    back p q (inr z) = which (of p q z)
      where
        which : P p q ⊎ Q p q → In (get_or b p 0) q ⊎ Q p q
        which (inl y) = inl ((d.members p q).1 (inr y))
        which (inr y) = inr y

-- Walks that a set begins

abbrev pub Begins : Graph → List ℕ → Mode → ℕ → ℕ → ℕ → ℕ → ℕ → Type 0
Begins G w T i kind set k = From set (λ o q. In kind o × Walk G w T i o k q)

module _ (G : Graph) (w : List ℕ) (T : Mode) (i kind set : ℕ) where
  pub begins_start : (s : ℕ) → Members s (From set (λ o q. In kind o × Free G T o q)) → Members s (Begins G w T i kind set i)
  begins_start s m = members_as m (λ q z. (z.0, z.1, (z.2.0, still refl z.2.1))) (λ q z. (z.0, z.1, (z.2.0, walk_free z.2.1)))

  pub begins_turn : (s next k : ℕ) → i ≤ k → k < length w → Members s (Begins G w T i kind set k) → Members next (From s (Advance G T (get_or w k 0)))
      → Members next (Begins G w T i kind set (k + 1))
  begins_turn s next k le lt so_far m =
      members_as m
      (λ q z. let (o, so, begun) = (so_far.members z.0).0 z.1 in (o, so, (begun.0, reads begun.1 lt z.2 (let e : k + 1 ≡ suc k = omega arith in e))))
      (λ q z. let (r, v, a) = walk_last k z.2.1 refl le in (r, (so_far.members r).1 (z.0, z.1, (z.2.0, v)), a))

  pub begins_dead : (s k o j q : ℕ) → s ≡ 0 → Members s (Begins G w T i kind set k) → i ≤ k → k ≤ j → In set o → In kind o → Walk G w T i o j q → ⊥
  begins_dead s k o j q e m le ge so ho v = let (r, y) = walk_before k v le ge in none_in e r ((m.members r).1 (o, so, (ho, y)))
