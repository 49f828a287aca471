-- The loops of copies_at and copies: storing that begins at i, letter by letter, and the starts one after the other.
--
-- Stored, Matched == what copies_at adds, up to storing that ends below j
-- Copying G w i near a b a' b' j s == its invariant: s are the states that store at j
-- copying_start, copying_again, copying_dead, copying_over == it begins; one letter more; the ends: no state, no letter
-- copies_start, copies_again, copies_end == the starts: none, one more, all
use Prim.Native.Nat.{ℕ, ◌+◌, ◌≤◌, ◌<◌}
use mathlib.Core.Path.{◌≡◌, subst}
use mathlib.Core.Logic.{◌⊎◌, inl, inr}
use mathlib.Core.List.{List}
use native.Mathlib.Omega.{arith}
use native.Mathlib.Decide.{dec_lt}
use lib.ListN.{length, get_or, set}
use Rattle.stateset.specs.Set.{In}
use Rattle.fsbm.specs.declared.config.Mode.TheVariants.{Buffering}
use Rattle.images.specs.Graph.{Members, From, Fitting, Graph, Free, Advance}
use Rattle.decide.specs.Reach.{Walk, MatchingFrom}
use Rattle.decide.proofs.CopyCases.{walk_forward}
use Rattle.reach.specs.Copies.{Added, StoreTo, MatchTo, SomeStore, SomeMatch}
use Rattle.reach.proofs.AddedCases.{added_none, added_as, added_put, added_then, Begins, begins_start, begins_turn, begins_dead}
use Rattle.reach.proofs.MatchCases.{All}

abbrev pub Stored : Graph → List ℕ → ℕ → ℕ → ℕ → ℕ → ℕ → Type 0
Stored G w i near j p q = StoreTo G w i near p q × (p < j)

abbrev pub Matched : Graph → List ℕ → ℕ → ℕ → ℕ → ℕ → ℕ → Type 0
Matched G w i near j p q = (z : MatchTo G w i near p q) × (z.end < j)

pub record Copying (G : Graph) (w : List ℕ) (i near : ℕ) (a b a' b' : List ℕ) (j s : ℕ) : Type 0 where
  pub from : i ≤ j
  pub inside : j ≤ length w
  pub walks : Members s (Begins G w Buffering i G.buffering near j)
  pub stored : Added a b (Stored G w i near j)
  pub matched : Added a' b' (Matched G w i near j)

module _ (G : Graph) (w : List ℕ) (i near : ℕ) (a a' : List ℕ) where
  pub copying_start : (s : ℕ) → i ≤ length w → Fitting 256 a → Fitting 256 a' → Members s (From near (λ o q. In G.buffering o × Free G Buffering o q)) → Copying G w i near a a a' a' i s
  copying_start s le fit fit' m =
      record {
        from = omega arith;
        inside = le;
        walks = begins_start G w Buffering i G.buffering near s m;
        stored = added_none fit (λ p q z. let ge = walk_forward z.0.storing in let lt = z.1 in absurd (omega arith));
        matched = added_none fit' (λ p q z. let ge = walk_forward z.0.stored.storing in let lt = z.1 in absurd (omega arith));
      }

  -- nothing is stored from j on
  all_stored : (b : List ℕ) (j : ℕ) → Added a b (Stored G w i near j) → ((p q : ℕ) → StoreTo G w i near p q → j ≤ p → ⊥) → Added a b (StoreTo G w i near)
  all_stored b j d none = added_as d (λ p q z. z.0) (λ p q z. (z, of p q z (dec_lt p j)))
    where
      of : (p q : ℕ) → StoreTo G w i near p q → Dec (p < j) → p < j
      of p q z (yes y) = y
      of p q z (no n) = absurd (none p q z (omega arith))

  all_matched : (b' : List ℕ) (j : ℕ) → Added a' b' (Matched G w i near j) → ((p q : ℕ) → StoreTo G w i near p q → j ≤ p → ⊥) → Added a' b' (MatchTo G w i near)
  all_matched b' j d none = added_as d (λ p q z. z.0) (λ p q z. (z, of p q z (dec_lt z.end j)))
    where
      of : (p q : ℕ) (z : MatchTo G w i near p q) → Dec (z.end < j) → z.end < j
      of p q z (yes y) = y
      of p q z (no n) = absurd (none z.end z.middle z.stored (omega arith))

  module _ (b b' : List ℕ) (j s : ℕ) (at : Copying G w i near a b a' b' j s) where
    pub copying_dead : s ≡ 0 → Added a b (StoreTo G w i near) × Added a' b' (MatchTo G w i near)
    copying_dead e = (all_stored b j at.stored none, all_matched b' j at.matched none)
      where
        none : (p q : ℕ) → StoreTo G w i near p q → j ≤ p → ⊥
        none p q z ge = begins_dead G w Buffering i G.buffering near s j z.first p q e at.walks at.from ge z.begins z.stores z.storing

    module _ (u : ℕ) (c' : List ℕ) (short : length w ≤ 255) (union : Members u (λ q. In (get_or b j 0) q ⊎ In s q)) (more : Added b' c' (All G w i j s)) where
      store_of : (q : ℕ) → In s q → StoreTo G w i near j q
      store_of q h = let (o, inside, begun) = (at.walks.members q).0 h in record { first = o; begins = inside; stores = begun.0; storing = begun.1; inside = at.inside }

      of_store : (p q : ℕ) → p ≡ j → StoreTo G w i near p q → In s q
      of_store p q e z = (at.walks.members q).1 (z.first, z.begins, (z.stores, subst (λ (x : ℕ). Walk G w Buffering i z.first x q) e z.storing))

      stored_next : Added a (set b j u) (Stored G w i near (j + 1))
      stored_next =
          added_put j s u at.stored (let z = at.inside in omega arith) union (λ p q z. (z.0, let y = z.1 in omega arith)) (λ q h. (store_of q h, omega arith))
          (λ p q z. which p q z (dec_lt p j))
        where
          which : (p q : ℕ) → Stored G w i near (j + 1) p q → Dec (p < j) → Stored G w i near j p q ⊎ ((p ≡ j) × In s q)
          which p q z (yes y) = inl (z.0, y)
          which p q z (no n) = let e : p ≡ j = let y = z.1 in omega arith in inr (e, of_store p q e z.0)

      matched_next : Added a' c' (Matched G w i near (j + 1))
      matched_next =
          added_then at.matched more (λ p q z. (z.0, let y = z.1 in omega arith))
          (λ p q z. (record { end = j; middle = z.0; stored = store_of z.0 z.1; matching = z.2 }, omega arith))
          (λ p q z. which p q z (dec_lt z.0.end j))
        where
          which : (p q : ℕ) (z : Matched G w i near (j + 1) p q) → Dec (z.0.end < j) → Matched G w i near j p q ⊎ All G w i j s p q
          which p q z (yes y) = inl (z.0, y)
          which p q z (no n) =
              let e : z.0.end ≡ j = let y = z.1 in omega arith in
              inr (z.0.middle, of_store z.0.end z.0.middle e z.0.stored, subst (λ (x : ℕ). MatchingFrom G w i x z.0.middle p q) e z.0.matching)

      pub copying_over : length w ≤ j → Added a (set b j u) (StoreTo G w i near) × Added a' c' (MatchTo G w i near)
      copying_over le = (all_stored (set b j u) (j + 1) stored_next none, all_matched c' (j + 1) matched_next none)
        where
          none : (p q : ℕ) → StoreTo G w i near p q → j + 1 ≤ p → ⊥
          none p q z ge = let y = z.inside in omega arith

      pub copying_again : (next : ℕ) → j < length w → Members next (From s (Advance G Buffering (get_or w j 0))) → Copying G w i near a (set b j u) a' c' (j + 1) next
      copying_again next lt m =
          record {
            from = let z = at.from in omega arith;
            inside = omega arith;
            walks = begins_turn G w Buffering i G.buffering near s next j at.from lt at.walks m;
            stored = stored_next;
            matched = matched_next;
          }

-- The starts

module _ (G : Graph) (w normal : List ℕ) where
  pub copies_start : (a a' : List ℕ) → Fitting 256 a → Fitting 256 a' → Added a a (SomeStore G w normal 0) × Added a' a' (SomeMatch G w normal 0)
  copies_start a a' fit fit' = (added_none fit (λ p q z. let y = z.1 in absurd (omega arith)), added_none fit' (λ p q z. let y = z.1 in absurd (omega arith)))

  -- what starts at i is added
  one_more : {P : ℕ → ℕ → ℕ → Type 0} {a b c : List ℕ} (i : ℕ) → Added a b (λ p q. (o : ℕ) × (o < i) × P o p q) → Added b c (P i) → Added a c (λ p q. (o : ℕ) × (o < i + 1) × P o p q)
  one_more {P} i d e =
      added_then d e (λ p q z. (z.0, let y = z.1 in omega arith, z.2)) (λ p q z. (i, omega arith, z)) (λ p q z. which p q z (dec_lt z.0 i))
    where
      which : (p q : ℕ) (z : (o : ℕ) × (o < i + 1) × P o p q) → Dec (z.0 < i) → ((o : ℕ) × (o < i) × P o p q) ⊎ P i p q
      which p q z (yes y) = inl (z.0, y, z.2)
      which p q z (no n) = let e : z.0 ≡ i = let y = z.1 in omega arith in inr (subst (λ (x : ℕ). P x p q) e z.2)

  pub copies_again : (a b c a' b' c' : List ℕ) (i : ℕ) → Added a b (SomeStore G w normal i) × Added a' b' (SomeMatch G w normal i) → Added b c (StoreTo G w i (get_or normal i 0))
      → Added b' c' (MatchTo G w i (get_or normal i 0)) → Added a c (SomeStore G w normal (i + 1)) × Added a' c' (SomeMatch G w normal (i + 1))
  copies_again a b c a' b' c' i d e e' = (
    one_more {P = λ o p q. StoreTo G w o (get_or normal o 0) p q} i d.0 e,
    one_more {P = λ o p q. MatchTo G w o (get_or normal o 0) p q} i d.1 e',
  )

  pub copies_end : (a b a' b' : List ℕ) (i n : ℕ) → i ≡ n → Added a b (SomeStore G w normal i) × Added a' b' (SomeMatch G w normal i) → Added a b (SomeStore G w normal n) × Added a' b' (SomeMatch G w normal n)
  copies_end a b a' b' i n e d = subst (λ (x : ℕ). Added a b (SomeStore G w normal x) × Added a' b' (SomeMatch G w normal x)) e d
