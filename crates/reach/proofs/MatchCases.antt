-- The loop of match_from: matching that begins at j, letter by letter.
--
-- Upto G w i j set k p q   == matching from a state of the set is in state q at position p, with the letters up to one below k taken from the buffer
-- Matching G w i j set a b k p near == the invariant: the letters from i up to k stand also from j on, and near are the states there
-- matching_start, matching_put, matching_again == it begins; the states are put into their set; one letter more
-- matching_dead, matching_taken, matching_over, matching_differs == the ends: no state, no letter left in the buffer, none in the word, another letter
use Prim.Native.Nat.{ℕ, ◌+◌, ◌-◌, ◌≤◌, ◌<◌}
use mathlib.Core.Path.{◌≡◌, sym, ap, ◌∙◌, subst}
use mathlib.Core.Logic.{◌⊎◌, inl, inr}
use mathlib.Core.List.{List}
use native.Mathlib.Omega.{arith}
use native.Mathlib.Decide.{ℕ_discrete, dec_lt}
use lib.ListN.{length, get_or, set}
use Rattle.stateset.specs.Set.{In}
use Rattle.fsbm.specs.declared.config.Mode.TheVariants.{Emptying}
use Rattle.images.specs.Graph.{Members, From, Fitting, Graph, Free, Advance}
use Rattle.decide.specs.Reach.{Walk, MatchingFrom}
use Rattle.decide.proofs.CopyCases.{walk_forward}
use Rattle.reach.specs.Copies.{Added}
use Rattle.reach.proofs.AddedCases.{added_none, added_as, added_put, Begins, begins_start, begins_turn, begins_dead}

pub record Upto (G : Graph) (w : List ℕ) (i j states k p q : ℕ) : Type 0 where
  pub first : ℕ
  pub begins : In states first
  pub matching : MatchingFrom G w i j first p q
  pub before : matching.taken < k

abbrev pub All : Graph → List ℕ → ℕ → ℕ → ℕ → ℕ → ℕ → Type 0
All G w i j states p = From states (λ o q. MatchingFrom G w i j o p q)

pub record Matching (G : Graph) (w : List ℕ) (i j states : ℕ) (a b : List ℕ) (k p near : ℕ) : Type 0 where
  pub from : i ≤ k
  pub behind : k ≤ j
  pub position : p ≡ j + (k - i)
  pub inside : p ≤ length w
  pub same : (t : ℕ) → t < k - i → get_or w (i + t) 0 ≡ get_or w (j + t) 0
  pub walks : Members near (Begins G w Emptying i G.matching states k)
  pub added : Added a b (Upto G w i j states k)

module _ (G : Graph) (w : List ℕ) (i j states : ℕ) (a : List ℕ) where
  pub matching_start : (near : ℕ) → i ≤ j → j ≤ length w → Fitting 256 a → Members near (From states (λ o q. In G.matching o × Free G Emptying o q)) → Matching G w i j states a a i j near
  matching_start near le inside fit m =
      record {
        from = omega arith;
        behind = le;
        position = omega arith;
        inside = inside;
        same = λ t (l : t < i - i). absurd (omega arith);
        walks = begins_start G w Emptying i G.matching states near m;
        added = added_none fit (λ p q z. let ge = walk_forward z.matching.emptying in let lt = z.before in absurd (omega arith));
      }

  -- nothing goes on from k
  all_of : (b : List ℕ) (k : ℕ) → Added a b (Upto G w i j states k) → ((p q o : ℕ) → In states o → (z : MatchingFrom G w i j o p q) → k ≤ z.taken → ⊥) → Added a b (All G w i j states)
  all_of b k d none = added_as d (λ p q z. (z.first, z.begins, z.matching)) (λ p q z. of p q z (dec_lt z.2.taken k))
    where
      of : (p q : ℕ) (z : All G w i j states p q) → Dec (z.2.taken < k) → Upto G w i j states k p q
      of p q z (yes y) = record { first = z.0; begins = z.1; matching = z.2; before = y }
      of p q z (no n) = absurd (none p q z.0 z.1 z.2 (omega arith))

  module _ (b : List ℕ) (k p near : ℕ) (at : Matching G w i j states a b k p near) where
    pub matching_dead : near ≡ 0 → Added a b (All G w i j states)
    matching_dead e = all_of b k at.added (λ p' q o so z ge. begins_dead G w Emptying i G.matching states near k o z.taken q e at.walks at.from ge so z.turns z.emptying)

    module _ (u : ℕ) (short : length w ≤ 255) (union : Members u (λ q. In (get_or b p 0) q ⊎ In near q)) where
      matching_put : Added a (set b p u) (Upto G w i j states (k + 1))
      matching_put =
          added_put p near u at.added (let z = at.inside in omega arith) union
          (λ p' q z. record { first = z.first; begins = z.begins; matching = z.matching; before = let y = z.before in omega arith })
          new old
        where
          new : (q : ℕ) → In near q → Upto G w i j states (k + 1) p q
          new q h =
              let (o, so, begun) = (at.walks.members q).0 h in
              record {
                first = o;
                begins = so;
                matching = record { turns = begun.0; taken = k; behind = at.behind; emptying = begun.1; same = at.same; position = at.position; inside = at.inside };
                before = omega arith;
              }

          old : (p' q : ℕ) → Upto G w i j states (k + 1) p' q → Upto G w i j states k p' q ⊎ ((p' ≡ p) × In near q)
          old p' q z = which (dec_lt z.matching.taken k)
            where
              which : Dec (z.matching.taken < k) → Upto G w i j states k p' q ⊎ ((p' ≡ p) × In near q)
              which (yes y) = inl (record { first = z.first; begins = z.begins; matching = z.matching; before = y })
              which (no n) =
                  let here : z.matching.taken ≡ k = let y = z.before in omega arith in
                  let v = subst (λ (x : ℕ). Walk G w Emptying i z.first x q) here z.matching.emptying in
                  inr (
                    z.matching.position ∙ (ap (λ (x : ℕ). j + (x - i)) here ∙ sym at.position),
                    (at.walks.members q).1 (z.first, z.begins, (z.matching.turns, v)),
                  )

      pub matching_taken : j ≤ k → Added a (set b p u) (All G w i j states)
      matching_taken le = all_of (set b p u) (k + 1) matching_put (λ p' q o so z ge. let y = z.behind in absurd (omega arith))

      pub matching_over : length w ≤ p → Added a (set b p u) (All G w i j states)
      matching_over le =
          all_of (set b p u) (k + 1) matching_put
          (λ p' q o so z (ge : k + 1 ≤ z.taken). let y = z.position in let x = z.inside in let e = at.position in let f = at.from in absurd (omega arith))

      pub matching_differs : (get_or w p 0 ≡ get_or w k 0 → ⊥) → Added a (set b p u) (All G w i j states)
      matching_differs n = all_of (set b p u) (k + 1) matching_put (λ p' q o so z (ge : k + 1 ≤ z.taken). n (equal q o z ge))
        where
          equal : {p' : ℕ} (q o : ℕ) (z : MatchingFrom G w i j o p' q) → k + 1 ≤ z.taken → get_or w p 0 ≡ get_or w k 0
          equal q o z ge =
              let f = at.from in
              let back : i + (k - i) ≡ k = omega arith in
              ap (λ (x : ℕ). get_or w x 0) at.position ∙ (sym (z.same (k - i) (omega arith)) ∙ ap (λ (x : ℕ). get_or w x 0) back)

      pub matching_again : (next : ℕ) → k < j → p < length w → get_or w p 0 ≡ get_or w k 0 → Members next (From near (Advance G Emptying (get_or w k 0)))
          → Matching G w i j states a (set b p u) (k + 1) (p + 1) next
      matching_again next lt more same m =
          let f = at.from in
          let e = at.position in
          record {
            from = omega arith;
            behind = omega arith;
            position = omega arith;
            inside = omega arith;
            same = λ t (l : t < k + 1 - i). one t (ℕ_discrete t (k - i)) l;
            walks = begins_turn G w Emptying i G.matching states near next k f (let y = at.position in let z = at.behind in omega arith) at.walks m;
            added = matching_put;
          }
        where
          one : (t : ℕ) → Dec (t ≡ k - i) → t < k + 1 - i → get_or w (i + t) 0 ≡ get_or w (j + t) 0
          one t (yes y) l =
              let f = at.from in
              let first : i + t ≡ k = omega arith in
              let second : p ≡ j + t = let e = at.position in omega arith in
              ap (λ (x : ℕ). get_or w x 0) first ∙ (sym same ∙ ap (λ (x : ℕ). get_or w x 0) second)
          one t (no n) l = at.same t (let f = at.from in omega arith)
