-- The functions on sets that have no loop, case by case over plain variables.
--
-- members_is              == what stateset says of a set, as Members
-- members_as              == Members of an equivalent property
-- members_none            == the number 0 has no members
-- some_member             == any other number has one
-- none_other              == a set without another is empty: its members are members of the other
-- open_moves              == what open_union puts together
-- emptying_edges          == what step_set makes of a row of the table in emptying mode
-- begins_may              == where epsilon moves begin
-- read_none, advance_none, empty_none == the ways through read_set, advance, empty_copies where nothing is found
-- none_marked             == the start of kinds_of, for one kind
use Prim.Native.Nat.{ℕ, ◌+◌, ◌*◌, ◌/◌, ◌%◌, ◌^◌, ◌<◌}
use mathlib.Core.Path.{◌≡◌, sym, subst}
use mathlib.Core.Logic.{◌⊎◌, inl, inr}
use mathlib.Core.List.{List}
use native.Mathlib.Omega.{arith}
use lib.ListN.{get_or}
use lib.Count.{count_trailing_zeros}
use Rattle.stateset.specs.Set.{width, In, SetIs}
use Rattle.stateset.specs.Set.Laws.{in?, empty_in, lowest_in}
use Rattle.fsbm.specs.Machine.{mark_of}
use Rattle.fsbm.specs.declared.config.Mode.{Mode}
use Rattle.fsbm.specs.declared.config.Mode.TheVariants.{Emptying}
use Rattle.images.specs.Graph.{Members, From, Graph, Kind, May, Edge, Advance, EmptyCopy}
use Rattle.images.specs.Moves.{graph_of, Open}
use Rattle.images.specs.declared.targets.Targets.{Targets}

pub members_is : {r v : ℕ} {P : ℕ → Type 0} → SetIs r v P → Members r P
members_is s = record { fits = s.fits; members = s.members }

pub members_as : {r : ℕ} {P Q : ℕ → Type 0} → Members r P → ((q : ℕ) → P q → Q q) → ((q : ℕ) → Q q → P q) → Members r Q
members_as m to from = record { fits = m.fits; members = λ q. (λ h. to q ((m.members q).0 h), λ h. (m.members q).1 (from q h)) }

pub members_none : {P : ℕ → Type 0} → ((q : ℕ) → P q → ⊥) → Members 0 P
members_none no_one = record { fits = omega arith; members = λ q. (λ h. absurd (empty_in q h), λ h. absurd (no_one q h)) }

-- a number that is 0 has no members
pub none_in : {x : ℕ} → x ≡ 0 → (q : ℕ) → In x q → ⊥
none_in e q h = empty_in q (subst (λ (n : ℕ). In n q) e h)

pub some_member : (x : ℕ) → x < 2 ^ width → (x ≡ 0 → ⊥) → (q : ℕ) × In x q
some_member x fits n = (count_trailing_zeros width x, lowest_in width x (omega arith) fits)

-- where nothing of a set is left without another, the other has all its members
pub none_other : (a b d : ℕ) → Members d (λ q. In a q × (In b q → ⊥)) → d ≡ 0 → (q : ℕ) → In a q → In b q
none_other a b d diff e q h = at (in? b q)
  where
    at : Dec (In b q) → In b q
    at (yes y) = y
    at (no n) = absurd (none_in e q ((diff.members q).1 (h, n)))

-- the moves of a set by a row of the table: those of its matching states apart from the others

module _ (G : Graph) (row set : ℕ) where
  abbrev pub Has : ℕ → ℕ → Type 0
  Has p q = (p < G.states) × In (get_or G.targets (row + p) 0) q

  pub open_moves : (plain a matching b c r : ℕ) → Members plain (λ q. In set q × (In G.matching q → ⊥)) → Members a (From plain Has)
      → Members matching (λ q. In set q × In G.matching q) → Members b (From matching Has) → Members c (λ q. In b q × (In G.matching q → ⊥))
      → Members r (λ q. In a q ⊎ In c q) → Members r (From set (Open G row))
  open_moves plain a matching b c r plains hasA matchings bs cs s = members_as s to back
    where
      to : (q : ℕ) → In a q ⊎ In c q → From set (Open G row) q
      to q (inl m) =
          let z = (hasA.members q).0 m in
          let y = (plains.members z.0).0 z.1 in
          (z.0, y.0, (z.2, λ w. y.1 w.0))
      to q (inr m) =
          let v = (cs.members q).0 m in
          let z = (bs.members q).0 v.0 in
          let y = (matchings.members z.0).0 z.1 in
          (z.0, y.0, (z.2, λ w. v.1 w.1))

      from : (p q : ℕ) → In set p → Has p q → (In G.matching p × In G.matching q → ⊥) → Dec (In G.matching p) → In a q ⊎ In c q
      from p q i t n (yes e) = inr ((cs.members q).1 ((bs.members q).1 (p, (matchings.members p).1 (i, e), t), λ w. n (e, w)))
      from p q i t n (no e) = inl ((hasA.members q).1 (p, (plains.members p).1 (i, e), t))

      back : (q : ℕ) → From set (Open G row) q → In a q ⊎ In c q
      back q z = from z.0 q z.1 z.2.0 z.2.1 (in? G.matching z.0)

  -- they are the edges of a mode, where row is that of the letter x
  module _ (x : ℕ) (at : row ≡ 2 + G.states + x * G.states) where
    has_edge : {T : Mode} {p q : ℕ} → Has p q → May G.buffering G.matching T p q → Edge G T x p q
    has_edge {T} {p} {q} t m = record { state = t.0; target = subst (λ (n : ℕ). In (get_or G.targets (n + p) 0) q) at t.1; may = m }

    edge_has : {T : Mode} {p q : ℕ} → Edge G T x p q → Has p q
    edge_has {T} {p} {q} e = (e.state, subst (λ (n : ℕ). In (get_or G.targets (n + p) 0) q) (sym at) e.target)

    pub emptying_edges : (matching b r : ℕ) → Members matching (λ q. In set q × In G.matching q) → Members b (From matching Has) → Members r (λ q. In b q × In G.matching q)
        → Members r (From set (Edge G Emptying x))
    emptying_edges matching b r matchings bs s =
        members_as s
        (λ q v.
        let z = (bs.members q).0 v.0 in
        let y = (matchings.members z.0).0 z.1 in
        (z.0, y.0, has_edge z.2 (y.1, v.1)))
        (λ q z. let e = z.2 in ((bs.members q).1 (z.0, (matchings.members z.0).1 (z.1, e.may.0), edge_has e), e.may.1))

-- epsilon moves begin in the states of the table's first set
pub begins_may : (t : Targets) (T : Mode) (may : ℕ) → may ≡ get_or t.sets.now 0 0 → (p q : ℕ) → Edge (graph_of t) T 0 p q → In may p
begins_may t T may e p q m = subst (λ (y : ℕ). In y p) (sym e) (t.epsilons p q m.state m.target)

-- a letter of a word, and the epsilon moves after it

module _ (G : Graph) (T : Mode) (set x : ℕ) where
  pub read_none : x ≡ 0 → Members 0 (λ q. (0 < x) × From set (Edge G T x) q)
  read_none e = members_none (λ q (z : (0 < x) × From set (Edge G T x) q). absurd (omega (arith, z.0)))

  module _ (a : ℕ) (read : Members a (λ q. (0 < x) × From set (Edge G T x) q)) where
    pub advance_none : a ≡ 0 → Members 0 (From set (Advance G T x))
    advance_none e = members_none (λ q z. let v = z.2 in none_in e v.middle ((read.members v.middle).1 (v.letter, (z.0, z.1, v.edge))))

-- one copy of nothing

module _ (G : Graph) (set b : ℕ) (begun : Members b (λ q. In set q × In G.buffering q)) where
  pub empty_none : b ≡ 0 → Members 0 (From set (EmptyCopy G))
  empty_none e = members_none (λ q z. none_in e z.0 ((begun.members z.0).1 (z.1, z.2.begins)))

-- the states with one bit in their marks

pub none_marked : (marks : List ℕ) (b : ℕ) {r : ℕ} → r ≡ 0 → Kind marks 0 b r
none_marked marks b e = rw e (members_none (λ q (z : (q < 0) × (mark_of marks q / b % 2 ≡ 1)). absurd (omega (arith, z.0))))
