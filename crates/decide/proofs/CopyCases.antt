-- Walks that read a stretch of a word letter by letter, and the loops of walk_on and copies_from.
--
-- walk_forward        == a walk does not go back
-- walk_last           == a walk that reads something splits before its last letter
-- walk_before         == a walk passes every position on its way
-- walk_free           == a walk that reads nothing is epsilon moves
-- walk_matching       == an emptying walk from a matching state ends in one
-- walks_start, walks_turn, walks_to, walks_dead == the set of what walks reach: at the start, after one more letter, at an equal position,
--                        and where no state is left
-- tailed_start, tailed_on, tailed_anew == the tail before any walk, after a walk that goes on, and after one that begins anew
-- tailed_at           == what a tail has reached, of an equal set and an equal position
-- turning_all         == states that turn to matching are all of a set's that are matching
-- shared              == the members that a set shares with another
-- Copying             == the invariant of copies_from; copying_start, copying_turn, copying_pass, copying_dead, copying_end: it begins, one
--                        turn, one where no state turns to matching, its two ends
use Prim.Native.Nat.{ℕ, ◌+◌, ◌-◌, ◌^◌, ◌≤◌, ◌<◌}
use mathlib.Core.Path.{◌≡◌, refl, sym, ap, ◌∙◌, subst}
use mathlib.Core.Logic.{◌↔◌, ◌⊎◌, inl, inr}
use mathlib.Core.List.{List}
use native.Mathlib.Omega.{arith}
use native.Mathlib.Decide.{dec_le}
use lib.ListN.{length, get_or, set, length-set}
use lib.Bits.{bit_and, and_le_l}
use Rattle.stateset.specs.Set.{width, In}
use Rattle.stateset.specs.Set.Laws.{in_and}
use Rattle.fsbm.specs.declared.config.Mode.{Mode}
use Rattle.fsbm.specs.declared.config.Mode.TheVariants.{Buffering, Emptying}
use Rattle.subsets.specs.declared.Subset.{Subset}
use Rattle.decide.specs.declared.walks.Tail.{Tail}
use Rattle.images.specs.Graph.{Members, Fitting, From, here, more, Graph, Free, Advance}
use Rattle.decide.specs.Reach.{Walk, still, reads, Tailed, Square, LastSquare, CopyTo, Copied}
use Rattle.basics.specs.Lists.Laws.{set_cases}
use Rattle.images.proofs.SetCases.{members_as, members_none, none_in, some_member}

module _ {G : Graph} {w : List ℕ} {T : Mode} {i p : ℕ} where
  pub walk_forward : {j q : ℕ} → Walk G w T i p j q → i ≤ j
  walk_forward (still e f) = omega arith
  walk_forward (reads v lt a e) = let z = walk_forward v in omega arith

  pub walk_last : {k q : ℕ} (j : ℕ) → Walk G w T i p k q → k ≡ j + 1 → i ≤ j → (r : ℕ) × Walk G w T i p j r × Advance G T (get_or w j 0) r q
  walk_last j (still e f) k le = absurd (omega arith)
  walk_last {q = q} j (reads {j = j'} {q = r} v lt a e) k le =
      let same : j' ≡ j = omega arith in
      (r, subst (λ (n : ℕ). Walk G w T i p n r) same v, subst (λ (n : ℕ). Advance G T (get_or w n 0) r q) same a)

  pub walk_before : {k q : ℕ} (j : ℕ) → Walk G w T i p k q → i ≤ j → j ≤ k → (r : ℕ) × Walk G w T i p j r
  walk_before {q = q} j (still e f) le ge = (q, still {j = j} (omega arith) f)
  walk_before {q = q} j (reads {j = j'} v lt a e) le ge = at (dec_le j j') (walk_before j v le)
    where
      at : Dec (j ≤ j') → (j ≤ j' → (r : ℕ) × Walk G w T i p j r) → (r : ℕ) × Walk G w T i p j r
      at (yes y) f = f y
      at (no n) f = (q, reads {k = j} v lt a (omega arith))

pub walk_free : {G : Graph} {w : List ℕ} {T : Mode} {i p q : ℕ} → Walk G w T i p i q → Free G T p q
walk_free (still e f) = f
walk_free (reads v lt a e) = let z = walk_forward v in absurd (omega arith)

-- an emptying walk from a matching state ends in a matching state
free_matching : {G : Graph} {p q : ℕ} → In G.matching p → Free G Emptying p q → In G.matching q
free_matching h here = h
free_matching h (more f e) = e.may.1

pub walk_matching : {G : Graph} {w : List ℕ} {i p j q : ℕ} → In G.matching p → Walk G w Emptying i p j q → In G.matching q
walk_matching h (still e f) = free_matching h f
walk_matching h (reads v lt a e) = free_matching a.edge.may.1 a.free

module _ (G : Graph) (w : List ℕ) (T : Mode) (i : ℕ) where
  pub walks_start : (starts s : ℕ) → Members s (From starts (Free G T)) → Members s (From starts (λ p q. Walk G w T i p i q))
  walks_start starts s m = members_as m (λ q z. (z.0, z.1, still refl z.2)) (λ q z. (z.0, z.1, walk_free z.2))

  pub walks_turn : (starts s next j : ℕ) → i ≤ j → j < length w → Members s (From starts (λ p q. Walk G w T i p j q)) → Members next (From s (Advance G T (get_or w j 0)))
      → Members next (From starts (λ p q. Walk G w T i p (j + 1) q))
  walks_turn starts s next j le lt so_far m = members_as m
      (λ q z. let y = (so_far.members z.0).0 z.1 in (y.0, y.1, reads y.2 lt z.2 (omega arith)))
      (λ q z. let (r, v, a) = walk_last j z.2 refl le in (r, (so_far.members r).1 (z.0, z.1, v), a))

  pub walks_to : (starts s j k : ℕ) → j ≡ k → Members s (From starts (λ p q. Walk G w T i p j q)) → Members s (From starts (λ p q. Walk G w T i p k q))
  walks_to starts s j k e m = subst (λ (n : ℕ). Members s (From starts (λ p q. Walk G w T i p n q))) e m

  -- no state is left: no walk goes on
  pub walks_dead : (starts s j k : ℕ) → i ≤ j → j ≤ k → s ≡ 0 → Members s (From starts (λ p q. Walk G w T i p j q)) → Members s (From starts (λ p q. Walk G w T i p k q))
  walks_dead starts s j k le ge e so_far =
      subst (λ (x : ℕ). Members x (From starts (λ p q. Walk G w T i p k q))) (sym e)
      (members_none (λ q z. let (r, v) = walk_before j z.2 le ge in none_in e r ((so_far.members r).1 (z.0, z.1, v))))

-- a set that turns to matching is not empty, so there is a square
pub turning_all : (w : List ℕ) (i j s h r : ℕ) → Members r (λ q. Square w i j × (In s q × In h q)) → (r ≡ 0 → ⊥) → Members r (λ q. In s q × In h q)
turning_all w i j s h r m n =
    let (q, i) = some_member r m.fits n in
    let square = ((m.members q).0 i).0 in
    members_as m (λ q z. z.1) (λ q z. (square, z))

-- the members that a set shares with another
pub shared : (a b : ℕ) → a < 2 ^ width → Members (bit_and a b) (λ q. In a q × In b q)
shared a b f = record { fits = let l = and_le_l a b in omega arith; members = in_and a b }

module _ (G : Graph) (w : List ℕ) (i : ℕ) where
  pub tailed_start : Tailed G w i (record { ready = 0; position = i; reached = record { set = 0; row = 0 } })
  tailed_start = record { from = omega arith; walked = members_none (λ q z. none_in refl z.0 z.1) }

  pub tailed_at : (tail : Tail) (ready j : ℕ) → Tailed G w i tail → tail.ready ≡ ready → tail.position ≡ j → Members tail.reached.set (From ready (λ p q. Walk G w Emptying i p j q))
  tailed_at tail ready j so_far e at =
      walks_to G w Emptying i ready tail.reached.set tail.position j at
      (subst (λ (x : ℕ). Members tail.reached.set (From x (λ p q. Walk G w Emptying i p tail.position q))) e so_far.walked)

  pub tailed_on : (tail : Tail) (ready j : ℕ) (r : Subset) → Tailed G w i tail → tail.ready ≡ ready → tail.position ≤ j
      → ((o set : ℕ) → o ≤ tail.position → Members tail.reached.set (From set (λ p q. Walk G w Emptying o p tail.position q)) → Members r.set (From set (λ p q. Walk G w Emptying o p j q)))
      → Tailed G w i (record { ready = ready; position = j; reached = r })
  tailed_on tail ready j r so_far e le on =
      record {
        from = omega (arith, so_far.from);
        walked = on i ready so_far.from (tailed_at tail ready tail.position so_far e refl);
      }

  pub tailed_anew : (ready near j : ℕ) (r : Subset) → i ≤ j → Members near (From ready (Free G Emptying))
      → ((o set : ℕ) → o ≤ i → Members near (From set (λ p q. Walk G w Emptying o p i q)) → Members r.set (From set (λ p q. Walk G w Emptying o p j q)))
      → Tailed G w i (record { ready = ready; position = j; reached = r })
  tailed_anew ready near j r le m on = record { from = le; walked = on i ready (omega arith) (walks_start G w Emptying i ready near m) }

pub record Copying (G : Graph) (w : List ℕ) (i starts : ℕ) (a b : List ℕ) (j s last : ℕ) : Type 0 where
  pub from : i ≤ j
  pub within : j ≤ last
  pub squares : LastSquare w i last
  pub storing : Members s (From starts (λ p q. Walk G w Buffering i p j q))
  pub fitting : Fitting 256 b
  pub members : (k q : ℕ) → In (get_or b k 0) q ↔ (In (get_or a k 0) q ⊎ ((c : CopyTo G w i starts k q) × (c.end ≤ j)))

module _ (G : Graph) (w : List ℕ) (i starts : ℕ) (a : List ℕ) where
  pub copying_start : (s last : ℕ) → LastSquare w i last → Fitting 256 a → Members s (From starts (Free G Buffering)) → Copying G w i starts a a i s last
  copying_start s last sq fit m =
      record {
        from = omega arith;
        within = sq.from;
        squares = sq;
        storing = walks_start G w Buffering i starts s m;
        fitting = fit;
        members = λ k q. (λ h. inl h, back k q);
      }
    where
      back : (k q : ℕ) → In (get_or a k 0) q ⊎ ((c : CopyTo G w i starts k q) × (c.end ≤ i)) → In (get_or a k 0) q
      back k q (inl h) = h
      back k q (inr (c, le)) = let z = c.some in absurd (omega arith)

  module _ (b : List ℕ) (j s last : ℕ) (cp : Copying G w i starts a b j s last) where
    -- the loop ends where the last square ends
    pub copying_end : last ≤ j → Copied G w i starts a b
    copying_end le =
        record {
          fitting = cp.fitting;
          members = λ k q. (λ h. to k q ((cp.members k q).0 h), λ h. (cp.members k q).1 (back k q h));
        }
      where
        to : (k q : ℕ) → In (get_or a k 0) q ⊎ ((c : CopyTo G w i starts k q) × (c.end ≤ j)) → In (get_or a k 0) q ⊎ CopyTo G w i starts k q
        to k q (inl h) = inl h
        to k q (inr z) = inr z.0

        back : (k q : ℕ) → In (get_or a k 0) q ⊎ CopyTo G w i starts k q → In (get_or a k 0) q ⊎ ((c : CopyTo G w i starts k q) × (c.end ≤ j))
        back k q (inl h) = inl h
        back k q (inr c) = inr (c, at (dec_le c.end j))
          where
            at : Dec (c.end ≤ j) → c.end ≤ j
            at (yes y) = y
            at (no n) = let e = c.position in let f = c.inside in absurd (cp.squares.last c.end (omega arith) (omega arith) c.same)

    -- or where no state is left that stores
    pub copying_dead : s ≡ 0 → Copied G w i starts a b
    copying_dead e =
        record {
          fitting = cp.fitting;
          members = λ k q. (λ h. to k q ((cp.members k q).0 h), λ h. (cp.members k q).1 (back k q h));
        }
      where
        to : (k q : ℕ) → In (get_or a k 0) q ⊎ ((c : CopyTo G w i starts k q) × (c.end ≤ j)) → In (get_or a k 0) q ⊎ CopyTo G w i starts k q
        to k q (inl h) = inl h
        to k q (inr z) = inr z.0

        back : (k q : ℕ) → In (get_or a k 0) q ⊎ CopyTo G w i starts k q → In (get_or a k 0) q ⊎ ((c : CopyTo G w i starts k q) × (c.end ≤ j))
        back k q (inl h) = inl h
        back k q (inr c) = inr (c, at (dec_le c.end j))
          where
            at : Dec (c.end ≤ j) → c.end ≤ j
            at (yes y) = y
            at (no n) =
                let (r, v) = walk_before j c.storing cp.from (omega arith) in
                absurd (none_in e r ((cp.storing.members r).1 (c.from, c.begins, v)))

    -- one more letter is stored; ready are the states that turn to matching there
    module _ (next ready : ℕ) (lt : j < last) (m : Members next (From s (Advance G Buffering (get_or w j 0)))) (turning : Members ready (λ p. Square w i (j + 1) × (In next p × In G.matching p))) where
      reading : j < length w
      reading = let z = cp.squares.room in let y = cp.from in omega arith

      storing : Members next (From starts (λ p q. Walk G w Buffering i p (j + 1) q))
      storing = walks_turn G w Buffering i starts s next j cp.from reading cp.storing m

      wider : (k q : ℕ) → In (get_or a k 0) q ⊎ ((c : CopyTo G w i starts k q) × (c.end ≤ j)) → In (get_or a k 0) q ⊎ ((c : CopyTo G w i starts k q) × (c.end ≤ j + 1))
      wider k q (inl h) = inl h
      wider k q (inr z) = inr (z.0, omega (arith, z.1))

      -- a copy that stores up to here turns to matching in a state that is ready
      turns_here : (k q : ℕ) (c : CopyTo G w i starts k q) → c.end ≡ j + 1 → In ready c.middle
      turns_here k q c here-ends =
          let v = subst (λ (x : ℕ). Walk G w Buffering i c.from x c.middle) here-ends c.storing in
          let same = subst (λ (x : ℕ). Square w i x) here-ends c.same in
          (turning.members c.middle).1 (same, ((storing.members c.middle).1 (c.from, c.begins, v), c.turns))

      -- no state turns to matching: no copy ends
      pub copying_pass : ready ≡ 0 → Copying G w i starts a b (j + 1) next last
      copying_pass none =
          record {
            from = omega (arith, cp.from);
            within = omega arith;
            squares = cp.squares;
            storing = storing;
            fitting = cp.fitting;
            members = λ k q. (λ h. wider k q ((cp.members k q).0 h), λ h. (cp.members k q).1 (back k q h));
          }
        where
          back : (k q : ℕ) → In (get_or a k 0) q ⊎ ((c : CopyTo G w i starts k q) × (c.end ≤ j + 1)) → In (get_or a k 0) q ⊎ ((c : CopyTo G w i starts k q) × (c.end ≤ j))
          back k q (inl h) = inl h
          back k q (inr (c, le)) = inr (c, at (dec_le c.end j))
            where
              at : Dec (c.end ≤ j) → c.end ≤ j
              at (yes y) = y
              at (no o) = absurd (none_in none c.middle (turns_here k q c (omega arith)))

      pub copying_turn : (t u : ℕ) → Members t (From ready (λ p q. Walk G w Emptying i p (j + 1) q)) → Members u (λ q. In (get_or b (j + 1 + (j + 1 - i)) 0) q ⊎ In t q) → length w ≤ 255
          → Copying G w i starts a (set b (j + 1 + (j + 1 - i)) u) (j + 1) next last
      copying_turn t u emptying union short =
          record {
            from = omega (arith, cp.from);
            within = omega arith;
            squares = cp.squares;
            storing = storing;
            fitting = record {
              size = length-set b e u ∙ cp.fitting.size;
              each = set_cases b e u 0 inside (λ k y. y < 2 ^ width) union.fits (λ k n. cp.fitting.each k);
            };
            members = λ k q. set_cases b e u 0 inside (λ k y. In y q ↔ (In (get_or a k 0) q ⊎ ((c : CopyTo G w i starts k q) × (c.end ≤ j + 1)))) (at_end_lem q) (λ k n. (λ h. wider k q ((cp.members k q).0 h), λ h. (cp.members k q).1 (elsewhere k q n h))) k;
          }
        where
          e : ℕ
          e = j + 1 + (j + 1 - i)

          room : e ≤ length w
          room = let z = cp.squares.room in let y = cp.from in omega arith

          inside : e < length b
          inside = let z = cp.fitting.size in let y = room in omega arith

          elsewhere : (k q : ℕ) → (k ≡ e → ⊥) → In (get_or a k 0) q ⊎ ((c : CopyTo G w i starts k q) × (c.end ≤ j + 1)) → In (get_or a k 0) q ⊎ ((c : CopyTo G w i starts k q) × (c.end ≤ j))
          elsewhere k q n (inl h) = inl h
          elsewhere k q n (inr (c, le)) = inr (c, at (dec_le c.end j))
            where
              at : Dec (c.end ≤ j) → c.end ≤ j
              at (yes y) = y
              at (no o) =
                  let last_one : c.end ≡ j + 1 = omega arith in
                  absurd (n (c.position ∙ ap (λ (x : ℕ). x + (x - i)) last_one))

          to : (q : ℕ) → In (get_or b e 0) q ⊎ In t q → In (get_or a e 0) q ⊎ ((c : CopyTo G w i starts e q) × (c.end ≤ j + 1))
          to q (inl h) = wider e q ((cp.members e q).0 h)
          to q (inr h) =
              let (p, rp, y) = (emptying.members q).0 h in
              let (same, (sp, hp)) = (turning.members p).0 rp in
              let (o, oi, v) = (storing.members p).0 sp in
              inr (
                record {
                  from = o;
                  begins = oi;
                  end = j + 1;
                  some = omega (arith, cp.from);
                  middle = p;
                  storing = v;
                  turns = hp;
                  emptying = y;
                  same = same;
                  position = refl;
                  inside = room;
                },
                omega arith,
              )

          back : (q : ℕ) → In (get_or a e 0) q ⊎ ((c : CopyTo G w i starts e q) × (c.end ≤ j + 1)) → In (get_or b e 0) q ⊎ In t q
          back q (inl h) = inl ((cp.members e q).1 (inl h))
          back q (inr (c, le)) = at (dec_le c.end j)
            where
              at : Dec (c.end ≤ j) → In (get_or b e 0) q ⊎ In t q
              at (yes y) = inl ((cp.members e q).1 (inr (c, y)))
              at (no o) =
                  let last_one : c.end ≡ j + 1 = omega arith in
                  let y = subst (λ (x : ℕ). Walk G w Emptying i c.middle x q) last_one c.emptying in
                  inr ((emptying.members q).1 (c.middle, turns_here e q c last_one, y))

          at_end_lem : (q : ℕ) → In u q ↔ (In (get_or a e 0) q ⊎ ((c : CopyTo G w i starts e q) × (c.end ≤ j + 1)))
          at_end_lem q = (λ h. to q ((union.members q).0 h), λ h. (union.members q).1 (back q h))

-- no square starts at i: there is nothing to copy
pub copied_none : (G : Graph) (w : List ℕ) (i starts last : ℕ) (a : List ℕ) → LastSquare w i last → last ≤ i → Fitting 256 a → Copied G w i starts a a
copied_none G w i starts last a sq le fit = record { fitting = fit; members = λ k q. (λ h. inl h, back k q) }
  where
    back : (k q : ℕ) → In (get_or a k 0) q ⊎ CopyTo G w i starts k q → In (get_or a k 0) q
    back k q (inl h) = h
    back k q (inr c) = let e = c.position in let f = c.inside in let s = c.some in absurd (sq.last c.end (omega arith) (omega arith) c.same)
