-- Loops over the members of a set, and fixpoints, for any relation.
--
-- Swept     == the invariant of a loop that takes a set's members one by one and unites their images
-- part_image, no_image == the image of a set is that of its members from which steps can begin; there is none where it has none
-- Closing   == the invariant of a closure that looks only at the members that came last
-- Placing   == the invariant of a closure under two relations in turns, that looks for the second only at the members that came last
-- rows_united == the sets that a row has for the members of a set, united
-- ..-start, ..-turn, ..-less, ..-end == each begins, one turn, its measure, its end
use Prim.Native.Nat.{ℕ, ◌-◌, ◌^◌, ◌<◌}
use mathlib.Core.Path.{◌≡◌, refl, subst}
use mathlib.Core.Logic.{◌⊎◌, inl, inr}
use native.Mathlib.Decide.{ℕ_discrete}
use lib.Bits.{bit_or}
use lib.Count.{ones}
use Rattle.stateset.specs.Set.{width, In, SetIs, Taken}
use Rattle.stateset.specs.Set.Laws.{in?, union_grows}
use Rattle.images.specs.Graph.{Members, From, Star, here, more}
use Rattle.images.proofs.SetCases.{members_is, members_as, members_none, none_in, some_member}

pub star_join : {R : ℕ → ℕ → Type 0} {p q r : ℕ} → Star R p q → Star R q r → Star R p r
star_join a here = a
star_join a (more b e) = more (star_join a b) e

pub record Swept (R : ℕ → ℕ → Type 0) (set rest image : ℕ) : Type 0 where
  pub fits : rest < 2 ^ width
  pub part : (q : ℕ) → In rest q → In set q
  pub members : Members image (λ q. (p : ℕ) × In set p × (In rest p → ⊥) × R p q)

module _ (R : ℕ → ℕ → Type 0) (set : ℕ) where
  pub swept_start : (image : ℕ) → set < 2 ^ width → Members image (λ q. ⊥) → Swept R set set image
  swept_start image fits s = record { fits = fits; part = λ q h. h; members = members_as s (λ q z. absurd z) (λ q z. z.2 z.1) }

  pub swept_add : (rest image p next u : ℕ) → Swept R set rest image → In rest p → Members next (λ q. In rest q × (q ≡ p → ⊥)) → Members u (λ q. In image q ⊎ R p q)
      → Swept R set next u
  swept_add rest image p next u s at without union =
      record {
        fits = without.fits;
        part = λ q h. s.part q ((without.members q).0 h).0;
        members = members_as union to back;
      }
    where
      to : (q : ℕ) → In image q ⊎ R p q → (p : ℕ) × In set p × (In next p → ⊥) × R p q
      to q (inl h) = let z = (s.members.members q).0 h in (z.0, z.1, (λ y. z.2 ((without.members z.0).0 y).0), z.3)
      to q (inr h) = (p, s.part p at, (λ y. ((without.members p).0 y).1 refl), h)

      back : (q : ℕ) → (p : ℕ) × In set p × (In next p → ⊥) × R p q → In image q ⊎ R p q
      back q z = same (ℕ_discrete z.0 p)
        where
          same : Dec (z.0 ≡ p) → In image q ⊎ R p q
          same (yes e) = inr (subst (λ (n : ℕ). R n q) e z.3)
          same (no n) = inl ((s.members.members q).1 (z.0, z.1, (λ y. z.2 ((without.members z.0).1 (y, n))), z.3))

  pub swept_turn : (rest image p next i u : ℕ) → Swept R set rest image → In rest p → Members next (λ q. In rest q × (q ≡ p → ⊥)) → Members i (R p)
      → Members u (λ q. In image q ⊎ In i q) → Swept R set next u
  swept_turn rest image p next i u s at without images union = swept_add rest image p next u s at without (members_as union to back)
    where
      to : (q : ℕ) → In image q ⊎ In i q → In image q ⊎ R p q
      to q (inl h) = inl h
      to q (inr h) = inr ((images.members q).0 h)

      back : (q : ℕ) → In image q ⊎ R p q → In image q ⊎ In i q
      back q (inl h) = inl h
      back q (inr h) = inr ((images.members q).1 h)

  -- a turn of the loop over the members
  pub swept_taken : {rest image p next i u : ℕ} → Swept R set rest image → Taken rest p next → Members i (R p) → Members u (λ q. In image q ⊎ In i q)
      → Swept R set next u
  swept_taken {rest} {image} {p} {next} {i} {u} s t = swept_turn rest image p next i u s t.member (members_is t.rest)

  pub swept_end : (rest image : ℕ) → Swept R set rest image → rest ≡ 0 → Members image (From set R)
  swept_end rest image s e = members_as s.members (λ q z. (z.0, z.1, z.3)) (λ q z. (z.0, z.1, none_in e z.0, z.2))

-- where every R-step from a set begins in a state of another, only the states of both matter
module _ (R : ℕ → ℕ → Type 0) (set may part : ℕ) (both : Members part (λ q. In set q × In may q)) (only : (p q : ℕ) → R p q → In may p) where
  pub part_image : (step : ℕ) → Members step (From part R) → Members step (From set R)
  part_image step m =
      members_as m (λ q z. (z.0, ((both.members z.0).0 z.1).0, z.2)) (λ q z. (z.0, (both.members z.0).1 (z.1, only z.0 q z.2), z.2))

  pub no_image : part ≡ 0 → Members 0 (From set R)
  no_image e = members_none (λ q z. none_in e z.0 ((both.members z.0).1 (z.1, only z.0 q z.2)))

pub record Closing (R : ℕ → ℕ → Type 0) (set all new : ℕ) : Type 0 where
  pub all_fits : all < 2 ^ width
  pub new_fits : new < 2 ^ width
  pub holds : (q : ℕ) → In set q → In all q
  pub part : (q : ℕ) → In new q → In all q
  pub sound : (q : ℕ) → In all q → From set (Star R) q
  pub closed : (p q : ℕ) → In all p → (In new p → ⊥) → R p q → In all q

module _ (R : ℕ → ℕ → Type 0) (set : ℕ) where
  pub closing_start : set < 2 ^ width → Closing R set set set
  closing_start fits =
      record {
        all_fits = fits;
        new_fits = fits;
        holds = λ q h. h;
        part = λ q h. h;
        sound = λ q h. (q, h, here);
        closed = λ p q h n. absurd (n h);
      }

  module _ (all new step d : ℕ) (c : Closing R set all new) (image : Members step (From new R)) (diff : Members d (λ q. In step q × (In all q → ⊥))) where
    -- a step from the set leads into the set or to what came new
    leads : (p q : ℕ) → In all p → R p q → In all q ⊎ In d q
    leads p q h e = at (in? new p) (in? all q)
      where
        at : Dec (In new p) → Dec (In all q) → In all q ⊎ In d q
        at n (yes y) = inl y
        at (no n) (no o) = inl (c.closed p q h n e)
        at (yes n) (no o) = inr ((diff.members q).1 ((image.members q).1 (p, n, e), o))

    pub closing_turn : (u : ℕ) → Members u (λ q. In all q ⊎ In d q) → Closing R set u d
    closing_turn u union =
        record {
          all_fits = union.fits;
          new_fits = diff.fits;
          holds = λ q h. (union.members q).1 (inl (c.holds q h));
          part = λ q h. (union.members q).1 (inr h);
          sound = λ q h. sound q ((union.members q).0 h);
          closed = λ p q h n e. closed p q ((union.members p).0 h) n e;
        }
      where
        sound : (q : ℕ) → In all q ⊎ In d q → From set (Star R) q
        sound q (inl h) = c.sound q h
        sound q (inr h) =
            let z = (image.members q).0 ((diff.members q).0 h).0 in
            let y = c.sound z.0 (c.part z.0 z.1) in
            (y.0, y.1, more y.2 z.2)

        closed : (p q : ℕ) → In all p ⊎ In d p → (In d p → ⊥) → R p q → In u q
        closed p q (inl h) n e = (union.members q).1 (leads p q h e)
        closed p q (inr h) n e = absurd (n h)

    pub closing_less : (u : ℕ) {P : ℕ → Type 0} → SetIs u (bit_or all d) P → Members u (λ q. In all q ⊎ In d q) → (d ≡ 0 → ⊥) → width - ones u < width - ones all
    closing_less u value union some =
        union_grows all d u union.fits value.value
        (λ (e : u ≡ all). let m = some_member d diff.fits some in ((diff.members m.0).0 m.1).1 (subst (λ (n : ℕ). In n m.0) e ((union.members m.0).1 (inr m.1))))

    pub closing_end : d ≡ 0 → Members all (From set (Star R))
    closing_end e = record { fits = c.all_fits; members = λ q. (c.sound q, λ z. reach (c.holds z.0 z.1) z.2) }
      where
        into : (q : ℕ) → In all q ⊎ In d q → In all q
        into q (inl h) = h
        into q (inr h) = absurd (none_in e q h)

        reach : {p q : ℕ} → In all p → Star R p q → In all q
        reach h here = h
        reach h (more {q = q} {r = r} s y) = into r (leads q r (reach h s) y)

  -- no step leads on from what came last
  pub closing_stuck : (all new : ℕ) → Closing R set all new → Members 0 (From new R) → Members all (From set (Star R))
  closing_stuck all new c image = closing_end all new 0 0 c image (members_none (λ q z. none_in refl q z.0)) refl

pub record Placing (A B : ℕ → ℕ → Type 0) (set all new : ℕ) : Type 0 where
  pub fits : all < 2 ^ width
  pub part : (q : ℕ) → In new q → In all q
  pub holds : (q : ℕ) → In set q → In all q
  pub sound : (q : ℕ) → In all q → From set (Star (λ p q. A p q ⊎ B p q)) q
  pub first : (p q : ℕ) → In all p → A p q → In all q
  pub second : (p q : ℕ) → In all p → (In new p → ⊥) → B p q → In all q

module _ (A B : ℕ → ℕ → Type 0) (set : ℕ) where
  lifted : {p q : ℕ} → Star A p q → Star (λ p q. A p q ⊎ B p q) p q
  lifted here = here
  lifted (more s e) = more (lifted s) (inl e)

  pub placing_start : (all : ℕ) → Members all (From set (Star A)) → Placing A B set all all
  placing_start all close =
      record {
        fits = close.fits;
        part = λ q h. h;
        holds = λ q h. (close.members q).1 (q, h, here);
        sound = λ q h. let z = (close.members q).0 h in (z.0, z.1, lifted z.2);
        first = λ p q h a. let z = (close.members p).0 h in (close.members q).1 (z.0, z.1, more z.2 a);
        second = λ p q h n. absurd (n h);
      }

  module _ (all new c f : ℕ) (s : Placing A B set all new) (by : Members c (From new B)) (diff : Members f (λ q. In c q × (In all q → ⊥))) where
    -- a step by B from the set crosses into the set or to what is fresh
    crosses : (p q : ℕ) → In all p → B p q → In all q ⊎ In f q
    crosses p q h b = at (in? new p) (in? all q)
      where
        at : Dec (In new p) → Dec (In all q) → In all q ⊎ In f q
        at n (yes y) = inl y
        at (no n) (no o) = inl (s.second p q h n b)
        at (yes n) (no o) = inr ((diff.members q).1 ((by.members q).1 (p, n, b), o))

    pub placing_end : f ≡ 0 → Members all (From set (Star (λ p q. A p q ⊎ B p q)))
    placing_end e = record { fits = s.fits; members = λ q. (s.sound q, λ z. reach (s.holds z.0 z.1) z.2) }
      where
        into : (q : ℕ) → In all q ⊎ In f q → In all q
        into q (inl h) = h
        into q (inr h) = absurd (none_in e q h)

        turn : (p q : ℕ) → In all p → A p q ⊎ B p q → In all q
        turn p q h (inl a) = s.first p q h a
        turn p q h (inr b) = into q (crosses p q h b)

        reach : {p q : ℕ} → In all p → Star (λ p q. A p q ⊎ B p q) p q → In all q
        reach h here = h
        reach h (more {q = q} {r = r} t y) = turn q r (reach h t) y

    module _ (near u : ℕ) (close : Members near (From f (Star A))) (union : Members u (λ q. In all q ⊎ In near q)) where
      pub placing_turn : Placing A B set u near
      placing_turn =
          record {
            fits = union.fits;
            part = λ q h. (union.members q).1 (inr h);
            holds = λ q h. (union.members q).1 (inl (s.holds q h));
            sound = λ q h. sound q ((union.members q).0 h);
            first = λ p q h a. (union.members q).1 (first p q ((union.members p).0 h) a);
            second = λ p q h n b. (union.members q).1 (second p q ((union.members p).0 h) n b);
          }
        where
          sound : (q : ℕ) → In all q ⊎ In near q → From set (Star (λ p q. A p q ⊎ B p q)) q
          sound q (inl h) = s.sound q h
          sound q (inr h) =
              let z = (close.members q).0 h in
              let y = (by.members z.0).0 ((diff.members z.0).0 z.1).0 in
              let x = s.sound y.0 (s.part y.0 y.1) in
              (x.0, x.1, star_join (more x.2 (inr y.2)) (lifted z.2))

          first : (p q : ℕ) → In all p ⊎ In near p → A p q → In all q ⊎ In near q
          first p q (inl h) a = inl (s.first p q h a)
          first p q (inr h) a = let z = (close.members p).0 h in inr ((close.members q).1 (z.0, z.1, more z.2 a))

          reached : (q : ℕ) → In all q ⊎ In f q → In all q ⊎ In near q
          reached q (inl h) = inl h
          reached q (inr h) = inr ((close.members q).1 (q, h, here))

          second : (p q : ℕ) → In all p ⊎ In near p → (In near p → ⊥) → B p q → In all q ⊎ In near q
          second p q (inl h) n b = reached q (crosses p q h b)
          second p q (inr h) n b = absurd (n h)

      pub placing_less : {P : ℕ → Type 0} → SetIs u (bit_or all near) P → (f ≡ 0 → ⊥) → width - ones u < width - ones all
      placing_less value some =
          union_grows all near u union.fits value.value
          (λ (e : u ≡ all).
          let m = some_member f diff.fits some in
          ((diff.members m.0).0 m.1).1 (subst (λ (n : ℕ). In n m.0) e ((union.members m.0).1 (inr ((close.members m.0).1 (m.0, m.1, here))))))

-- the sets that a row has for the members of a set, united
pub rows_united : (R : ℕ → ℕ → Type 0) (S : ℕ → ℕ) (states set r : ℕ) → ((p : ℕ) → In set p → (p < states) × Members (S p) (R p)) → Members r (From set (λ p q. (p < states) × In (S p) q)) → Members r (From set R)
rows_united R S states set r each s =
    members_as s
    (λ q z. (z.0, z.1, ((each z.0 z.1).1.members q).0 z.2.1))
    (λ q z. let e = each z.0 z.1 in (z.0, z.1, (e.0, (e.1.members q).1 z.2)))
