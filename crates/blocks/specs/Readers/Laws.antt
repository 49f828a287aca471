-- The laws of specs/Readers.antt.
--
-- noted_other, noted_is    == a transition that is not between members of h, and one that is
-- readers_start, readers_more, readers_end == the loop over the transitions
-- readers_cover            == the readers of one letter
-- covers_from              == what is gathered from the readers of a letter is gathered from all members of h
use Rattle.std.specs.Prelude.{ℕ, ◌+◌, ◌*◌, ◌≤◌, ◌<◌, ◌≡◌, refl, ◌⊎◌, true, false, List, length, get_or, set}
use Rattle.std.proofs.Common.{sym, ◌∙◌, subst, subst₂, inl, inr, arith, length-set, get_or-set_same}
use Rattle.std.proofs.Math.Decide.{dec_lt}
use Rattle.std.proofs.lemmas.Bool.{eqb-false}
use Rattle.basics.specs.Lists.Laws.{set_cases}
use Rattle.stateset.specs.Set.{width, digit, In, has, added, SetIs}
use Rattle.stateset.specs.Set.Laws.{has_in, empty_in}
use Rattle.fsbm.specs.Machine.{transition_at, matching}
use Rattle.fsbm.specs.Rules.{rules, matching_below}
use Rattle.fsbm.specs.declared.machine.Machine.{Machine}
use Rattle.blocks.specs.Stretches.Laws.{stretch}
use Rattle.blocks.specs.Works.{Kind, Ready}
use Rattle.blocks.specs.Gathered.{Adding, From}
use Rattle.blocks.specs.Gathered.Laws.{adding_as}
use Rattle.blocks.specs.Readers.{Noted, ReadersBelow, Readers, Covers}

module _ (list : List ℕ) (k h : ℕ) (sets : List ℕ) where
  pub noted_other : (has h (transition_at list k).from ≡ false) ⊎ (has h (transition_at list k).to ≡ false) → Noted list k h sets sets
  noted_other e = record { size = refl; stays = λ x t i. i; this = λ i j. absurd (never e i j); only = λ x t f i. f i }
    where
      never : (has h (transition_at list k).from ≡ false) ⊎ (has h (transition_at list k).to ≡ false) → In h (transition_at list k).from → In h (transition_at list k).to → ⊥
      never (inl z) i j = eqb-false (digit h (transition_at list k).from) 1 z i
      never (inr z) i j = eqb-false (digit h (transition_at list k).to) 1 z j

  noted_here : {r : ℕ} → (transition_at list k).letter < length sets → (transition_at list k).from < 64 → has h (transition_at list k).from ≡ true
      → SetIs r (added (get_or sets (transition_at list k).letter 0) (transition_at list k).from)
      (λ t. In (get_or sets (transition_at list k).letter 0) t ⊎ ((t ≡ (transition_at list k).from) × (t < width)))
      → Noted list k h sets (set sets (transition_at list k).letter r)
  noted_here {r} room small from is =
      record {
        size = length-set sets (transition_at list k).letter r;
        stays = λ x t i. set_cases sets (transition_at list k).letter r 0 room (λ x z. In (get_or sets x 0) t → In z t) (λ i. (is.members t).1 (inl i)) (λ x n i. i) x i;
        this = λ i j. subst (λ (z : ℕ). In z (transition_at list k).from) (sym here) ((is.members (transition_at list k).from).1 (inr (refl, small)));
        only = λ x t f i.
            set_cases sets (transition_at list k).letter r 0 room (λ x z. (In (get_or sets x 0) t → In h t) → In z t → In h t) (λ f i. old t f ((is.members t).0 i)) (λ x n f. f) x f i;
      }
    where
      here : get_or (set sets (transition_at list k).letter r) (transition_at list k).letter 0 ≡ r
      here = get_or-set_same sets (transition_at list k).letter r 0 room

      old : (t : ℕ) → (In (get_or sets (transition_at list k).letter 0) t → In h t) → In (get_or sets (transition_at list k).letter 0) t ⊎ ((t ≡ (transition_at list k).from) × (t < width)) → In h t
      old t f (inl i) = f i
      old t f (inr i) = subst (λ (z : ℕ). In h z) (sym i.0) ((has_in h (transition_at list k).from).0 from)

  pub noted_is : {x from r : ℕ} → x ≡ (transition_at list k).letter → from ≡ (transition_at list k).from → x < length sets → from < 64 → has h from ≡ true
      → SetIs r (added (get_or sets x 0) from) (λ t. In (get_or sets x 0) t ⊎ ((t ≡ from) × (t < width))) → Noted list k h sets (set sets x r)
  noted_is {x} {from} {r} e f room small is_in is =
      rw e
      (noted_here (rw e at room) (rw f at small) (rw f at is_in)
      (subst₂ (λ (z y : ℕ). SetIs r (added (get_or sets z 0) y) (λ t. In (get_or sets z 0) t ⊎ ((t ≡ y) × (t < width)))) e f is))

module _ (m : Machine) (list : List ℕ) where
  pub readers_start : (sets : List ℕ) → length sets ≡ 251 → ((x : ℕ) → get_or sets x 0 ≡ 0) → ReadersBelow m list 0 sets
  readers_start sets size e =
      record { size = size; all = λ k (lt : k < 0). absurd (omega arith); only = λ x t i. absurd (empty_in t (subst (λ (z : ℕ). In z t) (e x) i)) }

  pub readers_more : {h : ℕ} → Kind (matching m.marks) h → {k : ℕ} {sets sets' : List ℕ} → ReadersBelow m list k sets → Noted list k h sets sets' → ReadersBelow m list (k + 1) sets'
  readers_more {h} matches {k} {sets} {sets'} f g =
      record {
        size = g.size ∙ f.size;
        all = λ j lt from to. on j lt from to (dec_lt j k);
        only = λ x t i. (matches t).0 (g.only x t (λ z. (matches t).1 (f.only x t z)) i);
      }
    where
      on : (j : ℕ) → j < k + 1 → matching m.marks (transition_at list j).from ≡ true → matching m.marks (transition_at list j).to ≡ true → Dec (j < k)
          → In (get_or sets' (transition_at list j).letter 0) (transition_at list j).from
      on j lt from to (yes l) = g.stays (transition_at list j).letter (transition_at list j).from (f.all j l from to)
      on j lt from to (no n) =
          let e : j ≡ k = omega arith in
          subst (λ (i : ℕ). In (get_or sets' (transition_at list i).letter 0) (transition_at list i).from) (sym e)
          (g.this (subst (λ (i : ℕ). In h (transition_at list i).from) e ((matches (transition_at list j).from).1 from))
          (subst (λ (i : ℕ). In h (transition_at list i).to) e ((matches (transition_at list j).to).1 to)))

  pub readers_end : {k : ℕ} {sets : List ℕ} → m.transitions ≤ k → ReadersBelow m list k sets → Readers m list sets
  readers_end {k} le f = record { size = f.size; all = λ j lt. f.all j (omega arith); only = f.only }

pub readers_cover : {m : Machine} {list index : List ℕ} {h : ℕ} → Ready m list index h → {sets : List ℕ} → Readers m list sets → (x : ℕ) → x < m.letters + 1
    → Covers list index (m.letters + 1) x h (get_or sets x 0)
readers_cover {m} {list} {index} {h} r {sets} f x le =
    record { all = λ t k held lo hi enters. all t k held lo hi enters; only = λ t i. (r.matches t).1 (f.only x t i) }
  where
    all : (t k : ℕ) → In h t → get_or index (t * (m.letters + 1) + x) 0 ≤ k → k < get_or index (t * (m.letters + 1) + x + 1) 0 → In h (get_or list (k * 3 + 2) 0) → In (get_or sets x 0) t
    all t k held lo hi enters =
        let from = (r.matches t).0 held in
        let below = matching_below m list (rules m list r.good) t from in
        let s = (stretch m list (rules m list r.good) index r.starts t x k below (omega arith)).0 (lo, hi) in
        let i = f.all k s.0 (subst (λ (z : ℕ). matching m.marks z ≡ true) (sym s.1) from) ((r.matches (get_or list (k * 3 + 2) 0)).0 enters) in
        subst (λ (z : ℕ). In (get_or sets z 0) t) s.2 (subst (λ (z : ℕ). In (get_or sets (transition_at list k).letter 0) z) s.1 i)

-- the states of a set that are worth a look, among the members of h
module _ {list index : List ℕ} {top stride x w h : ℕ} {b : List ℕ} {s : ℕ} (set read : ℕ) (covers : Covers list index stride x h read) {held v : ℕ} (is : SetIs held v (λ q. In set q × In read q)) where
  pub covers_from : {p p' : List ℕ} {got got' : ℕ} → Adding (From list index top stride x w h b s (In held)) p got p' got' → Adding (From list index top stride x w h b s (λ q. In set q × In h q)) p got p' got'
  covers_from f = adding_as there back f
    where
      there : (t n : ℕ) → From list index top stride x w h b s (In held) t n → From list index top stride x w h b s (λ q. In set q × In h q) t n
      there t n c = let z = (is.members c.source).0 c.holds in record { source = c.source; holds = (z.0, covers.only c.source z.1); far = c.far }

      back : (t n : ℕ) → From list index top stride x w h b s (λ q. In set q × In h q) t n → From list index top stride x w h b s (In held) t n
      back t n c =
          let k = c.far.reach in
          let z = covers.all c.source k.number c.holds.1 k.from_on k.below (subst (λ (i : ℕ). In h i) (sym k.enters) k.allowed) in
          record { source = c.source; holds = (is.members c.source).1 (c.holds.0, z); far = c.far }
