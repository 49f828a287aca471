-- The ways through pass_position, and what each position adds to what is known of the sets.
--
-- passed_none, passed_over, passed_read, passed_copies == the ways through pass_position
-- turns           == what is reached at a position by epsilon moves and empty copies from what is reached there
-- stage_start     == the sets at the start of a word
-- stage_turn      == one position more
-- stage_to        == the same at an equal position
-- cleared         == at the end no set is left once those of the word's positions are emptied
-- at_inside       == what is reached is reached at a position of the word
-- stage_reach     == at the end the sets are those of the reached states; stage_end: that of the last position
use Prim.Native.Nat.{ℕ, suc, ◌+◌, ◌-◌, ◌^◌, ◌≤◌, ◌<◌}
use mathlib.Core.Path.{◌≡◌, refl, sym, ap, ◌∙◌, subst}
use mathlib.Core.Logic.{◌↔◌, ◌⊎◌, inl, inr}
use mathlib.Core.List.{List}
use native.Mathlib.Omega.{arith}
use native.Mathlib.Decide.{ℕ_discrete, dec_le}
use lib.ListN.{length, get_or, set, length-set}
use lib.Seq.{get_or-set_same, get_or-set_other}
use lib.Bits.{bit_and}
use Rattle.stateset.specs.Set.{width, In}
use Rattle.stateset.specs.Set.Laws.{in_and}
use Rattle.fsbm.specs.declared.config.Mode.{Mode}
use Rattle.fsbm.specs.declared.config.Mode.TheVariants.{Normal, Buffering, Emptying}
use Rattle.images.specs.Graph.{Members, Fitting, From, Star, here, more, Graph, Edge, Turn}
use Rattle.decide.specs.NormalSets.{Empty}
use Rattle.decide.specs.Reach.{Walk, still, Square, Reach, begins, passes, moves, copies, At, CopyTo, Copied, ReadTo, Passed, Stage}
use Rattle.basics.specs.Lists.Laws.{set_cases}
use Rattle.images.proofs.SetCases.{none_in, some_member}
use Rattle.decide.proofs.CopyCases.{walk_free}

-- a set at one position changes
pub fitting_set : (a : List ℕ) (i v : ℕ) → Fitting 256 a → i < 256 → v < 2 ^ width → Fitting 256 (set a i v)
fitting_set a i v f lt fits =
    record {
      size = length-set a i v ∙ f.size;
      each = set_cases a i v 0 (let z = f.size in omega arith) (λ k y. y < 2 ^ width) fits (λ k n. f.each k);
    }

module _ (G : Graph) (w : List ℕ) (a : List ℕ) (i near : ℕ) (fit : Fitting 256 a) (inside : i < 256) (completes : Members near (From (get_or a i 0) (Star (Turn G)))) where
  -- nothing is added where nothing can be read or copied
  passed_same : ((k q : ℕ) → ReadTo G w i near k q → ⊥) → ((k q : ℕ) → CopyTo G w i (bit_and near G.buffering) k q → ⊥) → Passed G w a (set a i near) i
  passed_same no_read no_copy =
      record {
        fitting = fitting_set a i near fit inside completes.fits;
        near = near;
        completes = completes;
        members = λ k q. (λ h. inl h, back k q);
      }
    where
      back : (k q : ℕ) → In (get_or (set a i near) k 0) q ⊎ (ReadTo G w i near k q ⊎ CopyTo G w i (bit_and near G.buffering) k q) → In (get_or (set a i near) k 0) q
      back k q (inl h) = h
      back k q (inr (inl r)) = absurd (no_read k q r)
      back k q (inr (inr c)) = absurd (no_copy k q c)

  pub passed_none : near ≡ 0 → Passed G w a (set a i near) i
  passed_none e = passed_same
      (λ k q r. none_in e r.from.0 r.from.1)
      (λ k q c. none_in e c.from ((in_and near G.buffering c.from).0 c.begins).0)

  pub passed_over : length w ≤ i → Passed G w a (set a i near) i
  passed_over le = passed_same
      (λ k q r. let z = r.inside in absurd (omega arith))
      (λ k q c. let z = c.inside in let y = c.position in let x = c.some in absurd (omega arith))

  module _ (read u : ℕ) (lt : i < length w) (short : length w ≤ 255) (reading : Members read (λ q. (0 < get_or w i 0) × From near (Edge G Normal (get_or w i 0)) q))
      (union : Members u (λ q. In (get_or (set a i near) (i + 1) 0) q ⊎ In read q)) where
    next : i + 1 < length (set a i near)
    next = let z = length-set a i near in let y = fit.size in omega arith

    pub read_fitting : Fitting 256 (set (set a i near) (i + 1) u)
    read_fitting = fitting_set (set a i near) (i + 1) u (fitting_set a i near fit inside completes.fits) (omega arith) union.fits

    -- the letter at i adds what ReadTo says
    read_members : (k q : ℕ) → In (get_or (set (set a i near) (i + 1) u) k 0) q ↔ (In (get_or (set a i near) k 0) q ⊎ ReadTo G w i near k q)
    read_members k q =
        set_cases (set a i near) (i + 1) u 0 next (λ k y. In y q ↔ (In (get_or (set a i near) k 0) q ⊎ ReadTo G w i near k q))
        (λ h. to ((union.members q).0 h), λ h. (union.members q).1 (back h))
        (λ k n. (λ h. inl h, elsewhere k n)) k
      where
        to : In (get_or (set a i near) (i + 1) 0) q ⊎ In read q → In (get_or (set a i near) (i + 1) 0) q ⊎ ReadTo G w i near (i + 1) q
        to (inl h) = inl h
        to (inr h) = let z = (reading.members q).0 h in inr (record { position = omega arith; inside = lt; letter = z.0; from = z.1 })

        back : In (get_or (set a i near) (i + 1) 0) q ⊎ ReadTo G w i near (i + 1) q → In (get_or (set a i near) (i + 1) 0) q ⊎ In read q
        back (inl h) = inl h
        back (inr r) = inr ((reading.members q).1 (r.letter, r.from))

        elsewhere : (k : ℕ) → (k ≡ i + 1 → ⊥) → In (get_or (set a i near) k 0) q ⊎ ReadTo G w i near k q → In (get_or (set a i near) k 0) q
        elsewhere k n (inl h) = h
        elsewhere k n (inr r) = let z = r.position in absurd (n (omega arith))

    pub passed_read : (starts : ℕ) → starts ≡ bit_and near G.buffering → starts ≡ 0 → Passed G w a (set (set a i near) (i + 1) u) i
    passed_read starts value e =
        record {
          fitting = read_fitting;
          near = near;
          completes = completes;
          members = λ k q. (λ h. to k q ((read_members k q).0 h), λ h. (read_members k q).1 (back k q h));
        }
      where
        to : (k q : ℕ) → In (get_or (set a i near) k 0) q ⊎ ReadTo G w i near k q → In (get_or (set a i near) k 0) q ⊎ (ReadTo G w i near k q ⊎ CopyTo G w i (bit_and near G.buffering) k q)
        to k q (inl h) = inl h
        to k q (inr r) = inr (inl r)

        back : (k q : ℕ) → In (get_or (set a i near) k 0) q ⊎ (ReadTo G w i near k q ⊎ CopyTo G w i (bit_and near G.buffering) k q) → In (get_or (set a i near) k 0) q ⊎ ReadTo G w i near k q
        back k q (inl h) = inl h
        back k q (inr (inl r)) = inr r
        back k q (inr (inr c)) = absurd (none_in (sym value ∙ e) c.from c.begins)

    pub passed_copies : (starts : ℕ) (b : List ℕ) → starts ≡ bit_and near G.buffering → Copied G w i starts (set (set a i near) (i + 1) u) b → Passed G w a b i
    passed_copies starts b value c =
        record {
          fitting = c.fitting;
          near = near;
          completes = completes;
          members = λ k q. (λ h. to k q ((c.members k q).0 h), λ h. (c.members k q).1 (back k q h));
        }
      where
        first_two : (k q : ℕ) → In (get_or (set a i near) k 0) q ⊎ ReadTo G w i near k q → In (get_or (set a i near) k 0) q ⊎ (ReadTo G w i near k q ⊎ CopyTo G w i (bit_and near G.buffering) k q)
        first_two k q (inl h) = inl h
        first_two k q (inr r) = inr (inl r)

        to : (k q : ℕ) → In (get_or (set (set a i near) (i + 1) u) k 0) q ⊎ CopyTo G w i starts k q → In (get_or (set a i near) k 0) q ⊎ (ReadTo G w i near k q ⊎ CopyTo G w i (bit_and near G.buffering) k q)
        to k q (inl h) = first_two k q ((read_members k q).0 h)
        to k q (inr y) = inr (inr (subst (λ (n : ℕ). CopyTo G w i n k q) value y))

        back : (k q : ℕ) → In (get_or (set a i near) k 0) q ⊎ (ReadTo G w i near k q ⊎ CopyTo G w i (bit_and near G.buffering) k q) → In (get_or (set (set a i near) (i + 1) u) k 0) q ⊎ CopyTo G w i starts k q
        back k q (inl h) = inl ((read_members k q).1 (inl h))
        back k q (inr (inl r)) = inl ((read_members k q).1 (inr r))
        back k q (inr (inr y)) = inr (subst (λ (n : ℕ). CopyTo G w i n k q) (sym value) y)

-- The stages

pub stage_start : (G : Graph) (w : List ℕ) (start : ℕ) (sets : List ℕ) → Empty sets → start < 2 ^ width → Stage G w start (set sets 0 start) 0
stage_start G w start sets empty fits =
    record {
      fitting = fitting_set sets 0 start (record { size = empty.size; each = λ k. let z = empty.each k in omega arith }) (omega arith) fits;
      sound = λ k q. set_cases sets 0 start 0 first (λ k y. In y q → Reach G w start k q) (λ h. begins refl h) (λ k n h. absurd (none_in (empty.each k) q h)) k;
      begun = λ q h. subst (λ (y : ℕ). In y q) (sym (get_or-set_same sets 0 start 0 first)) h;
      passed = λ k p q (lt : k < 0). absurd (omega arith);
      read = λ k p q (lt : k < 0). absurd (omega arith);
      copied = λ i j k p s q (lt : i < 0). absurd (omega arith);
    }
  where
    first : 0 < length sets
    first = let z = empty.size in omega arith

module _ (G : Graph) (w : List ℕ) (start : ℕ) where
  -- what is reached at a position in epsilon moves and empty copies is reached there
  pub turns : {k p q : ℕ} → k ≤ length w → Reach G w start k p → Star (Turn G) p q → Reach G w start k q
  turns {k} {p} le h here = h
  turns {k} {p} {q} le h (more {q = r} s t) = one (turns le h s) t
    where
      one : Reach G w start k r → Turn G r q → Reach G w start k q
      one y (inl e) = passes y e
      one y (inr c) =
          copies {i = k} {j = k} {k = k} y c.begins (omega arith) (still refl c.storing) c.turns (still refl c.emptying)
          (λ t (lt : t < k - k). absurd (omega arith)) (omega arith) le

  module _ (a b : List ℕ) (i : ℕ) (st : Stage G w start a i) (ps : Passed G w a b i) (le : i ≤ length w) (short : length w ≤ 255) where
    inside : i < length a
    inside = let z = st.fitting.size in omega arith

    near_sound : (q : ℕ) → In ps.near q → Reach G w start i q
    near_sound q h = let z = (ps.completes.members q).0 h in turns le (st.sound i z.0 z.1) z.2

    at_sound : (k q : ℕ) → In (get_or (set a i ps.near) k 0) q → Reach G w start k q
    at_sound k q = set_cases a i ps.near 0 inside (λ k y. In y q → Reach G w start k q) (near_sound q) (λ k n. st.sound k q) k

    sound : (k q : ℕ) → In (get_or (set a i ps.near) k 0) q ⊎ (ReadTo G w i ps.near k q ⊎ CopyTo G w i (bit_and ps.near G.buffering) k q) → Reach G w start k q
    sound k q (inl h) = at_sound k q h
    sound k q (inr (inl r)) = moves (near_sound r.from.0 r.from.1) r.inside r.letter r.from.2 r.position
    sound k q (inr (inr c)) =
        let z = (in_and ps.near G.buffering c.from).0 c.begins in
        let lt = c.some in
        copies {j = c.end} (near_sound c.from z.0) z.1 (omega arith) c.storing c.turns c.emptying c.same c.position c.inside

    -- at position i the set is the completed one; below it nothing changes; no set loses a member
    into_near : (q : ℕ) → In ps.near q → In (get_or b i 0) q
    into_near q h = (ps.members i q).1 (inl (subst (λ (n : ℕ). In n q) (sym (get_or-set_same a i ps.near 0 inside)) h))

    from_near : (q : ℕ) → In (get_or b i 0) q → In ps.near q
    from_near q h = at ((ps.members i q).0 h)
      where
        at : In (get_or (set a i ps.near) i 0) q ⊎ (ReadTo G w i ps.near i q ⊎ CopyTo G w i (bit_and ps.near G.buffering) i q) → In ps.near q
        at (inl y) = subst (λ (n : ℕ). In n q) (get_or-set_same a i ps.near 0 inside) y
        at (inr (inl r)) = let z = r.position in absurd (omega arith)
        at (inr (inr c)) = let z = c.position in let y = c.some in absurd (omega arith)

    lower : (k q : ℕ) → k < i → In (get_or b k 0) q → In (get_or a k 0) q
    lower k q lt h = at ((ps.members k q).0 h)
      where
        at : In (get_or (set a i ps.near) k 0) q ⊎ (ReadTo G w i ps.near k q ⊎ CopyTo G w i (bit_and ps.near G.buffering) k q) → In (get_or a k 0) q
        at (inl y) = subst (λ (n : ℕ). In n q) (get_or-set_other a i k ps.near 0 (λ (e : k ≡ i). absurd (omega arith))) y
        at (inr (inl r)) = let z = r.position in absurd (omega arith)
        at (inr (inr c)) = let z = c.position in let y = c.some in absurd (omega arith)

    grows : (k q : ℕ) → In (get_or a k 0) q → In (get_or b k 0) q
    grows k q h = at (ℕ_discrete k i)
      where
        at : Dec (k ≡ i) → In (get_or b k 0) q
        at (yes e) =
            let h' = subst (λ (n : ℕ). In (get_or a n 0) q) e h in
            subst (λ (n : ℕ). In (get_or b n 0) q) (sym e) (into_near q ((ps.completes.members q).1 (q, h', here)))
        at (no n) = (ps.members k q).1 (inl (subst (λ (y : ℕ). In y q) (sym (get_or-set_other a i k ps.near 0 n)) h))

    -- a step at position i stays in the completed set
    near_turn : (p q : ℕ) → In ps.near p → Turn G p q → In ps.near q
    near_turn p q h t = let z = (ps.completes.members p).0 h in (ps.completes.members q).1 (z.0, z.1, more z.2 t)

    passed : (k p q : ℕ) → k < i + 1 → In (get_or b k 0) p → Edge G Normal 0 p q → In (get_or b k 0) q
    passed k p q lt h e = at (ℕ_discrete k i)
      where
        at : Dec (k ≡ i) → In (get_or b k 0) q
        at (yes y) =
            let h' = subst (λ (n : ℕ). In (get_or b n 0) p) y h in
            subst (λ (n : ℕ). In (get_or b n 0) q) (sym y) (into_near q (near_turn p q (from_near p h') (inl e)))
        at (no n) = grows k q (st.passed k p q (omega arith) (lower k p (omega arith) h) e)

    read : (k p q : ℕ) → k < i + 1 → k < length w → 0 < get_or w k 0 → In (get_or b k 0) p → Edge G Normal (get_or w k 0) p q → In (get_or b (suc k) 0) q
    read k p q lt in_word some h e = at (ℕ_discrete k i)
      where
        at : Dec (k ≡ i) → In (get_or b (suc k) 0) q
        at (yes y) =
            let h' = subst (λ (n : ℕ). In (get_or b n 0) p) y h in
            let e' = subst (λ (n : ℕ). Edge G Normal (get_or w n 0) p q) y e in
            let some' = subst (λ (n : ℕ). 0 < get_or w n 0) y some in
            (ps.members (suc k) q).1 (inr (inl (record { position = ap suc y; inside = omega arith; letter = some'; from = (p, from_near p h', e') })))
        at (no n) = grows (suc k) q (st.read k p q (omega arith) in_word some (lower k p (omega arith) h) e)

    copied_here : (j k p s q : ℕ) → In ps.near p → In G.buffering p → i ≤ j → Walk G w Buffering i p j s → In G.matching s
        → Walk G w Emptying i s j q → Square w i j → k ≡ j + (j - i) → k ≤ length w → In (get_or b k 0) q
    copied_here j k p s q h g ge v m y same position in_word = at (ℕ_discrete j i)
      where
        at : Dec (j ≡ i) → In (get_or b k 0) q
        at (yes e) =
            let v' = subst (λ (n : ℕ). Walk G w Buffering i p n s) e v in
            let y' = subst (λ (n : ℕ). Walk G w Emptying i s n q) e y in
            let back : k ≡ i = omega arith in
            subst (λ (n : ℕ). In (get_or b n 0) q) (sym back)
            (into_near q (near_turn p q h (inr (record { begins = g; middle = s; storing = walk_free v'; turns = m; emptying = walk_free y' }))))
        at (no n) =
            (ps.members k q).1 (inr (inr (record {
              from = p;
              begins = (in_and ps.near G.buffering p).1 (h, g);
              end = j;
              some = omega arith;
              middle = s;
              storing = v;
              turns = m;
              emptying = y;
              same = same;
              position = position;
              inside = in_word;
            })))

    copied : (o j k p s q : ℕ) → o < i + 1 → In (get_or b o 0) p → In G.buffering p → o ≤ j → Walk G w Buffering o p j s → In G.matching s
        → Walk G w Emptying o s j q → Square w o j → k ≡ j + (j - o) → k ≤ length w → In (get_or b k 0) q
    copied o j k p s q lt h g ge v m y same position in_word = at (ℕ_discrete o i)
      where
        at : Dec (o ≡ i) → In (get_or b k 0) q
        at (yes e) =
            copied_here j k p s q
            (from_near p (subst (λ (n : ℕ). In (get_or b n 0) p) e h)) g (omega arith)
            (subst (λ (n : ℕ). Walk G w Buffering n p j s) e v) m
            (subst (λ (n : ℕ). Walk G w Emptying n s j q) e y)
            (subst (λ (n : ℕ). Square w n j) e same)
            (subst (λ (n : ℕ). k ≡ j + (j - n)) e position) in_word
        at (no n) = grows k q (st.copied o j k p s q (omega arith) (lower o p (omega arith) h) g ge v m y same position in_word)

    pub stage_turn : Stage G w start b (i + 1)
    stage_turn =
        record {
          fitting = ps.fitting;
          sound = λ k q h. sound k q ((ps.members k q).0 h);
          begun = λ q h. grows 0 q (st.begun q h);
          passed = passed;
          read = read;
          copied = copied;
        }

  pub reach_inside : {k q : ℕ} → Reach G w start k q → k ≤ length w
  reach_inside (begins e i) = omega arith
  reach_inside (passes h e) = reach_inside h
  reach_inside (moves h lt s e p) = omega arith
  reach_inside (copies h g ge v m y same e le) = le

  pub at_inside : (T : Mode) (p q : ℕ) → At G w start T p q → p ≤ length w
  at_inside Normal p q r = reach_inside r
  at_inside Buffering p q a = a.inside
  at_inside Emptying p q a = a.matching.inside

  pub stage_reach : (sets : List ℕ) (t : ℕ) → Stage G w start sets t → length w < t → {k q : ℕ} → Reach G w start k q → In (get_or sets k 0) q
  stage_reach sets t st lt {k} {q} (begins e h) = subst (λ (n : ℕ). In (get_or sets n 0) q) (sym e) (st.begun q h)
  stage_reach sets t st lt {k} {q} (passes {p = p} h e) = st.passed k p q (let z = reach_inside h in omega arith) (stage_reach sets t st lt h) e
  stage_reach sets t st lt {k} {q} (moves {i = i} {p = p} h in_word some e position) =
      subst (λ (n : ℕ). In (get_or sets n 0) q) (sym position) (st.read i p q (omega arith) in_word some (stage_reach sets t st lt h) e)
  stage_reach sets t st lt {k} {q} (copies {i = i} {j = j} {p = p} {s = s} h g ge v m y same position in_word) =
      st.copied i j k p s q (let z = reach_inside h in omega arith) (stage_reach sets t st lt h) g ge v m y same position in_word

pub stage_to : (G : Graph) (w : List ℕ) (start : ℕ) (sets : List ℕ) (t u : ℕ) → t ≡ u → Stage G w start sets t → Stage G w start sets u
stage_to G w start sets t u e s = subst (λ (n : ℕ). Stage G w start sets n) e s

pub stage_end : (G : Graph) (w : List ℕ) (start : ℕ) (sets : List ℕ) → Stage G w start sets (length w + 1) → Members (get_or sets (length w) 0) (Reach G w start (length w))
stage_end G w start sets st = record { fits = st.fitting.each (length w); members = λ q. (st.sound (length w) q, λ r. stage_reach G w start sets (length w + 1) st (omega arith) r) }

-- past the end of a word no set has a member, so nothing is left once the others are emptied
pub cleared : (G : Graph) (w : List ℕ) (start : ℕ) (sets after : List ℕ) (t : ℕ) → Stage G w start sets t → length after ≡ 256 → ((k : ℕ) → k ≤ length w → get_or after k 0 ≡ 0)
    → ((k : ℕ) → length w < k → get_or after k 0 ≡ get_or sets k 0) → Empty after
cleared G w start sets after t stage size front rest = record { size = size; each = λ k. at k (dec_le k (length w)) (ℕ_discrete (get_or sets k 0) 0) }
  where
    at : (k : ℕ) → Dec (k ≤ length w) → Dec (get_or sets k 0 ≡ 0) → get_or after k 0 ≡ 0
    at k (yes le) z = front k le
    at k (no n) (yes e) = rest k (omega arith) ∙ e
    at k (no n) (no some) =
        let (q, i) = some_member (get_or sets k 0) (stage.fitting.each k) some in
        absurd (n (reach_inside G w start (stage.sound k q i)))
