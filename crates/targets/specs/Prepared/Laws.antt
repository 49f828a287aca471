-- How a table is prepared.
--
-- apart                       == sets of different letters or states stand at different positions
-- in_room, product_small      == the row of a letter is in the table, and begins at a small number
-- marked_turn                 == the letters of a word, marked one by one
-- inside_at                   == a transition of a good table is inside
-- put_none, put_some          == the two ways through put
-- parts_small, parts_room, parts_none, parts_some == the same where the code has the parts of the transition
-- filled_start                == an empty table
-- sources_start, sources_turn == none of the states, and one more
-- made                        == a table with all transitions and its first set
-- made_for                    == so it is prepared for a word whose letters are wanted
-- turns_carried, turns_same   == what a state reaches at a position rests on the edges of letter 0 and the sets alone
-- closing_start, closing_good, closing_turn, closing_end == the closures of the states, one by one
-- made_good, made_whole       == a table without closures, and one with them: prepared for every word
use Rattle.std.specs.Prelude.{ℕ, ◌+◌, ◌*◌, ◌≤◌, ◌<◌, ◌≡◌, refl, ◌↔◌, ◌⊎◌, Bool, true, false, List, length, get_or, set}
use Rattle.std.proofs.Common.{sym, ap, ◌∙◌, subst, inl, inr, arith, mul-le-mul, mul-le-mul_right, length-set, get_or-set_same, get_or-set_other}
use Rattle.std.proofs.lemmas.Bool.{false≢true}
use Rattle.std.proofs.Math.Decide.{ℕ_discrete}
use Rattle.stateset.specs.Set.{width, In, SetIs}
use Rattle.stateset.specs.Set.Laws.{empty_in, same_members}
use Rattle.fsbm.specs.Machine.{transition_at, well_formed}
use Rattle.fsbm.specs.Published.{Listed}
use Rattle.fsbm.specs.declared.machine.Machine.{Machine}
use Rattle.fsbm.specs.Rules.{rules}
use Rattle.fsbm.specs.declared.config.Mode.{Mode}
use Rattle.fsbm.specs.declared.config.Mode.TheVariants.{Normal, Buffering, Emptying}
use Rattle.images.specs.declared.Kinds.{Kinds}
use Rattle.images.specs.Graph.{Members, From, Star, here, more, closure_of, set_of, Graph, graph, Edge, Free, Turn, Closed, Good, Kind, KindsOf}
use Rattle.basics.specs.Lists.Laws.{set_cases}
use Rattle.basics.specs.Pairs.{pair_same}
use Rattle.images.proofs.SetCases.{members_as}
use Rattle.targets.specs.Prepared.{Row, Prepared, Lettered, Whole, Wanted, Inside, Filled, Made, Sources, Closing, WithClosures}

pub apart : (s x y p q : ℕ) → p < s → q < s → set_of s x p ≡ set_of s y q → (x ≡ y) × (p ≡ q)
apart s x y p q lp lq e = pair_same s x p y q lp lq (omega arith)

-- the row of a letter that is there is in the table
pub in_room : (s x y n : ℕ) → x ≤ y → set_of s y s ≤ n → set_of s x s ≤ n
in_room s x y n le room = let z : x * s ≤ y * s = mul-le-mul_right s le in omega arith

pub product_small : (s x : ℕ) → s ≤ 64 → x ≤ 250 → x * s ≤ 16000
product_small s x few small = mul-le-mul small few

-- The letters of a word

abbrev pub WantedBefore : List ℕ → List Bool → ℕ → Type 0
WantedBefore w wanted i = (j : ℕ) → j < i → get_or wanted (get_or w j 0) false ≡ true

pub marked_turn : (w : List ℕ) (wanted : List Bool) (i : ℕ) → get_or w i 0 < length wanted → WantedBefore w wanted i → WantedBefore w (set wanted (get_or w i 0) true) (i + 1)
marked_turn w wanted i inside so_far j lt = at (ℕ_discrete j i)
  where
    mark : (x : ℕ) → get_or wanted x false ≡ true → get_or (set wanted (get_or w i 0) true) x false ≡ true
    mark x h = set_cases wanted (get_or w i 0) true false inside (λ y v. get_or wanted y false ≡ true → v ≡ true) (λ z. refl) (λ y n z. z) x h

    at : Dec (j ≡ i) → get_or (set wanted (get_or w i 0) true) (get_or w j 0) false ≡ true
    at (yes e) =
        ap (λ (n : ℕ). get_or (set wanted (get_or w i 0) true) (get_or w n 0) false) e ∙ get_or-set_same wanted (get_or w i 0) true false inside
    at (no n) = mark (get_or w j 0) (so_far j (omega arith))

-- Filling the rows

pub inside_at : (m : Machine) (list : List ℕ) → well_formed m list ≡ true → (k : ℕ) → k < m.transitions → Inside m list k
inside_at m list good k lt =
    let s = rules m list good in
    record {
      fits = let a = s.list_fits in omega arith;
      few = s.states_fit;
      from = s.from_below k lt;
      letter = s.letter_below k lt;
      letters = s.letters_fit;
      to = s.to_below k lt;
    }

module _ (m : Machine) (list : List ℕ) (wanted : List Bool) (targets : List ℕ) (k : ℕ) (inside : Inside m list k) (f : Filled m list wanted targets k) where
  -- its set is in the table
  pub put_room : set_of m.states (transition_at list k).letter (transition_at list k).from < length targets
  put_room =
      let z = in_room m.states (transition_at list k).letter m.letters (length targets) inside.letter f.room in
      let a = inside.from in
      omega arith

  listed_more : {p x q : ℕ} → Listed list k p x q → Listed list (k + 1) p x q
  listed_more z = record { number = z.number; listed = omega (arith, z.listed); from = z.from; letter = z.letter; to = z.to }

  -- the last of k + 1 transitions, or one before it
  last : (x p q : ℕ) → Listed list (k + 1) p x q → Listed list k p x q ⊎ ((p ≡ (transition_at list k).from) × (x ≡ (transition_at list k).letter) × (q ≡ (transition_at list k).to))
  last x p q z = at (ℕ_discrete z.number k)
    where
      at : Dec (z.number ≡ k) → Listed list k p x q ⊎ ((p ≡ (transition_at list k).from) × (x ≡ (transition_at list k).letter) × (q ≡ (transition_at list k).to))
      at (yes e) =
          inr (
            sym z.from ∙ ap (λ (j : ℕ). (transition_at list j).from) e,
            sym z.letter ∙ ap (λ (j : ℕ). (transition_at list j).letter) e,
            sym z.to ∙ ap (λ (j : ℕ). (transition_at list j).to) e,
          )
      at (no n) = inl (record { number = z.number; listed = omega (arith, z.listed); from = z.from; letter = z.letter; to = z.to })

  pub put_none : (b : Bool) → (b ≡ true) ↔ Wanted wanted (transition_at list k).letter → b ≡ false → Filled m list wanted targets (k + 1)
  put_none b says no' =
      record {
        room = f.room;
        none_closed = f.none_closed;
        members = λ x p q le lt. (λ h. let z = (f.members x p q le lt).0 h in (z.0, listed_more z.1), λ z. (f.members x p q le lt).1 (z.0, at x p q z.0 (last x p q z.1)));
      }
    where
      at : (x p q : ℕ) → Wanted wanted x → Listed list k p x q ⊎ ((p ≡ (transition_at list k).from) × (x ≡ (transition_at list k).letter) × (q ≡ (transition_at list k).to)) → Listed list k p x q
      at x p q w (inl z) = z
      at x p q w (inr z) = absurd (false≢true (sym no' ∙ says.1 (subst (Wanted wanted) z.1 w)))

  pub put_some : (b : Bool) (i v r : ℕ) → (b ≡ true) ↔ Wanted wanted (transition_at list k).letter → b ≡ true → i ≡ set_of m.states (transition_at list k).letter (transition_at list k).from
      → SetIs r v (λ s. In (get_or targets i 0) s ⊎ ((s ≡ (transition_at list k).to) × (s < width))) → Filled m list wanted (set targets i r) (k + 1)
  put_some b i v r says yes' position s =
      record {
        room = subst (λ (n : ℕ). set_of m.states m.letters m.states ≤ n) (sym (length-set targets i r)) f.room;
        none_closed = get_or-set_other targets i 1 r 0 (λ (e : 1 ≡ i). omega arith) ∙ f.none_closed;
        members = λ x p q le lt.
            set_cases targets i r 0 room (λ j t. j ≡ set_of m.states x p → In t q ↔ (Wanted wanted x × Listed list (k + 1) p x q))
            (λ e. here x p q le lt (e)) (λ j n e. others x p q le lt j n e) (set_of m.states x p) refl;
      }
    where
      room : i < length targets
      room = let z = put_room in omega arith

      here : (x p q : ℕ) → x ≤ m.letters → p < m.states → i ≡ set_of m.states x p → In r q ↔ (Wanted wanted x × Listed list (k + 1) p x q)
      here x p q le lt e = (λ h. to ((s.members q).0 h), λ z. (s.members q).1 (back z.0 (last x p q z.1)))
        where
          same : ((transition_at list k).letter ≡ x) × ((transition_at list k).from ≡ p)
          same = apart m.states (transition_at list k).letter x (transition_at list k).from p inside.from lt (sym position ∙ e)

          to : In (get_or targets i 0) q ⊎ ((q ≡ (transition_at list k).to) × (q < width)) → Wanted wanted x × Listed list (k + 1) p x q
          to (inl h) = let z = (f.members x p q le lt).0 (subst (λ (j : ℕ). In (get_or targets j 0) q) e h) in (z.0, listed_more z.1)
          to (inr h) = (subst (Wanted wanted) same.0 (says.0 yes'), record { number = k; listed = omega arith; from = same.1; letter = same.0; to = sym h.0 })

          back : Wanted wanted x → Listed list k p x q ⊎ ((p ≡ (transition_at list k).from) × (x ≡ (transition_at list k).letter) × (q ≡ (transition_at list k).to)) → In (get_or targets i 0) q ⊎ ((q ≡ (transition_at list k).to) × (q < width))
          back w (inl z) = inl (subst (λ (j : ℕ). In (get_or targets j 0) q) (sym e) ((f.members x p q le lt).1 (w, z)))
          back w (inr z) = let a = inside.to in let few = inside.few in let g = z.2 in inr (z.2, omega arith)

      others : (x p q : ℕ) → x ≤ m.letters → p < m.states → (j : ℕ) → (j ≡ i → ⊥) → j ≡ set_of m.states x p → In (get_or targets j 0) q ↔ (Wanted wanted x × Listed list (k + 1) p x q)
      others x p q le lt j n e = (
        λ h. let z = (f.members x p q le lt).0 (subst (λ (t : ℕ). In (get_or targets t 0) q) e h) in (z.0, listed_more z.1),
        λ z. subst (λ (t : ℕ). In (get_or targets t 0) q) (sym e) ((f.members x p q le lt).1 (z.0, back (last x p q z.1))),
      )
        where
          back : Listed list k p x q ⊎ ((p ≡ (transition_at list k).from) × (x ≡ (transition_at list k).letter) × (q ≡ (transition_at list k).to)) → Listed list k p x q
          back (inl z) = z
          back (inr z) =
              let same : j ≡ i = e ∙ (ap (λ (u : ℕ). set_of m.states u p) z.1 ∙ (ap (λ (u : ℕ). set_of m.states (transition_at list k).letter u) z.0 ∙ sym position)) in
              absurd (n same)

-- the same, where the code has the parts of the transition as numbers of its own
module _ (m : Machine) (list : List ℕ) (wanted : List Bool) (targets : List ℕ) (k : ℕ) (good : well_formed m list ≡ true) (lt : k < m.transitions) (f : Filled m list wanted targets k)
    (x p q : ℕ) (letter : x ≡ (transition_at list k).letter) (from : p ≡ (transition_at list k).from) (to : q ≡ (transition_at list k).to) where
  pub parts_small : (m.states ≤ 64) × (p < m.states) × (x ≤ 250) × (x * m.states ≤ 16000)
  parts_small =
      let i = inside_at m list good k lt in
      let small : x ≤ 250 = (let a = i.letter in let b = i.letters in omega arith) in
      (i.few, rw from i.from, small, product_small m.states x i.few small)

  pub parts_room : set_of m.states x p < length targets
  parts_room = rw (letter, from) (put_room m list wanted targets k (inside_at m list good k lt) f)

  pub parts_none : (b : Bool) → (b ≡ true) ↔ Wanted wanted x → b ≡ false → Filled m list wanted targets (k + 1)
  parts_none b says = put_none m list wanted targets k (inside_at m list good k lt) f b (rw letter at says)

  pub parts_some : (b : Bool) (v r : ℕ) → (b ≡ true) ↔ Wanted wanted x → b ≡ true
      → SetIs r v (λ s. In (get_or targets (set_of m.states x p) 0) s ⊎ ((s ≡ q) × (s < width))) → Filled m list wanted (set targets (set_of m.states x p) r) (k + 1)
  parts_some b v r says yes' s = rw (letter, from) (put_some m list wanted targets k (inside_at m list good k lt) f b _ v r (rw letter at says) yes' refl (rw (letter, from, to) at s))

pub filled_start : (m : Machine) (list : List ℕ) (wanted : List Bool) (targets : List ℕ) → set_of m.states m.letters m.states ≤ length targets → ((i : ℕ) → get_or targets i 0 ≡ 0) → Filled m list wanted targets 0
filled_start m list wanted targets room zeros =
    record {
      room = room;
      none_closed = zeros 1;
      members = λ x p q le lt. (
        λ h. absurd (empty_in q (subst (λ (t : ℕ). In t q) (zeros (set_of m.states x p)) h)),
        λ (z : Wanted wanted x × Listed list 0 p x q). absurd (omega (arith, z.1.listed)),
      );
    }

-- The states with epsilon transitions

pub sources_start : (targets : List ℕ) (states v : ℕ) → Sources targets states 0 v
sources_start targets states v p q lt h = absurd (omega arith)

pub sources_turn : (targets : List ℕ) (states k a b : ℕ) → k < width → Sources targets states k a → ((q : ℕ) → In a q → In b q) × ((get_or targets (2 + states + k) 0 ≡ 0 → ⊥) → k < width → In b k)
    → Sources targets states (k + 1) b
sources_turn targets states k a b lt s adds p q less h = at (ℕ_discrete p k)
  where
    at : Dec (p ≡ k) → In b p
    at (yes e) =
        subst (λ (n : ℕ). In b n) (sym e) (adds.1 (λ z. empty_in q (subst (λ (y : ℕ). In y q) (ap (λ (n : ℕ). get_or targets (2 + states + n) 0) e ∙ z) h)) lt)
    at (no n) = adds.0 p (s p q (omega arith) h)

-- The whole table

pub made : (m : Machine) (list : List ℕ) (wanted : List Bool) (targets : List ℕ) (v : ℕ) → well_formed m list ≡ true → Filled m list wanted targets m.transitions → Sources targets m.states m.states v
    → Made m list wanted (set targets 0 v)
made m list wanted targets v good f from = record { rows = row; none_closed = get_or-set_other targets 0 1 v 0 (λ (e : 1 ≡ 0). omega arith) ∙ f.none_closed; sources = λ p q d. subst (λ (y : ℕ). In y p) (sym (get_or-set_same targets 0 v 0 some)) (source p q d) }
  where
    some : 0 < length targets
    some = let z = f.room in omega arith

    other : (x p : ℕ) → get_or (set targets 0 v) (set_of m.states x p) 0 ≡ get_or targets (set_of m.states x p) 0
    other x p = get_or-set_other targets 0 (set_of m.states x p) v 0 (λ (e : set_of m.states x p ≡ 0). omega arith)

    row : (x : ℕ) → x ≤ m.letters → Wanted wanted x → Row m list (set targets 0 v) x
    row x le w =
        record {
          room = subst (λ (n : ℕ). set_of m.states x m.states ≤ n) (sym (length-set targets 0 v)) (in_room m.states x m.letters (length targets) le f.room);
          listed = λ p q lt. (
            λ h. ((f.members x p q le lt).0 (subst (λ (y : ℕ). In y q) (other x p) h)).1,
            λ d. subst (λ (y : ℕ). In y q) (sym (other x p)) ((f.members x p q le lt).1 (w, d)),
          );
        }

    source : (p q : ℕ) → Listed list m.transitions p 0 q → In v p
    source p q d =
        let lt : p < m.states = subst (λ (n : ℕ). n < m.states) d.from ((rules m list good).from_below d.number d.listed) in
        let h = (f.members 0 p q (omega arith) lt).1 (inl refl, d) in
        let z : set_of m.states 0 p ≡ 2 + m.states + p = omega arith in
        from p q lt (subst (λ (n : ℕ). In (get_or targets n 0) q) z h)

-- no set: no closures
pub none_in_zero : (targets : List ℕ) → get_or targets 1 0 ≡ 0 → (p : ℕ) → In (get_or targets 1 0) p → ⊥
none_in_zero targets e p h = empty_in p (subst (λ (y : ℕ). In y p) e h)

pub made_for : (m : Machine) (list : List ℕ) (wanted : List Bool) (targets : List ℕ) → Made m list wanted targets → (w : List ℕ) → Lettered m.letters w
    → ((i : ℕ) → i < length w → get_or wanted (get_or w i 0) false ≡ true) → Prepared m list w targets
made_for m list wanted targets t w letters marked =
    record {
      epsilon = t.rows 0 (omega arith) (inl refl);
      letters = λ i lt. t.rows (get_or w i 0) (letters i lt) (inr (marked i lt));
      sources = t.sources;
      closed = λ k kinds p h. absurd (none_in_zero targets t.none_closed p h);
    }

-- The closures

-- what a state reaches at a position, in a graph that has the edges and the sets of another
module _ (G H : Graph) (edges : (T : Mode) (p q : ℕ) → Edge G T 0 p q → Edge H T 0 p q) (begins : (q : ℕ) → In G.buffering q → In H.buffering q) (turns : (q : ℕ) → In G.matching q → In H.matching q) where
  free_carried : (T : Mode) {p q : ℕ} → Free G T p q → Free H T p q
  free_carried T here = here
  free_carried T (more s e) = more (free_carried T s) (edges T _ _ e)

  turn_carried : (p q : ℕ) → Turn G p q → Turn H p q
  turn_carried p q (inl e) = inl (edges Normal p q e)
  turn_carried p q (inr c) =
      inr (record {
        begins = begins p c.begins;
        middle = c.middle;
        storing = free_carried Buffering c.storing;
        turns = turns c.middle c.turns;
        emptying = free_carried Emptying c.emptying;
      })

  pub turns_carried : {p q : ℕ} → Star (Turn G) p q → Star (Turn H) p q
  turns_carried here = here
  turns_carried (more s e) = more (turns_carried s) (turn_carried _ _ e)

-- and where two tables have the same row of letter 0
module _ (states g h : ℕ) (a b : List ℕ) (same : (i : ℕ) → 2 + states ≤ i → get_or b i 0 ≡ get_or a i 0) where
  pub turns_same : (p q : ℕ) → Star (Turn (graph a states g h)) p q ↔ Star (Turn (graph b states g h)) p q
  turns_same p q = (
    turns_carried (graph a states g h) (graph b states g h) (λ T p q e. record { state = e.state; target = subst (λ (y : ℕ). In y q) (sym (row p)) e.target; may = e.may }) (λ q z. z) (λ q z. z),
    turns_carried (graph b states g h) (graph a states g h) (λ T p q e. record { state = e.state; target = subst (λ (y : ℕ). In y q) (row p) e.target; may = e.may }) (λ q z. z) (λ q z. z),
  )
    where
      row : (p : ℕ) → get_or b (set_of states 0 p) 0 ≡ get_or a (set_of states 0 p) 0
      row p = same (set_of states 0 p) (omega arith)

module _ (states g h : ℕ) (before : List ℕ) (good : Good before states g h) where
  pub closing_start : Closing states g h before before 0
  closing_start = record { size = refl; others = λ i z. refl; done = λ q lt. absurd (omega arith) }

  module _ (now : List ℕ) (p : ℕ) (c : Closing states g h before now p) where
    pub closing_good : get_or before 1 0 ≡ 0 → Good now states g h
    closing_good none =
        record {
          few = good.few;
          row = let a = good.row in let e = c.size in omega arith;
          epsilons = λ p q lt z. subst (λ (y : ℕ). In y p) (sym (c.others 0 (inl (omega arith))))
              (good.epsilons p q lt (subst (λ (y : ℕ). In y q) (c.others (set_of states 0 p) (inr (omega arith))) z));
          closed = λ p z. absurd (none_in_zero now (c.others 1 (inl (omega arith)) ∙ none) p z);
        }

    pub closing_turn : (alone own : ℕ) → p < states → Members alone (λ q. (q ≡ p) × (q < width)) → Members own (From alone (Star (Turn (graph now states g h))))
        → Closing states g h before (set now (2 + p) own) (p + 1)
    closing_turn alone own lt only closure =
        record {
          size = length-set now (2 + p) own ∙ c.size;
          others = λ i z. get_or-set_other now (2 + p) i own 0 (λ (e : i ≡ 2 + p). other i e z) ∙ c.others i z;
          done = λ q less. set_cases now (2 + p) own 0 room (λ j t. j ≡ closure_of q → Members t (Star (Turn (graph before states g h)) q)) (λ e. here' q (omega arith))
              (λ j n e. subst (λ (y : ℕ). Members (get_or now y 0) (Star (Turn (graph before states g h)) q)) (sym e) (c.done q (omega arith))) (closure_of q) refl;
        }
      where
        room : 2 + p < length now
        room = let a = good.row in let e = c.size in omega arith

        other : (i : ℕ) → i ≡ 2 + p → (i < 2) ⊎ (2 + states ≤ i) → ⊥
        other i e (inl z) = omega arith
        other i e (inr z) = omega arith

        small : p < width
        small = let a = good.few in omega arith

        -- the closure of p, from the table as it was
        here' : (q : ℕ) → q ≡ p → Members own (Star (Turn (graph before states g h)) q)
        here' q e = subst (λ (n : ℕ). Members own (Star (Turn (graph before states g h)) n)) (sym e)
            (members_as closure
            (λ r z. (turns_same states g h before now (λ i le. c.others i (inr le)) p r).1 (subst (λ (n : ℕ). Star (Turn (graph now states g h)) n r) ((only.members z.0).0 z.1).0 z.2))
            (λ r z. (p, (only.members p).1 (refl, small), (turns_same states g h before now (λ i le. c.others i (inr le)) p r).0 z)))

  pub closing_end : (now : List ℕ) (all : ℕ) → Closing states g h before now states → Members all (λ p. (p < states) × (p < width)) → WithClosures states g h before (set now 1 all)
  closing_end now all c full =
      record {
        size = length-set now 1 all ∙ c.size;
        epsilons = get_or-set_other now 1 0 all 0 (λ (e : 0 ≡ 1). omega arith) ∙ c.others 0 (inl (omega arith));
        rows = λ i le. get_or-set_other now 1 i all 0 (λ (e : i ≡ 1). omega arith) ∙ c.others i (inr le);
        all = λ p lt. subst (λ (y : ℕ). In y p) (sym second) ((full.members p).1 (lt, let a = good.few in omega arith));
        closed = λ p z. closed p ((full.members p).0 (subst (λ (y : ℕ). In y p) second z)).0;
      }
    where
      second : get_or (set now 1 all) 1 0 ≡ all
      second = get_or-set_same now 1 all 0 (let a = good.row in let e = c.size in omega arith)

      closed : (p : ℕ) → p < states → Closed (set now 1 all) states g h p
      closed p lt =
          record {
            state = lt;
            closure = subst (λ (y : ℕ). Members y (Star (Turn (graph (set now 1 all) states g h)) p)) (sym (get_or-set_other now 1 (closure_of p) all 0 (λ (e : closure_of p ≡ 1). omega arith)))
                (members_as (c.done p lt) (λ q z. (same p q).0 z) (λ q z. (same p q).1 z));
          }
        where
          same : (p q : ℕ) → Star (Turn (graph before states g h)) p q ↔ Star (Turn (graph (set now 1 all) states g h)) p q
          same = turns_same states g h before (set now 1 all) (λ i le. get_or-set_other now 1 i all 0 (λ (e : i ≡ 1). omega arith) ∙ c.others i (inr le))

-- The whole table

pub made_good : (m : Machine) (list : List ℕ) (wanted : List Bool) (targets : List ℕ) (g h : ℕ) → well_formed m list ≡ true → Made m list wanted targets → Good targets m.states g h
made_good m list wanted targets g h good t =
    record {
      few = (rules m list good).states_fit;
      row = (t.rows 0 (omega arith) (inl refl)).room;
      epsilons = λ p q lt z. t.sources p q (((t.rows 0 (omega arith) (inl refl)).listed p q lt).0 z);
      closed = λ p z. absurd (none_in_zero targets t.none_closed p z);
    }

-- two sets of the states of one kind are the same number
one_set : (marks : List ℕ) (states b r s : ℕ) → Kind marks states b r → Kind marks states b s → r ≡ s
one_set marks states b r s x y = same_members r s (λ q. (λ z. (y.members q).1 ((x.members q).0 z), λ z. (x.members q).1 ((y.members q).0 z)))

module _ (m : Machine) (list : List ℕ) (wanted : List Bool) (before after : List ℕ) (k : Kinds) (kinds : KindsOf m.marks m.states k) (t : Made m list wanted before) (c : WithClosures m.states k.buffering k.matching before after) where
  -- a row is as it was
  row_kept : (x : ℕ) → Row m list before x → Row m list after x
  row_kept x r =
      record {
        room = let a = r.room in let e = c.size in omega arith;
        listed = λ p q lt. (
          λ z. (r.listed p q lt).0 (subst (λ (y : ℕ). In y q) (c.rows (set_of m.states x p) (omega arith)) z),
          λ z. subst (λ (y : ℕ). In y q) (sym (c.rows (set_of m.states x p) (omega arith))) ((r.listed p q lt).1 z),
        );
      }

  pub made_whole : ((x : ℕ) → x ≤ m.letters → get_or wanted x false ≡ true) → Whole m list after
  made_whole all w letters =
      record {
        epsilon = row_kept 0 (t.rows 0 (omega arith) (inl refl));
        letters = λ i lt. row_kept (get_or w i 0) (t.rows (get_or w i 0) (letters i lt) (inr (all (get_or w i 0) (letters i lt))));
        sources = λ p q z. subst (λ (y : ℕ). In y p) (sym c.epsilons) (t.sources p q z);
        closed = λ l others p z.
            subst (λ (g : ℕ). Closed after m.states g l.matching p) (one_set m.marks m.states 4 k.buffering l.buffering kinds.buffering others.buffering)
            (subst (λ (h : ℕ). Closed after m.states k.buffering h p) (one_set m.marks m.states 8 k.matching l.matching kinds.matching others.matching) (c.closed p z));
      }
