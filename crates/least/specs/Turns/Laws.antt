-- The laws of specs/Turns.antt.
--
-- so_start, so_more, so_end == the loop of a turn of normal moves: it begins, takes a state, ends
-- copies_start, copies_more, copies_under, copies_end == the loop of a turn of copies over the guesses: it begins, takes a guess, lowers its limit, ends
-- most_start .. most_end == the loop that finds the largest number of a set of states
-- first_rounds, initial_is == the first numbers; the set of the initial states
-- entered_other, entered_inside, entered_is == the ways through `with_entered`
-- below_start, below_more, below_end == the loop over all transitions
-- first_more, first_end, first_yes, first_no == the loop that writes the first numbers
-- turns_part, turns_buffer == the buffering states that were started
-- rounds_under, limit_falls, limit_none == a smaller limit; numbers that fall stay below it; no limit
-- lowered_same, lowered_to, lowered_then == the loop that lowers the limit
-- turns_end           == the last turn: no buffering state was started
-- turns_less          == each turn lowers the measure
use Rattle.std.specs.Prelude.{ℕ, ◌+◌, ◌*◌, ◌%◌, ◌^◌, ◌≤◌, ◌<◌, ◌≡◌, refl, ◌⊎◌, ◌↔◌, Bool, true, false, List, length, get_or, set, min, ◌-◌}
use Rattle.std.proofs.Common.{sym, ◌∙◌, subst, inl, inr, arith, eqb-true, eq-eqb}
use Rattle.std.proofs.Math.Path.{ap}
use Rattle.std.proofs.Math.Decide.{ℕ_discrete, dec_lt}
use Rattle.std.specs.Int.Count.{ones}
use Rattle.std.proofs.lemmas.Bool.{eqb-false}
use Rattle.basics.specs.Lists.Laws.{set_next}
use Rattle.graphs.specs.Cost.{Route, Settled}
use Rattle.graphs.specs.Back.{Back}
use Rattle.basics.specs.Search.Laws.{true_or_false}
use Rattle.stateset.specs.Set.{width, digit, In, has, added, SetIs, Taken}
use Rattle.stateset.specs.Set.Laws.{in?, has_in, in_lt, empty_in, ones_mono, ones_zero, ones_of_zero}
use Rattle.fsbm.specs.Machine.{well_formed, transition_at, mark_of, final, buffering, matching}
use Rattle.fsbm.specs.Published.{fsbm_of}
use Rattle.fsbm.specs.Rules.{rules, one_kind}
use Rattle.fsbm.specs.declared.machine.Machine.{Machine}
use Rattle.images.specs.Graph.{KindsOf}
use Rattle.images.specs.declared.Kinds.{Kinds}
use Rattle.pieces.specs.Pairs.{Pair, both, PairMove, NormalMove, Piece, moved}
use Rattle.pieces.specs.Blocks.{nothing, cell, cost_of}
use Rattle.pieces.proofs.BlocksLaws.{cost_inside, cost_past, block_copies}
use Rattle.pieces.proofs.RoundsLaws.{NormalDone, CopiesDone, rounds_start, rounds_turn, rounds_looked, rounds_copied, rounds_end, stores_enters, copy_origin}
use Rattle.blocks.specs.Numbers.{total}
use Rattle.blocks.specs.Numbers.Laws.{added_more, taken_fewer, Left, Rest, left_start, left_more, left_end}
use Rattle.blocks.specs.Works.{Kind}
use Rattle.blocks.specs.Works.Laws.{block_inside}
use Rattle.least.specs.Falls.{Falls, NormalFrom, CopyEnds}
use Rattle.least.specs.Falls.Laws.{falls_none, falls_then, falls_under}
use Rattle.least.specs.Turns.{Entered, EnteredBelow, EnteredBy, first_of, Limit, Lowered, RoundsOf, NormalSo, NormalTurn, Made, Bound, Tops, Guessed, CopyTurn, First}

-- Normal moves

module _ (m : Machine) (list : List ℕ) where
  pub so_start : (d : List ℕ) (fresh started : ℕ) → fresh < 2 ^ width → started ≡ 0 → NormalSo m list d fresh d fresh started
  so_start d fresh started h e =
      record {
        size = refl;
        fits = h;
        down = λ q. omega arith;
        rounds = λ top small r. rounds_copied r (λ q. In started q ⊎ In fresh q) (λ q quiet. inl (λ k. quiet (inr k)));
        less = let z = ap ones e in let y = ones_of_zero in omega arith;
      }

  pub so_more : {d₀ d d' : List ℕ} {fresh₀ fresh fresh₁ fresh₂ started started₁ q : ℕ} → q < 64 → Taken fresh q fresh₁
      → SetIs started₁ (added started q) (λ p. In started p ⊎ ((p ≡ q) × (p < width)))
      → Falls (NormalFrom m list d q) (NormalFrom m list d q) d fresh₁ d' fresh₂ → NormalSo m list d₀ fresh₀ d fresh started → NormalSo m list d₀ fresh₀ d' fresh₂ started₁
  so_more {d₀} {d} {d'} {fresh₀} {fresh} {fresh₁} {fresh₂} {started} {started₁} {q} here k is f so =
      record {
        size = f.size ∙ so.size;
        fits = f.fits;
        down = λ p. let x = f.down p in let y = so.down p in omega arith;
        rounds = λ top small r.
            rounds_turn (so.rounds top small r) (cost_of d') f.down (λ p. origin p (f.origin p)) (λ p quiet. normal top small p quiet (ℕ_discrete p q)) (λ p quiet. inl (copies p quiet));
        less =
            let x = added_more started q here in
            let y = ap ones is.value in
            omega (arith, f.less, taken_fewer so.fits k, so.less);
      }
    where
      origin : (p : ℕ) → (cost_of d' p ≡ cost_of d p) ⊎ NormalFrom m list d q p (cost_of d' p) → (cost_of d' p ≡ cost_of d p) ⊎ ((x : ℕ) × (w : ℕ) × Piece (fsbm_of m list) x p w × (cost_of d' p ≡ w + cost_of d x))
      origin p (inl e) = inl e
      origin p (inr c) = inr (q, c.weight, moved c.move, c.value)

      -- whoever is not fresh now was not lowered
      same : (p : ℕ) → (In fresh₂ p → ⊥) → (cost_of d' p ≡ cost_of d p) ⊎ In fresh₂ p → cost_of d' p ≡ cost_of d p
      same p quiet (inl e) = e
      same p quiet (inr j) = absurd (quiet j)

      old : (p : ℕ) → (In fresh₂ p → ⊥) → (p ≡ q → ⊥) → In fresh p → ⊥
      old p quiet other j = quiet (f.stays p ((k.rest.members p).1 (j, other)))

      normal : (top : ℕ) → top ≤ nothing → (p : ℕ) → (In fresh₂ p → ⊥) → Dec (p ≡ q) → ((In fresh p → ⊥) × (cost_of d' p ≡ cost_of d p)) ⊎ NormalDone (fsbm_of m list) top (cost_of d') p
      normal top small p quiet (no n) = inl (old p quiet n, same p quiet (f.changed p))
      normal top small p quiet (yes e) = inr (λ z w move l. done z w move l)
        where
          done : (z w : ℕ) → NormalMove (fsbm_of m list) p z w → w + cost_of d' p < top → cost_of d' z ≤ w + cost_of d' p
          done z w move l =
              let s = same p quiet (f.changed p) in
              let t : cost_of d p ≡ cost_of d q = ap (cost_of d) e in
              let j = f.settled z (w + cost_of d q) (record { known = omega arith; weight = w; move = subst (λ (i : ℕ). NormalMove (fsbm_of m list) i z w) e move; value = refl }) in
              omega arith

      copies : (p : ℕ) → (In started₁ p ⊎ In fresh₂ p → ⊥) → (In started p ⊎ In fresh p → ⊥) × (cost_of d' p ≡ cost_of d p)
      copies p quiet = (not_waiting, same p (λ j. quiet (inr j)) (f.changed p))
        where
          other : p ≡ q → ⊥
          other e = quiet (inl ((is.members p).1 (inr (e, omega arith))))

          not_waiting : In started p ⊎ In fresh p → ⊥
          not_waiting (inl j) = quiet (inl ((is.members p).1 (inl j)))
          not_waiting (inr j) = old p (λ i. quiet (inr i)) other j

  pub so_end : {d₀ d : List ℕ} {fresh₀ fresh started : ℕ} → fresh ≡ 0 → NormalSo m list d₀ fresh₀ d fresh started → NormalTurn m list d₀ fresh₀ d started
  so_end {d₀} {d} {fresh₀} {fresh} {started} e so =
      record {
        size = so.size;
        down = so.down;
        rounds = λ top small r. rounds_copied (rounds_looked (so.rounds top small r) (λ q. ⊥) (λ q quiet. inl (empty q))) (In started) (λ q quiet. inl (λ k. not_waiting q quiet k));
        less = let z = ap ones e in omega (arith, so.less);
      }
    where
      empty : (q : ℕ) → In fresh q → ⊥
      empty q k = empty_in q (subst (λ (i : ℕ). In i q) e k)

      not_waiting : (q : ℕ) → (In started q → ⊥) → In started q ⊎ In fresh q → ⊥
      not_waiting q quiet (inl k) = quiet k
      not_waiting q quiet (inr k) = empty q k

-- Copies

module _ (m : Machine) (list : List ℕ) (good : well_formed m list ≡ true) (h : ℕ) (matches : Kind (matching m.marks) h) (limit set : ℕ) (d₀ : List ℕ) where
  pub copies_start : (ends got : ℕ) → got ≡ 0 → Falls (Made m list set d₀) (Bound m list limit set d₀ (Left ends ends)) d₀ 0 d₀ got
  copies_start ends got e = rw e (falls_none d₀ 0 (omega arith) (λ z v c. left_start ends c.guess c.holds))

  -- a buffering state is not lowered, since no copy ends there
  unchanged : {P : ℕ → Type 0} {d : List ℕ} {got : ℕ} → Falls (Made m list set d₀) (Bound m list limit set d₀ P) d₀ 0 d got → (g : ℕ) → buffering m.marks g ≡ true → cost_of d g ≡ cost_of d₀ g
  unchanged {d = d} f g buffers = on (f.origin g)
    where
      on : (cost_of d g ≡ cost_of d₀ g) ⊎ Made m list set d₀ g (cost_of d g) → cost_of d g ≡ cost_of d₀ g
      on (inl e) = e
      on (inr c) = absurd (one_kind m list (rules m list good) g buffers c.ends)

  pub copies_more : {ends rest rest' guess : ℕ} {d d' : List ℕ} {got got' : ℕ} {b : List ℕ} → Entered m list ends → ((q : ℕ) → In set q → buffering m.marks q ≡ true) → Rest ends rest → Taken rest guess rest'
      → Falls (Made m list set d₀) (Bound m list limit set d₀ (Left ends rest)) d₀ 0 d got → Guessed m list limit h guess set d got d' got' b
      → Falls (Made m list set d₀) (Bound m list limit set d₀ (Left ends rest')) d₀ 0 d' got'
  copies_more {ends} {rest} {rest'} {guess} {d} {d'} {got} {got'} {b} entered buffers r k f g = falls_then (λ z v c. c) there back f (falls_under g.falls)
    where
      turns : matching m.marks guess ≡ true
      turns = entered.only guess (r.part guess k.member)

      there : (z v : ℕ) → CopyEnds g.top b guess (In h) z v → Made m list set d₀ z v
      there z v c =
          let e = (matches z).0 c.holds in
          let n = block_inside b (both guess z) in
          let (first, w, member, piece, value) = copy_origin g.block.settles z turns e (omega (arith, c.known)) in
          let s = unchanged f first (buffers first member) in
          record { ends = e; first = first; weight = w; member = member; piece = piece; value = omega (arith, c.value) }

      bound : (z v : ℕ) (c : Bound m list limit set d₀ (Left ends rest') z v) → c.guess ≡ guess → cost_of d' z ≤ v
      bound z v c e = on (dec_lt v g.top)
        where
          over : (cost_of d z ≤ g.top) ⊎ (limit ≤ g.top) → g.top ≤ v → cost_of d' z ≤ v
          over (inl l) le = let k = g.falls.down z in omega arith
          over (inr n) le = absurd (omega (arith, c.small))

          on : Dec (v < g.top) → cost_of d' z ≤ v
          on (no n) = over (g.tops.bounds z ((matches z).1 c.ends)) (omega arith)
          on (yes l) =
              let s = unchanged f c.first c.buffers in
              let route = subst (λ (i : ℕ). Route Pair (PairMove (fsbm_of m list)) (both c.first i) (both i z) c.weight) e c.route in
              let k = block_copies g.block.settles c.member c.buffers route (omega (arith, c.value)) in
              let n = block_inside b (both guess z) in
              let known : cell b guess z < g.top = omega (arith, c.value) in
              let j = g.falls.settled z (cell b guess z + 2) (record { holds = (matches z).1 c.ends; known = known; value = refl }) in
              omega (arith, c.value)

      back : (z v : ℕ) → Bound m list limit set d₀ (Left ends rest') z v → Bound m list limit set d₀ (Left ends rest) z v ⊎ (cost_of d' z ≤ v)
      back z v c = on ((left_more r k c.guess).0 c.holds)
        where
          on : Left ends rest c.guess ⊎ (c.guess ≡ guess) → Bound m list limit set d₀ (Left ends rest) z v ⊎ (cost_of d' z ≤ v)
          on (inl l) =
              inl (record {
                first = c.first;
                guess = c.guess;
                weight = c.weight;
                member = c.member;
                buffers = c.buffers;
                holds = l;
                turns = c.turns;
                ends = c.ends;
                route = c.route;
                value = c.value;
                small = c.small;
              })
          on (inr e) = inr (bound z v c e)

  -- what holds of all copies below a limit holds of those below a smaller one
  pub copies_under : {P : ℕ → Type 0} {d : List ℕ} {got : ℕ} (less : ℕ) → less ≤ limit → Falls (Made m list set d₀) (Bound m list limit set d₀ P) d₀ 0 d got
      → Falls (Made m list set d₀) (Bound m list less set d₀ P) d₀ 0 d got
  copies_under {P} less le f =
      record {
        size = f.size;
        fits = f.fits;
        down = f.down;
        stays = f.stays;
        changed = f.changed;
        less = f.less;
        origin = f.origin;
        settled = λ q v c.
            f.settled q v
            (record {
              first = c.first;
              guess = c.guess;
              weight = c.weight;
              member = c.member;
              buffers = c.buffers;
              holds = c.holds;
              turns = c.turns;
              ends = c.ends;
              route = c.route;
              value = c.value;
              small = let k = c.small in omega arith;
            });
      }

  pub copies_end : {ends₀ rest : ℕ} {d : List ℕ} {fresh : ℕ} → Entered m list ends₀ → rest ≡ 0 → Falls (Made m list set d₀) (Bound m list limit set d₀ (Left ends₀ rest)) d₀ 0 d fresh → {limit₀ : ℕ} → limit ≤ limit₀ → (Limit m.marks d₀ limit₀ → Limit m.marks d limit)
      → CopyTurn m list limit₀ set d₀ d fresh limit
  copies_end {ends₀} {rest} {d} {fresh} entered e f {limit₀} le keeps =
      record {
        no_larger = le;
        keeps = keeps;
        size = f.size;
        down = f.down;
        rounds = λ started part r. rounds_turn r (cost_of d) f.down (λ z. origin z (f.origin z)) (λ p quiet. inl (λ k. k, same p quiet (f.changed p)))
            (λ g quiet. copies started part g quiet (in? started g));
        less = let z = ones_of_zero in omega (arith, f.less);
      }
    where
      origin : (z : ℕ) → (cost_of d z ≡ cost_of d₀ z) ⊎ Made m list set d₀ z (cost_of d z) → (cost_of d z ≡ cost_of d₀ z) ⊎ ((p : ℕ) × (w : ℕ) × Piece (fsbm_of m list) p z w × (cost_of d z ≡ w + cost_of d₀ p))
      origin z (inl k) = inl k
      origin z (inr c) = inr (c.first, c.weight, c.piece, c.value)

      same : (p : ℕ) → (In fresh p → ⊥) → (cost_of d p ≡ cost_of d₀ p) ⊎ In fresh p → cost_of d p ≡ cost_of d₀ p
      same p quiet (inl k) = k
      same p quiet (inr k) = absurd (quiet k)

      copies : (started : ℕ) → ((q : ℕ) → In started q → buffering m.marks q ≡ true → In set q) → (g : ℕ) → (In fresh g → ⊥) → Dec (In started g)
          → ((In started g → ⊥) × (cost_of d g ≡ cost_of d₀ g)) ⊎ CopiesDone (fsbm_of m list) limit (cost_of d) g
      copies started part g quiet (no n) = inl (n, same g quiet (f.changed g))
      copies started part g quiet (yes k) = inr done
        where
          done : CopiesDone (fsbm_of m list) limit (cost_of d) g
          done guess z n buffers turns ends route l =
              let (p, a, δ, from) = stores_enters (one_kind m list (rules m list good)) buffers turns route in
              let j = same g quiet (f.changed g) in
              let i = f.settled z (3 + n + cost_of d₀ g)
              (record {
                first = g;
                guess = guess;
                weight = n;
                member = part g k buffers;
                buffers = buffers;
                holds = (left_end ends₀ rest guess e).1 (entered.all p a guess δ turns from);
                turns = turns;
                ends = ends;
                route = route;
                value = refl;
                small = omega arith;
              }) in
              omega arith

-- The first turn and the last

module _ (m : Machine) (list : List ℕ) where
  pub first_rounds : {initial : ℕ} {d : List ℕ} → ((q : ℕ) → In initial q ↔ (fsbm_of m list).I q) → First initial d → RoundsOf nothing m list (In initial) (In initial) d
  first_rounds {initial} {d} is f =
      rounds_start (In initial) (In initial) (cost_of d) (λ q i. let k = (is q).1 i in (k, k, f.zero_there q k)) (λ q. on q (in? initial q))
    where
      on : (q : ℕ) → Dec (In initial q) → (fsbm_of m list).I q ⊎ (nothing ≤ cost_of d q)
      on q (yes k) = inl ((is q).0 k)
      on q (no n) = inr (f.none_elsewhere q n)

  pub initial_is : (k : Kinds) → KindsOf m.marks m.states k → (q : ℕ) → In k.initial q ↔ (fsbm_of m list).I q
  initial_is k is q = (
    λ i. let z = (is.initial.members q).0 i in (z.0, eq-eqb (mark_of m.marks q % 2) 1 (let y = z.1 in omega arith)),
    λ i. (is.initial.members q).1 (i.0, let y = eqb-true (mark_of m.marks q % 2) 1 i.1 in omega arith),
  )

  module _ (g : ℕ) (buffers : Kind (buffering m.marks) g) (started set : ℕ) {v : ℕ} (is : SetIs set v (λ q. In started q × In g q)) where
    pub turns_part : (q : ℕ) → In started q → buffering m.marks q ≡ true → In set q
    turns_part q k b = (is.members q).1 (k, (buffers q).1 b)

    pub turns_buffer : (q : ℕ) → In set q → buffering m.marks q ≡ true
    turns_buffer q k = (buffers q).0 ((is.members q).0 k).1

    pub turns_end : {top : ℕ} (d : List ℕ) → set ≡ 0 → RoundsOf top m list (λ q. ⊥) (In started) d → Settled (Back (Piece (fsbm_of m list))) (fsbm_of m list).I top (cost_of d)
    turns_end {top} d e r = rounds_end (rounds_copied r (λ q. ⊥) (λ q quiet. looked q (in? started q))) (λ q k. k) (λ q k. k)
      where
        looked : (q : ℕ) → Dec (In started q) → (In started q → ⊥) ⊎ CopiesDone (fsbm_of m list) top (cost_of d) q
        looked q (no n) = inl n
        looked q (yes k) = inr (λ h z n b i j route l. absurd (empty_in q (subst (λ (x : ℕ). In x q) e (turns_part q k b))))

    pub turns_less : {d d' d'' : List ℕ} {fresh fresh'' : ℕ} → (set ≡ 0 → ⊥) → NormalTurn m list d fresh d' started → {limit₀ limit : ℕ} → CopyTurn m list limit₀ set d' d'' fresh'' limit
        → 3 * total d'' + 2 * ones fresh'' < 3 * total d + 2 * ones fresh
    turns_less some f {limit₀} {limit} h =
        let z = ones_mono set started (λ q k. ((is.members q).0 k).0) in
        let y : ones set ≡ 0 → ⊥ = λ e. some (ones_zero set e) in
        omega (arith, f.less, h.less)

-- A smaller limit

pub rounds_under : (m : Machine) (list : List ℕ) {Fresh Started : ℕ → Type 0} (d : List ℕ) {top : ℕ} (limit : ℕ) → limit ≤ top → RoundsOf top m list Fresh Started d → RoundsOf limit m list Fresh Started d
rounds_under m list d limit le r =
    record {
      at_start = r.at_start;
      realised = λ q l. r.realised q (omega arith);
      normal = λ p q w move quiet l. r.normal p q w move quiet (omega arith);
      copies = λ g h z n b i j route quiet l. r.copies g h z n b i j route quiet (omega arith);
    }

-- once a final state has a number, it stays below the limit
pub limit_falls : {marks d d' : List ℕ} {top : ℕ} → ((q : ℕ) → cost_of d' q ≤ cost_of d q) → Limit marks d top → Limit marks d' top
limit_falls {marks} {d} {d'} {top} down l = record { small = l.small; reached = on l.reached }
  where
    on : (top ≡ nothing) ⊎ ((f : ℕ) × (final marks f ≡ true) × (cost_of d f < top)) → (top ≡ nothing) ⊎ ((f : ℕ) × (final marks f ≡ true) × (cost_of d' f < top))
    on (inl e) = inl e
    on (inr (f, last, lt)) = let k = down f in inr (f, last, omega arith)

pub limit_none : {marks d : List ℕ} → Limit marks d nothing
limit_none = record { small = omega arith; reached = inl refl }

pub lowered_same : {marks d : List ℕ} (limit : ℕ) → Lowered marks d limit limit
lowered_same limit = record { keeps = λ l. l; less = omega arith }

pub lowered_to : {marks d : List ℕ} {limit f v : ℕ} → final marks f ≡ true → f < 64 → v ≡ get_or d f 0 → v + 1 < limit → Lowered marks d limit (v + 1)
lowered_to {marks} {d} {limit} {f} {v} last here is lt =
    record { keeps = λ l. record { small = let s = l.small in omega arith; reached = inr (f, last, let z = cost_inside d f here in omega arith) }; less = omega arith }

-- the limit or one more than a number, whichever is less
pub lowered_min : {marks d : List ℕ} {limit f v r : ℕ} → final marks f ≡ true → f < 64 → v ≡ get_or d f 0 → limit < 2 ^ 64 → r ≡ min limit (min (v + 1) (2 ^ 64 - 1)) → Lowered marks d limit r
lowered_min {marks} {d} {limit} {f} {v} {r} last here is fits e = on (dec_lt (v + 1) limit)
  where
    on : Dec (v + 1 < limit) → Lowered marks d limit r
    on (yes l) = let z : r ≡ v + 1 = omega arith in rw z (lowered_to last here is l)
    on (no n) = let z : r ≡ limit = omega arith in rw z (lowered_same limit)

pub lowered_then : {marks d : List ℕ} {limit top r : ℕ} → Lowered marks d limit top → Lowered marks d top r → Lowered marks d limit r
lowered_then a b = record { keeps = λ l. b.keeps (a.keeps l); less = let x = a.less in let y = b.less in omega arith }

-- The states where storing can end

module _ (list : List ℕ) (k h set : ℕ) where
  pub entered_other : set < 2 ^ width → has h (transition_at list k).to ≡ false → EnteredBy list k h set set
  entered_other l e = record { fits = l; stays = λ q j. j; this = λ j n. absurd (eqb-false (digit h (transition_at list k).to) 1 e j); only = λ q j. inl j }

  pub entered_inside : set < 2 ^ width → has h (transition_at list k).from ≡ true → EnteredBy list k h set set
  entered_inside l e = record { fits = l; stays = λ q j. j; this = λ j n. absurd (n ((has_in h (transition_at list k).from).0 e)); only = λ q j. inl j }

  entered_here : {r : ℕ} → (transition_at list k).to < 64 → has h (transition_at list k).to ≡ true
      → SetIs r (added set (transition_at list k).to) (λ p. In set p ⊎ ((p ≡ (transition_at list k).to) × (p < width))) → EnteredBy list k h set r
  entered_here {r} l e is =
      record {
        fits = is.fits;
        stays = λ q j. (is.members q).1 (inl j);
        this = λ j n. (is.members (transition_at list k).to).1 (inr (refl, l));
        only = λ q j. on q ((is.members q).0 j);
      }
    where
      on : (q : ℕ) → In set q ⊎ ((q ≡ (transition_at list k).to) × (q < width)) → In set q ⊎ In h q
      on q (inl j) = inl j
      on q (inr j) = inr (subst (λ (i : ℕ). In h i) (sym j.0) ((has_in h (transition_at list k).to).0 e))

  pub entered_is : {to r : ℕ} → to ≡ (transition_at list k).to → to < 64 → has h to ≡ true → SetIs r (added set to) (λ p. In set p ⊎ ((p ≡ to) × (p < width))) → EnteredBy list k h set r
  entered_is {to} {r} e l is_in is =
      entered_here (rw e at l) (rw e at is_in) (subst (λ (z : ℕ). SetIs r (added set z) (λ p. In set p ⊎ ((p ≡ z) × (p < width)))) e is)

module _ (m : Machine) (list : List ℕ) where
  pub below_start : (set : ℕ) → set ≡ 0 → EnteredBelow m list 0 set
  below_start set e =
      record { fits = omega arith; all = λ k (lt : k < 0). absurd (omega arith); only = λ q j. absurd (empty_in q (subst (λ (i : ℕ). In i q) e j)) }

  pub below_more : {h : ℕ} → Kind (matching m.marks) h → {k set r : ℕ} → EnteredBelow m list k set → EnteredBy list k h set r → EnteredBelow m list (k + 1) r
  below_more {h} matches {k} {set} {r} f g = record { fits = g.fits; all = λ j lt to from. on j lt to from (dec_lt j k); only = λ q j. kind q (g.only q j) }
    where
      on : (j : ℕ) → j < k + 1 → matching m.marks (transition_at list j).to ≡ true → (matching m.marks (transition_at list j).from ≡ true → ⊥) → Dec (j < k) → In r (transition_at list j).to
      on j lt to from (yes l) = g.stays (transition_at list j).to (f.all j l to from)
      on j lt to from (no n) =
          let e : j ≡ k = omega arith in
          subst (λ (i : ℕ). In r (transition_at list i).to) (sym e)
          (g.this (subst (λ (i : ℕ). In h (transition_at list i).to) e ((matches (transition_at list j).to).1 to))
          (λ i. from ((matches (transition_at list j).from).0 (subst (λ (x : ℕ). In h (transition_at list x).from) (sym e) i))))

      kind : (q : ℕ) → In set q ⊎ In h q → matching m.marks q ≡ true
      kind q (inl j) = f.only q j
      kind q (inr j) = (matches q).0 j

  pub below_end : {k set : ℕ} → m.transitions ≤ k → EnteredBelow m list k set → Entered m list set
  below_end {k} {set} le f =
      record {
        fits = f.fits;
        all = λ p a q e to from.
            subst (λ (i : ℕ). In set i) e.to
            (f.all e.number (omega (arith, e.listed)) (subst (λ (i : ℕ). matching m.marks i ≡ true) (sym e.to) to)
            (λ j. from (subst (λ (i : ℕ). matching m.marks i ≡ true) e.from j)));
        only = f.only;
      }

-- The first numbers

module _ (initial : ℕ) where
  pub first_more : (d : List ℕ) (q v : ℕ) → q < length d → v ≡ first_of (has initial q) → ((p : ℕ) → p < q → get_or d p 0 ≡ first_of (has initial p))
      → (p : ℕ) → p < q + 1 → get_or (set d q v) p 0 ≡ first_of (has initial p)
  first_more d q v room is f = set_next d q v 0 room (λ p x. x ≡ first_of (has initial p)) is f

  pub first_end : {d : List ℕ} → initial < 2 ^ width → length d ≡ 64 → ((p : ℕ) → p < 64 → get_or d p 0 ≡ first_of (has initial p)) → First initial d
  unfolding first_of
  first_end {d} fits size f = record { size = size; zero_there = λ q k. zero_at q k; none_elsewhere = λ q n. none_at q n (dec_lt q 64) (true_or_false (has initial q)) }
    where
      zero_at : (q : ℕ) → In initial q → cost_of d q ≡ 0
      zero_at q k =
          let l = in_lt {w = width} {x = initial} {q = q} fits k in
          cost_inside d q l ∙ f q l ∙ ap first_of ((has_in initial q).1 k)

      none_at : (q : ℕ) → (In initial q → ⊥) → Dec (q < 64) → (has initial q ≡ true) ⊎ (has initial q ≡ false) → nothing ≤ cost_of d q
      none_at q n (no k) b = let z = cost_past d q (omega arith) in omega arith
      none_at q n (yes l) (inl e) = absurd (n ((has_in initial q).0 e))
      none_at q n (yes l) (inr e) = let z = cost_inside d q l ∙ f q l ∙ ap first_of e in omega arith

pub first_yes : (b : Bool) → b ≡ true → 0 ≡ first_of b
unfolding first_of
first_yes b e = ap first_of (sym e)

pub first_no : (b : Bool) → b ≡ false → nothing ≡ first_of b
unfolding first_of
first_no b e = ap first_of (sym e)

-- The largest number of a set of states

module _ (h : ℕ) (d : List ℕ) where
  pub most_start : (most z : ℕ) → Left h h z → cost_of d z ≤ most
  most_start most z l = absurd (left_start h z l)

  pub most_more : {rest rest' q most most' : ℕ} → Rest h rest → Taken rest q rest' → most ≤ most' → cost_of d q ≤ most' → ((z : ℕ) → Left h rest z → cost_of d z ≤ most)
      → (z : ℕ) → Left h rest' z → cost_of d z ≤ most'
  most_more {rest} {rest'} {q} {most} {most'} r k up here f z l = on ((left_more r k z).0 l)
    where
      on : Left h rest z ⊎ (z ≡ q) → cost_of d z ≤ most'
      on (inl i) = let y = f z i in omega arith
      on (inr e) = let y : cost_of d z ≡ cost_of d q = ap (cost_of d) e in omega arith

  -- the largest number or the limit, whichever is less
  pub most_min : (limit rest most r : ℕ) → rest ≡ 0 → limit ≤ nothing → ((z : ℕ) → Left h rest z → cost_of d z ≤ most) → r ≡ min most limit → Tops limit h d r
  most_min limit rest most r none small f e = record { small = omega arith; bounds = λ z k. on z (dec_lt limit most) (f z ((left_end h rest z none).1 k)) }
    where
      on : (z : ℕ) → Dec (limit < most) → cost_of d z ≤ most → (cost_of d z ≤ r) ⊎ (limit ≤ r)
      on z (yes l) le = inr (omega arith)
      on z (no n) le = inl (omega arith)

  pub most_over : (limit : ℕ) → limit ≤ nothing → Tops limit h d limit
  most_over limit small = record { small = small; bounds = λ z k. inr (omega arith) }

  pub most_end : (limit rest most : ℕ) → rest ≡ 0 → most ≤ nothing → ((z : ℕ) → Left h rest z → cost_of d z ≤ most) → Tops limit h d most
  most_end limit rest most e small f = record { small = small; bounds = λ z k. inl (f z ((left_end h rest z e).1 k)) }
