-- The laws of specs/Settling.antt.
--
-- storing_below       == whoever leads out of a block has its storing half in one of the machine's states
-- take_none           == no row is taken yet
-- take_row            == a row is taken: its marks are gone, and its moves are done
-- take_less           == then the measure of the loop has fallen
-- work_end, work_done == no row has a mark: the numbers are settled
-- clear_is            == the front of a block is cleared
-- blank_is            == a block with `nothing` everywhere
-- begin_not, begin_is == a copy that begins in a state without a number, and in one that has one
-- begins_start, begins_more, begins_end == the loop over the states where a copy begins
-- begun_works         == a cleared block with the first numbers of its copies is a block that is computed
-- block_done          == the whole
use Rattle.std.specs.Prelude.{ℕ, ◌+◌, ◌*◌, ◌≤◌, ◌<◌, ◌≡◌, refl, ◌⊎◌, true, List, length, get_or, set, replicate, take, drop, ◌++◌}
use Rattle.std.proofs.Common.{◌-◌, sym, ap, ◌∙◌, subst, inl, inr, arith, length-append, length-drop, get_or-set_other}
use Rattle.std.proofs.Math.Decide.{dec_lt, ℕ_discrete}
use Rattle.std.proofs.lemmas.List.{length-replicate, get_or-replicate, length-take-le, get_or_append_left, get_or-append_right, get_or-drop}
use Rattle.std.specs.Int.Count.{ones}
use Rattle.graphs.specs.Cost.{Route, stop, via, ToGoal}
use Rattle.graphs.specs.Working.Laws.{working_start, working_looked, working_end}
use Rattle.stateset.specs.Set.{In, SetIs, Taken}
use Rattle.stateset.specs.Set.Laws.{empty_in, ones_zero, ones_of_zero}
use Rattle.fsbm.specs.Machine.{well_formed, buffering}
use Rattle.fsbm.specs.Rules.{Rules, rules, buffering_below}
use Rattle.fsbm.specs.Published.{Listed, fsbm_of}
use Rattle.fsbm.specs.declared.machine.Machine.{Machine}
use Rattle.pieces.specs.Pairs.{Pair, both, PairMove, stores_none, matches_none, letter}
use Rattle.pieces.specs.Blocks.{nothing, cell, cost_of, Node, outside, inside, BlockEdge, begins, goes_on, block_of}
use Rattle.pieces.proofs.BlocksLaws.{cell_inside, cell_past, inside_not}
use Rattle.blocks.specs.Numbers.{HasMark, Steps, Lowers, One, total, marked}
use Rattle.blocks.specs.Numbers.Laws.{Left, Rest, left_start, left_more, left_end, lowers_none, lowers_then, lowers_as, marked_set}
use Rattle.blocks.specs.Works.{Kind, Works, Waiting, Busy, RowDone}
use Rattle.blocks.specs.Works.Laws.{block_inside, block_outside, Edges, works_lowers, still_lowers}
use Rattle.blocks.specs.Settling.{Cleared, Past, blank_block, Blank, Begin, Begins, WorkOn, SettlesTo, Worked, BlockTo}

-- The states of the machine

module _ (m : Machine) (list : List ℕ) (good : well_formed m list ≡ true) (top h x : ℕ) (D : List ℕ) where
  all_rules : Rules m list
  all_rules = rules m list good

  to_below : {s a q : ℕ} → Listed list m.transitions s a q → q < m.states
  to_below e = let z = all_rules.to_below e.number e.listed in omega (arith, e.to)

  moves_below : {u v : Pair} {w : ℕ} → PairMove (fsbm_of m list) u v w → u.storing < m.states → v.storing < m.states
  moves_below (stores_none e a b) l = to_below e
  moves_below (matches_none e a b) l = l
  moves_below (letter e a b f c g) l = to_below e

  leads_below : {y z : Node} {n : ℕ} (u : Pair) → Route Node (BlockEdge (fsbm_of m list) h (cost_of D) (In x)) y z n → z ≡ outside → y ≡ inside u → u.storing < m.states
  leads_below u stop o e = absurd (inside_not (sym e ∙ o))
  leads_below u (via (begins {g = g} i j) r) o e =
      let p : both g h ≡ u = cc in
      let k = buffering_below m list all_rules g j in
      let q : g ≡ u.storing = ap (λ (i : Pair). i.storing) p in
      omega arith
  leads_below u (via (goes_on {u = p} {v = v} k) r) o e =
      let q : v ≡ u = cc in
      let l = moves_below k (leads_below p r o refl) in
      let z : v.storing ≡ u.storing = ap (λ (i : Pair). i.storing) q in
      omega arith

  module _ (b : List ℕ) (real : (u : Node) → block_of b u < top → ToGoal (BlockEdge (fsbm_of m list) h (cost_of D) (In x)) (λ u. u ≡ outside) u (block_of b u)) where
    pub storing_below : (u : Pair) → m.states ≤ u.storing → top ≤ block_of b (inside u)
    storing_below u le = on (dec_lt (block_of b (inside u)) top)
      where
        on : Dec (block_of b (inside u) < top) → top ≤ block_of b (inside u)
        on (yes l) = let t = real (inside u) l in let k = leads_below u t.route t.is_goal refl in absurd (omega arith)
        on (no f) = omega arith

  -- No row has a mark

  pub work_end : (d b : List ℕ) → ((q : ℕ) → 0 ≤ q → q < m.states → get_or d q 0 ≡ 0) → Works m list top h x D (Waiting d) b → SettlesTo m list top h x D b
  work_end d b empty so_far = working_end (working_looked {Waits' = λ (u : Node). ⊥} so_far looked) (λ u z. z)
    where
      looked : (v : Node) → (⊥ → ⊥)
          → (Waiting d v → ⊥) ⊎ ((u : Node) (w : ℕ) → BlockEdge (fsbm_of m list) h (cost_of D) (In x) u v w → w + block_of b v < top → block_of b u ≤ w + block_of b v)
      looked outside z = inl (λ i. i)
      looked (inside u) z = on (dec_lt u.storing m.states)
        where
          on : Dec (u.storing < m.states)
              → (Waiting d (inside u) → ⊥) ⊎ ((y : Node) (w : ℕ) → BlockEdge (fsbm_of m list) h (cost_of D) (In x) y (inside u) w → w + block_of b (inside u) < top → block_of b y ≤ w + block_of b (inside u))
          on (yes l) = inl (λ k. empty_in u.matching (subst (λ (i : ℕ). In i u.matching) (empty u.storing (omega arith) l) k))
          on (no f) = inr (λ y w e l. let k = storing_below b so_far.realised u (omega arith) in absurd (omega arith))

-- A row is taken

pub take_none : (m : Machine) (list : List ℕ) (top : ℕ) (b d : List ℕ) → WorkOn m list top b d b d
take_none m list top b d = record { size = refl; still = λ s t le. refl; on = λ h x D k. k }

pub take_row : {m : Machine} {list : List ℕ} {top : ℕ} (s : ℕ) (d : List ℕ) {b₀ d₀ b b' d' : List ℕ} → WorkOn m list top b₀ d₀ b d → RowDone m list top s (get_or d s 0) b (set d s 0) b' d' → WorkOn m list top b₀ d₀ b' d'
take_row s d so_far r = record { size = r.steps.size ∙ so_far.size; still = λ q t le. r.still q t le ∙ so_far.still q t le; on = λ h x D k. r.works h x D (working_looked (so_far.on h x D k) (λ u still. inl (waits u still))) }
  where
    waits : (u : Node) → (Busy (set d s 0) s (get_or d s 0) u → ⊥) → Waiting d u → ⊥
    waits outside still z = z
    waits (inside u) still z = on (ℕ_discrete u.storing s)
      where
        on : Dec (u.storing ≡ s) → ⊥
        on (yes e) = still (inr (e, subst (λ (i : ℕ). HasMark d i u.matching) e z))
        on (no f) = still (inl (subst (λ (i : ℕ). In i u.matching) (sym (get_or-set_other d s u.storing 0 0 f)) z))

pub take_less : (s : ℕ) (d : List ℕ) {b b' d' : List ℕ} → s < length d → Steps b (set d s 0) b' d' → (get_or d s 0 ≡ 0 → ⊥) → 2 * total b' + marked d' < 2 * total b + marked d
take_less s d room f some =
    let z = marked_set d s 0 room in
    let y = ones_of_zero in
    let k : ones (get_or d s 0) ≡ 0 → ⊥ = λ e. some (ones_zero (get_or d s 0) e) in
    let l : 0 < ones (get_or d s 0) = omega arith in
    omega (arith, f.falls)

pub work_done : {m : Machine} {list : List ℕ} {top : ℕ} {b d b' d' : List ℕ} → well_formed m list ≡ true → WorkOn m list top b d b' d'
    → ((q : ℕ) → 0 ≤ q → q < m.states → get_or d' q 0 ≡ 0) → Worked m list top b d b'
work_done {m} {list} {top = top} {b' = b'} {d' = d'} good w empty = record { size = w.size; still = w.still; ends = λ h x D k. work_end m list good top h x D d' b' empty (w.on h x D k) }

-- A block is cleared

pub clear_is : (n : ℕ) (b front : List ℕ) → n ≤ length b → front ≡ replicate (length (take n b)) nothing → Cleared n b (front ++ drop n b)
clear_is n b front le e =
    let size : length front ≡ n = ap length e ∙ (length-replicate {A = ℕ} (length (take n b)) nothing ∙ length-take-le n b le) in
    let far : length (drop n b) ≡ length b - n = length-drop n b in
    record {
      size = length-append front (drop n b) ∙ omega arith;
      done = λ i lt. get_or_append_left front (drop n b) 0 i (omega arith) ∙ (ap (λ (z : List ℕ). get_or z i 0) e ∙ get_or-replicate (length (take n b)) i nothing 0 (let z = length-take-le n b le in omega arith));
      rest = λ i le. get_or-append_right front (drop n b) n i 0 size le ∙ (get_or-drop n b (i - n) 0 ∙ ap (λ (z : ℕ). get_or b z 0) (let z : n + (i - n) ≡ i = omega arith in z));
    }

-- nothing stands in a cleared block
pub blank : (m : Machine) {b b' : List ℕ} → Past m b → Cleared (m.states * 64) b b' → (s t : ℕ) → nothing ≤ cell b' s t
blank m {b} {b'} past f s t = on (dec_lt s 64) (dec_lt t 64) (dec_lt s m.states)
  where
    on : Dec (s < 64) → Dec (t < 64) → Dec (s < m.states) → nothing ≤ cell b' s t
    on (yes k) (yes l) (yes i) = let z = cell_inside b' s t k l in let y = f.done (s * 64 + t) (omega arith) in omega arith
    on (yes k) (yes l) (no i) =
        let z = cell_inside b' s t k l in
        let y = f.rest (s * 64 + t) (omega arith) in
        let w = cell_inside b s t k l in
        let v = past s t (omega arith) in
        omega arith
    on (no k) l i = let z = cell_past b' s t (inl (omega arith)) in omega arith
    on (yes k) (no l) i = let z = cell_past b' s t (inr (omega arith)) in omega arith

pub blank_is : (b : List ℕ) → b ≡ blank_block → Blank b
unfolding blank_block
blank_is b e = rw e (record { size = length-replicate {A = ℕ} 4096 nothing; past = λ m s t le. on s t (dec_lt s 64) (dec_lt t 64) })
  where
    on : (s t : ℕ) → Dec (s < 64) → Dec (t < 64) → nothing ≤ cell (replicate 4096 nothing) s t
    on s t (yes k) (yes l) =
        let z = cell_inside (replicate 4096 nothing) s t k l in
        let y = get_or-replicate 4096 (s * 64 + t) nothing 0 (omega arith) in
        omega arith
    on s t (no k) l = let z = cell_past (replicate 4096 nothing) s t (inl (omega arith)) in omega arith
    on s t (yes k) (no l) = let z = cell_past (replicate 4096 nothing) s t (inr (omega arith)) in omega arith

-- Copies begin

pub begin_not : (top g guess v : ℕ) (b d : List ℕ) → top ≤ v → Lowers (Begin top g guess v) b d b d
begin_not top g guess v b d le = lowers_none b d (λ s t v' (c : Begin top g guess v s t v'). omega (arith, c.known))

pub begin_is : {top g guess v : ℕ} {b d b' d' : List ℕ} → v < top → Lowers (One g guess (v + 1)) b d b' d' → Lowers (Begin top g guess v) b d b' d'
begin_is l f = lowers_as (λ s t v c. record { known = l; one = c }) (λ s t v c. c.one) f

module _ (top guess : ℕ) (D : List ℕ) where
  pub begins_start : (set : ℕ) (b d : List ℕ) → Lowers (Begins top guess (Left set set) D) b d b d
  begins_start set b d = lowers_none b d (λ s t v c. left_start set s c.holds)

  pub begins_more : {set rest rest' q w : ℕ} {b d b₁ d₁ b₂ d₂ : List ℕ} → Rest set rest → Taken rest q rest' → w ≡ cost_of D q
      → Lowers (Begins top guess (Left set rest) D) b d b₁ d₁ → Lowers (Begin top q guess w) b₁ d₁ b₂ d₂ → Lowers (Begins top guess (Left set rest') D) b d b₂ d₂
  begins_more {set} {rest} {rest'} {q} {w} r k value f g = lowers_then left right either f g
    where
      left : (s t v : ℕ) → Begins top guess (Left set rest) D s t v → Begins top guess (Left set rest') D s t v
      left s t v c = record { holds = (left_more r k s).1 (inl c.holds); column = c.column; known = c.known; value = c.value }

      right : (s t v : ℕ) → Begin top q guess w s t v → Begins top guess (Left set rest') D s t v
      right s t v c =
          let e : cost_of D s ≡ w = ap (cost_of D) c.one.row ∙ sym value in
          record { holds = (left_more r k s).1 (inr c.one.row); column = c.one.column; known = omega (arith, c.known); value = omega (arith, c.one.value) }

      either : (s t v : ℕ) → Begins top guess (Left set rest') D s t v → Begins top guess (Left set rest) D s t v ⊎ Begin top q guess w s t v
      either s t v c = on ((left_more r k s).0 c.holds)
        where
          on : Left set rest s ⊎ (s ≡ q) → Begins top guess (Left set rest) D s t v ⊎ Begin top q guess w s t v
          on (inl l) = inl (record { holds = l; column = c.column; known = c.known; value = c.value })
          on (inr e) =
              let z : cost_of D s ≡ w = ap (cost_of D) e ∙ sym value in
              inr (record { known = omega (arith, c.known); one = record { row = e; column = c.column; value = omega (arith, c.value) } })

  pub begins_end : (set rest : ℕ) {b d b' d' : List ℕ} → rest ≡ 0 → Lowers (Begins top guess (Left set rest) D) b d b' d' → Lowers (Begins top guess (In set) D) b d b' d'
  begins_end set rest e f =
      lowers_as (λ s t v c. record { holds = (left_end set rest s e).0 c.holds; column = c.column; known = c.known; value = c.value })
      (λ s t v c. record { holds = (left_end set rest s e).1 c.holds; column = c.column; known = c.known; value = c.value }) f

-- The first numbers of a block

module _ (m : Machine) (list : List ℕ) (g : ℕ) (buffers : Kind (buffering m.marks) g) (top guess x : ℕ) (small : top ≤ nothing) (D : List ℕ) {b b₁ b₂ d d₂ : List ℕ} (past : Past m b) (cleared : Cleared (m.states * 64) b b₁) {held v : ℕ}
    (is : SetIs held v (λ q. In x q × In g q)) (f : Lowers (Begins top guess (In held) D) b₁ d b₂ d₂) where
  first : Works m list top guess x D (λ (u : Node). u ≡ outside) b₁
  first = working_start (λ (u : Node). u ≡ outside) (block_of b₁) (λ u e. (e, ap (block_of b₁) e ∙ block_outside b₁)) else
    where
      else : (u : Node) → (u ≡ outside) ⊎ (top ≤ block_of b₁ u)
      else outside = inl refl
      else (inside u) = inr (let z = block_inside b₁ u in let k = blank m past cleared u.storing u.matching in omega arith)

  edges : Edges m list guess x D b₁ (Begins top guess (In held) D)
  edges s t v c =
      let k = (is.members s).0 c.holds in
      let e : inside (both s guess) ≡ inside (both s t) = ap (λ (i : ℕ). inside (both s i)) (sym c.column) in (
        outside,
        cost_of D s + 1,
        subst (λ (z : Node). BlockEdge (fsbm_of m list) guess (cost_of D) (In x) z outside (cost_of D s + 1)) e (begins k.0 ((buffers s).0 k.1)),
        (let z = block_outside b₁ in omega (arith, c.value)),
      )

  pub begun_works : Works m list top guess x D (Waiting d₂) b₂
  begun_works = working_looked started looked
    where
      started : Works m list top guess x D (λ (u : Node). (u ≡ outside) ⊎ Waiting d₂ u) b₂
      started = works_lowers m list top guess x D f edges (λ u still. (λ e. still (inl e), λ k. still (inr k))) first

      edge : {y z : Node} {w : ℕ} → BlockEdge (fsbm_of m list) guess (cost_of D) (In x) y z w → z ≡ outside → w < top → block_of b₂ y ≤ w
      edge (begins {g = q} i j) e l =
          let k = f.settled q guess (cost_of D q + 1) (record { holds = (is.members q).1 (i, (buffers q).1 j); column = refl; known = omega arith; value = refl }) in
          let z = block_inside b₂ (both q guess) in
          omega arith
      edge (goes_on k) e l = absurd (inside_not e)

      looked : (u : Node) → (Waiting d₂ u → ⊥)
          → ((u ≡ outside) ⊎ Waiting d₂ u → ⊥) ⊎ ((y : Node) (w : ℕ) → BlockEdge (fsbm_of m list) guess (cost_of D) (In x) y u w → w + block_of b₂ u < top → block_of b₂ y ≤ w + block_of b₂ u)
      looked outside still = inr (λ y w e l. let z = block_outside b₂ in let k = edge e refl (omega arith) in omega arith)
      looked (inside u) still = inl not_waiting
        where
          not_waiting : (inside u ≡ outside) ⊎ Waiting d₂ (inside u) → ⊥
          not_waiting (inl e) = inside_not e
          not_waiting (inr k) = still k

  pub block_done : {b₃ : List ℕ} → well_formed m list ≡ true → length b ≡ 4096 → Worked m list top b₂ d₂ b₃ → BlockTo m list top guess x D b₃
  block_done {b₃} good size w =
      record {
        size = w.size ∙ f.steps.size ∙ cleared.size ∙ size;
        past = λ s t le. let z = blank m past cleared s t in let y = still_lowers m f below s t le in let v = w.still s t le in omega arith;
        settles = w.ends guess x D begun_works;
      }
    where
      below : (s t v : ℕ) → Begins top guess (In held) D s t v → s < m.states
      below s t v c = buffering_below m list (rules m list good) s ((buffers s).0 ((is.members s).0 c.holds).1)
