-- The laws of specs/Stretches.antt.
--
-- key_fits          == a key of a state and a letter is below the number of keys
-- product_fits      == a 16-bit number times a stride is small
-- Built, built_start, built_turn, built_end == the part of an index that a loop has built; it begins, one turn, it ends
-- found_is            == the search for a key
-- bounded, bounded_next == the numbers of an index are numbers of transitions
-- stretch           == the transitions from index[q × stride + a] up to index[q × stride + a + 1] are those that leave q by a
-- row_stretch       == those from index[q × stride] up to index[(q + 1) × stride] are all that leave q
use Rattle.std.specs.Prelude.{ℕ, ◌+◌, ◌*◌, ◌≤◌, ◌<◌, ◌≡◌, ◌↔◌, List, length, get_or, set, Option, MatchOption}
use Rattle.std.specs.Option.{unwrap_or}
use Rattle.std.proofs.Common.{Some, None}
use Rattle.std.proofs.Common.{ap, ◌∙◌, arith, mul-le-mul, length-set}
use Rattle.std.proofs.Math.Decide.{dec_lt, ℕ_discrete}
use Rattle.basics.specs.Lists.Laws.{set_next}
use Rattle.basics.specs.Pairs.{pair_below}
use Rattle.fsbm.specs.Machine.{transition_at}
use Rattle.fsbm.specs.Rules.{Rules}
use Rattle.fsbm.specs.declared.machine.Machine.{Machine}
use Rattle.adjacency.specs.Index.Laws.{from_rises, letter_rises}
use Rattle.blocks.specs.Stretches.{most_keys, key_of, Found, Stretches}

pub key_fits : (t stride x : ℕ) → t < 64 → stride ≤ 251 → x < stride → (t * stride ≤ 15813) × (t * stride + x < 16064)
key_fits t stride x h k l = let h' : t ≤ 63 = omega arith in let z : t * stride ≤ 63 * 251 = mul-le-mul h' k in (omega arith, omega arith)

pub product_fits : (x stride : ℕ) → x < 65536 → stride ≤ 251 → x * stride ≤ 16449285
product_fits x stride h k = let h' : x ≤ 65535 = omega arith in let z : x * stride ≤ 65535 * 251 = mul-le-mul h' k in omega arith

-- an index that is built up to the key y, where the transitions below k are those with a lower key
pub record Built (m : Machine) (list index : List ℕ) (k y : ℕ) : Type 0 where
  pub size : length index ≡ most_keys
  pub at_most : k ≤ m.transitions
  pub bound : y ≤ m.states * (m.letters + 1) + 1
  pub passed : (t : ℕ) → t < k → key_of list (m.letters + 1) t < y
  pub within : (x : ℕ) → x < y → get_or index x 0 ≤ m.transitions
  pub below : (x t : ℕ) → x < y → t < m.transitions → (t < get_or index x 0) ↔ (key_of list (m.letters + 1) t < x)

module _ (m : Machine) (list : List ℕ) (s : Rules m list) where
  key_rises : (i j : ℕ) → i ≤ j → j < m.transitions → key_of list (m.letters + 1) i ≤ key_of list (m.letters + 1) j
  key_rises i j le lt = on (ℕ_discrete (transition_at list i).from (transition_at list j).from)
    where
      on : Dec ((transition_at list i).from ≡ (transition_at list j).from) → key_of list (m.letters + 1) i ≤ key_of list (m.letters + 1) j
      on (yes e) =
          let a = letter_rises m list s i j le lt e in
          let z : (transition_at list i).from * (m.letters + 1) ≡ (transition_at list j).from * (m.letters + 1) = ap (λ (x : ℕ). x * (m.letters + 1)) e in
          omega arith
      on (no f) =
          let a = from_rises m list s i j le lt in
          let b = s.letter_below i (omega arith) in
          let z = pair_below (transition_at list j).from (m.letters + 1) (transition_at list i).from (transition_at list i).letter (omega arith) (omega arith) in
          omega arith

  pub keys_fit : m.states * (m.letters + 1) ≤ 16064
  keys_fit =
      let a = s.states_fit in
      let b = s.letters_fit in
      let c : m.letters + 1 ≤ 251 = omega arith in
      let z : m.states * (m.letters + 1) ≤ 64 * 251 = mul-le-mul a c in
      omega arith

  pub built_start : (index : List ℕ) → length index ≡ most_keys → Built m list index 0 0
  built_start index e =
      record {
        size = e;
        at_most = omega arith;
        bound = omega arith;
        passed = λ t (lt : t < 0). absurd (omega arith);
        within = λ x (lt : x < 0). absurd (omega arith);
        below = λ x t (lt : x < 0) z. absurd (omega arith);
      }

  pub built_turn : (index : List ℕ) (k y r : ℕ) → Built m list index k y → y ≤ m.states * (m.letters + 1) → Found list (m.letters + 1) k m.transitions y r
      → Built m list (set index y r) r (y + 1)
  built_turn index k y r b le found =
      record {
        size = length-set index y r ∙ b.size;
        at_most = found.within;
        bound = omega arith;
        passed = λ (t : ℕ) (lt : t < r). let z = passes t lt in omega arith;
        within = set_next index y r 0 room (λ x z. z ≤ m.transitions) found.within b.within;
        below = λ x t lt l.
            set_next index y r 0 room (λ x z. (t < z) ↔ (key_of list (m.letters + 1) t < x)) (passes t, λ h. inside t l h (dec_lt t r)) (λ x lt. b.below x t lt l) x lt;
      }
    where
      room : y < length index
      room = let z = b.size in let f = keys_fit in omega arith

      passes : (t : ℕ) → t < r → key_of list (m.letters + 1) t < y
      passes t lt = on (dec_lt t k)
        where
          on : Dec (t < k) → key_of list (m.letters + 1) t < y
          on (yes l) = b.passed t l
          on (no n) = found.passed t (omega arith) lt

      stops : (t : ℕ) → r ≤ t → t < m.transitions → y ≤ key_of list (m.letters + 1) t
      stops t ge lt = let z = found.found (omega arith) in let u = key_rises r t ge lt in omega arith

      inside : (t : ℕ) → t < m.transitions → key_of list (m.letters + 1) t < y → Dec (t < r) → t < r
      inside t l h (yes w) = w
      inside t l h (no n) = let w = stops t (omega arith) l in absurd (omega arith)

  pub built_end : (index : List ℕ) (k y : ℕ) → Built m list index k y → m.states * (m.letters + 1) < y → Stretches m list index
  built_end index k y b lt = record { size = b.size; within = λ x le. b.within x (omega arith); below = λ x t le l. b.below x t (omega arith) l }

  -- Which transitions it names

  module _ (index : List ℕ) (i : Stretches m list index) where
    -- the transitions that leave a state below q, or q by a letter below x
    before : (q x k : ℕ) → k < m.transitions → q < m.states → x ≤ m.letters + 1 → (k < get_or index (q * (m.letters + 1) + x) 0) ↔ (key_of list (m.letters + 1) k < q * (m.letters + 1) + x)
    before q x k lt l le = i.below (q * (m.letters + 1) + x) k (let z = pair_below m.states (m.letters + 1) q m.letters l (omega arith) in omega arith) lt

    pub bounded : (q x : ℕ) → q < m.states → x ≤ m.letters + 1 → get_or index (q * (m.letters + 1) + x) 0 ≤ m.transitions
    bounded q x l le = i.within (q * (m.letters + 1) + x) (let z = pair_below m.states (m.letters + 1) q m.letters l (omega arith) in omega arith)

    pub bounded_next : (q x : ℕ) → q < m.states → x ≤ m.letters → get_or index (q * (m.letters + 1) + x + 1) 0 ≤ m.transitions
    bounded_next q x l le = i.within (q * (m.letters + 1) + x + 1) (let z = pair_below m.states (m.letters + 1) q x l (omega arith) in omega arith)

    inside : (q x k : ℕ) → q < m.states → x ≤ m.letters + 1 → k < get_or index (q * (m.letters + 1) + x) 0 → k < m.transitions
    inside q x k l le h = let z = bounded q x l le in omega arith

    -- the key tells the state
    state_of : (q k : ℕ) → k < m.transitions → q * (m.letters + 1) ≤ key_of list (m.letters + 1) k → key_of list (m.letters + 1) k < q * (m.letters + 1) + (m.letters + 1)
        → (transition_at list k).from ≡ q
    state_of q k lt lo hi = on (dec_lt (transition_at list k).from q) (dec_lt q (transition_at list k).from)
      where
        on : Dec ((transition_at list k).from < q) → Dec (q < (transition_at list k).from) → (transition_at list k).from ≡ q
        on (yes a) b =
            let u = s.letter_below k lt in
            let z = pair_below q (m.letters + 1) (transition_at list k).from (transition_at list k).letter a (omega arith) in
            absurd (omega arith)
        on (no a) (yes b) = let z = pair_below (transition_at list k).from (m.letters + 1) q m.letters b (omega arith) in absurd (omega arith)
        on (no a) (no b) = omega arith

    pub row_stretch : (q k : ℕ) → q < m.states
        → ((get_or index (q * (m.letters + 1) + 0) 0 ≤ k) × (k < get_or index (q * (m.letters + 1) + (m.letters + 1)) 0)) ↔ ((k < m.transitions) × ((transition_at list k).from ≡ q))
    row_stretch q k l = (there, back)
      where
        there : (get_or index (q * (m.letters + 1) + 0) 0 ≤ k) × (k < get_or index (q * (m.letters + 1) + (m.letters + 1)) 0) → (k < m.transitions) × ((transition_at list k).from ≡ q)
        there h =
            let lt = inside q (m.letters + 1) k l (omega arith) h.1 in
            let hi = (before q (m.letters + 1) k lt l (omega arith)).0 h.1 in
            (lt, state_of q k lt (lo lt h.0) hi)
          where
            lo : k < m.transitions → get_or index (q * (m.letters + 1) + 0) 0 ≤ k → q * (m.letters + 1) ≤ key_of list (m.letters + 1) k
            lo lt ge = on (dec_lt (key_of list (m.letters + 1) k) (q * (m.letters + 1) + 0))
              where
                on : Dec (key_of list (m.letters + 1) k < q * (m.letters + 1) + 0) → q * (m.letters + 1) ≤ key_of list (m.letters + 1) k
                on (yes a) = let z = (before q 0 k lt l (omega arith)).1 a in absurd (omega arith)
                on (no a) = omega arith

        back : (k < m.transitions) × ((transition_at list k).from ≡ q) → (get_or index (q * (m.letters + 1) + 0) 0 ≤ k) × (k < get_or index (q * (m.letters + 1) + (m.letters + 1)) 0)
        back h =
            let e : (transition_at list k).from * (m.letters + 1) ≡ q * (m.letters + 1) = ap (λ (x : ℕ). x * (m.letters + 1)) h.1 in
            let u = s.letter_below k h.0 in
            (lo e (dec_lt k (get_or index (q * (m.letters + 1) + 0) 0)), (before q (m.letters + 1) k h.0 l (omega arith)).1 (omega arith))
          where
            lo : (transition_at list k).from * (m.letters + 1) ≡ q * (m.letters + 1) → Dec (k < get_or index (q * (m.letters + 1) + 0) 0) → get_or index (q * (m.letters + 1) + 0) 0 ≤ k
            lo e (yes a) = let z = (before q 0 k h.0 l (omega arith)).0 a in absurd (omega arith)
            lo e (no a) = omega arith

    pub stretch : (q x k : ℕ) → q < m.states → x ≤ m.letters
        → ((get_or index (q * (m.letters + 1) + x) 0 ≤ k) × (k < get_or index (q * (m.letters + 1) + x + 1) 0)) ↔ ((k < m.transitions) × ((transition_at list k).from ≡ q) × ((transition_at list k).letter ≡ x))
    stretch q x k l le = (there, back)
      where
        same : q * (m.letters + 1) + x + 1 ≡ q * (m.letters + 1) + (x + 1)
        same = omega arith

        next : k < m.transitions → (k < get_or index (q * (m.letters + 1) + x + 1) 0) ↔ (key_of list (m.letters + 1) k < q * (m.letters + 1) + x + 1)
        next lt = rw same (before q (x + 1) k lt l (omega arith))

        there : (get_or index (q * (m.letters + 1) + x) 0 ≤ k) × (k < get_or index (q * (m.letters + 1) + x + 1) 0) → (k < m.transitions) × ((transition_at list k).from ≡ q) × ((transition_at list k).letter ≡ x)
        there h =
            let lt : k < m.transitions = (let z = bounded_next q x l le in omega (arith, h.1)) in
            let hi = (next lt).0 h.1 in
            let lo = low lt h.0 (dec_lt (key_of list (m.letters + 1) k) (q * (m.letters + 1) + x)) in
            let e = state_of q k lt (omega arith) (omega arith) in
            let z : (transition_at list k).from * (m.letters + 1) ≡ q * (m.letters + 1) = ap (λ (y : ℕ). y * (m.letters + 1)) e in
            (lt, e, omega arith)
          where
            low : k < m.transitions → get_or index (q * (m.letters + 1) + x) 0 ≤ k → Dec (key_of list (m.letters + 1) k < q * (m.letters + 1) + x) → q * (m.letters + 1) + x ≤ key_of list (m.letters + 1) k
            low lt ge (yes a) = let z = (before q x k lt l (omega arith)).1 a in absurd (omega arith)
            low lt ge (no a) = omega arith

        back : (k < m.transitions) × ((transition_at list k).from ≡ q) × ((transition_at list k).letter ≡ x) → (get_or index (q * (m.letters + 1) + x) 0 ≤ k) × (k < get_or index (q * (m.letters + 1) + x + 1) 0)
        back h =
            let e : (transition_at list k).from * (m.letters + 1) ≡ q * (m.letters + 1) = ap (λ (y : ℕ). y * (m.letters + 1)) h.1 in
            let f = h.2 in
            (lo e (dec_lt k (get_or index (q * (m.letters + 1) + x) 0)), (next h.0).1 (omega arith))
          where
            lo : (transition_at list k).from * (m.letters + 1) ≡ q * (m.letters + 1) → Dec (k < get_or index (q * (m.letters + 1) + x) 0) → get_or index (q * (m.letters + 1) + x) 0 ≤ k
            lo e (yes a) = let f = h.2 in let z = (before q x k h.0 l (omega arith)).0 a in absurd (omega arith)
            lo e (no a) = omega arith

-- The search for a key

module _ (list : List ℕ) (stride k n y : ℕ) where
  -- what a search through the numbers from k up to n has found
  pub found_is : (o : Option ℕ)
      → MatchOption o ((t : ℕ) → k ≤ t → t < n → key_of list stride t < y) (λ r. (k ≤ r) × (r < n) × (y ≤ key_of list stride r) × ((t : ℕ) → k ≤ t → t < r → key_of list stride t < y))
      → k ≤ n → Found list stride k n y (unwrap_or o n)
  found_is None f le = record { from = le; within = omega arith; passed = f; found = λ (z : n < n). absurd (omega arith) }
  found_is (Some r) f le = record { from = f.0; within = omega (arith, f.1); passed = f.3; found = λ z. f.2 }
