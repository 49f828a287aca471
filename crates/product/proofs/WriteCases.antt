-- The functions of src/write.rt case by case, over plain variables.
--
-- flat_append, flat_each  == a flat list of parts
-- threes_length           == the length of parts of three numbers
-- lower_is                == the first transition whose key is not below a number, as find answers it
-- letter_next, letter_end, letter_room == the loop over the transitions of the second by one letter
-- Letters, letters        == the transitions of the second with one letter are those from lo up to hi
-- epsilon_is, epsilon_writes, letters_is, letters_write, letters_fit == what write_moves writes
-- nothing_given           == a transition of the first whose letter does not leave the state of the second gives nothing
-- noted, indexed          == what is noted of a table, as a fact with one proof, and back
-- starts_lower            == where the transitions of a key begin
-- next_none, next_here, next_end, next_jump == the ways through next_move
-- keys_sorted             == the keys of a table's transitions do not fall
-- place                   == where the next transition of a block stands, or its end
-- from_block              == the transitions from a pair, over the block of the first
-- meeting-..              == what is known of a pair of states
-- pairing-.., rowing-.., writing-.. == the loops of write_pair, write_row and write_product
use Prim.Native.Nat.{ℕ, zero, suc, ◌+◌, ◌*◌, ◌-◌, ◌≤◌, ◌<◌, ◌^◌}
use mathlib.Core.Path.{◌≡◌, refl, sym, ap, ◌∙◌, subst}
use mathlib.Core.Logic.{inl, inr}
use mathlib.Core.Bool.{cond, ◌&&◌}
use mathlib.Core.List.{List, [], ◌∷◌, ◌++◌}
use Rattle.std.specs.Prelude.{Option, None, Some, MatchOption, ⊤}
use Rattle.std.specs.Option.{unwrap_or}
use native.Mathlib.Omega.{arith}
use native.Mathlib.Decide.{dec_lt, ℕ_discrete}
use lib.ListN.{length, get_or}
use lib.Dec.{eqb}
use borrow.Author.Tests.{eq-eqb, ne_eqb, eqb-true}
use Rattle.basics.specs.Search.Laws.{and_true, and_both_true}
use Rattle.basics.specs.Search.Loops.{first, second}
use Rattle.fsbm.specs.Machine.{transition_at}
use Rattle.fsbm.specs.Rules.{Rules}
use Rattle.fsbm.specs.declared.machine.Machine.{Machine}
use Rattle.fsbm.specs.declared.machine.Transition.{Transition}
use Rattle.basics.specs.Bools.{cond_elim}
use Rattle.basics.specs.Lists.{put}
use Rattle.product.specs.Each.{each}
use Rattle.product.specs.Each.Laws.{each_step, each_over, each_same, each_none, each_block, each_skip, length_each, Putting, putting_start, putting_room, putting_step, putting_at, putting_end}
use Rattle.product.specs.Each.Sums.{sum_const}
use Rattle.product.specs.Letters.{HasKey, MayPair, Occurs, KeySet, Starts, Indexed, Noted, Common, Least, Searching, NextMove}
use Rattle.product.specs.Order.{letter_key, Lower, Block, Moving}
use Rattle.product.specs.Product.{joint, joint_moves, joined_from, joined, flat, joined_transitions}
use Rattle.product.specs.Steps.{letter_move}
use Rattle.basics.specs.Pairs.{pair_below, pair_same}
use Rattle.product.specs.Tables.{rising, Joinable, joinable}
use Rattle.product.specs.declared.factors.Factors.{Factors}

pub flat_append : (a b : List Transition) → flat (a ++ b) ≡ flat a ++ flat b
unfolding flat
flat_append [] b = refl
flat_append (t ∷ a) b = ap (λ (l : List ℕ). t.from ∷ t.letter ∷ t.to ∷ l) (flat_append a b)

pub flat_each : (i n : ℕ) (f : ℕ → List Transition) → flat (each i n f) ≡ each i n (λ k. flat (f k))
unfolding flat each
flat_each i zero f = refl
flat_each i (suc n) f = flat_append (f i) (each (suc i) n f) ∙ ap (λ (l : List ℕ). flat (f i) ++ l) (flat_each (suc i) n f)

pub threes_length : (i n a b : ℕ) (g : ℕ → ℕ) → length (each i n (λ u. a ∷ b ∷ g u ∷ [])) ≡ n * 3
threes_length i n a b g = length_each i n (λ u. a ∷ b ∷ g u ∷ []) ∙ sum_const i n 3

-- the first transition whose key is not below y
module _ (list : List ℕ) (n j y : ℕ) (inside : j ≤ n) where
  abbrev pub Found : Option ℕ → Type 0
  Found o =
      MatchOption o ((k : ℕ) → j ≤ k → k < n → letter_key list k < y)
      (λ i. (j ≤ i) × (i < n) × (y ≤ letter_key list i) × ((k : ℕ) → j ≤ k → k < i → letter_key list k < y))

  pub lower_is : (o : Option ℕ) → Found o → Lower list n j y (unwrap_or o n)
  lower_is None h = record { low = inside; high = omega arith; below = h; reached = λ (l : n < n). absurd (omega arith) }
  lower_is (Some i) h = let below = h.1 in record { low = h.0; high = omega arith; below = h.3; reached = λ l. h.2 }

-- The transitions of the second by one letter

-- the three numbers that transition u of the second gives
abbrev pub threes : List ℕ → ℕ → ℕ → ℕ → ℕ → List ℕ
threes second from letter base u = from ∷ letter ∷ (base + (transition_at second u).to) ∷ []

module _ (second : List ℕ) (lo hi from letter base : ℕ) (entry : List ℕ) (k : ℕ) where
  abbrev pub Lettering : List ℕ → ℕ → ℕ → Type 0
  Lettering list at u =
      (lo ≤ u) × (u ≤ hi) × Putting entry k (each lo (hi - lo) (threes second from letter base)) list at (each u (hi - u) (threes second from letter base))

  pub letter_start : lo ≤ hi → k + (hi - lo) * 3 ≤ length entry → Lettering entry k lo
  letter_start h room =
      let size = threes_length lo (hi - lo) from letter (λ u. base + (transition_at second u).to) in
      (omega arith, h, putting_start (omega arith))

  module _ {list : List ℕ} {at u : ℕ} (p : Lettering list at u) where
    pub letter_room : u < hi → at + 3 ≤ length list
    letter_room lt = putting_room (threes second from letter base u) (each (u + 1) (hi - (u + 1)) (threes second from letter base)) p.2 (each_step u hi (threes second from letter base) lt)

    pub letter_next : u < hi → (t : Transition) → t ≡ transition_at second u → (list' : List ℕ) → list' ≡ put at list (from ∷ letter ∷ (base + t.to) ∷ []) → Lettering list' (at + 3) (u + 1)
    letter_next lt t at-t list' e =
        let low = p.0 in (
          omega arith,
          omega arith,
          putting_step (threes second from letter base u) (each (u + 1) (hi - (u + 1)) (threes second from letter base)) p.2 (each_step u hi (threes second from letter base) lt)
              (e ∙ ap (λ (z : Transition). put at list (from ∷ letter ∷ (base + z.to) ∷ [])) at-t),
        )

    pub letter_end : hi ≤ u → list ≡ put k entry (each lo (hi - lo) (threes second from letter base))
    letter_end le = (putting_end p.2 (each_over u hi (threes second from letter base) le)).0

-- What one transition of the first gives

module _ (n count : ℕ) (second : List ℕ) (r : ℕ) (t : Transition) where
  pub epsilon_is : t.letter ≡ 0 → flat (joint_moves n count second r t) ≡ (t.from * n + r) ∷ 0 ∷ (t.to * n + r) ∷ []
  unfolding joint_moves flat
  epsilon_is e = ap flat (sym (first _ (eq-eqb t.letter 0 e) refl))

  pub epsilon_writes : (list list' : List ℕ) (at from to : ℕ) → t.letter ≡ 0 → from ≡ t.from * n + r → to ≡ t.to * n + r → list' ≡ put at list (from ∷ 0 ∷ to ∷ [])
      → (list' ≡ put at list (flat (joint_moves n count second r t))) × (at + 3 ≡ at + length (flat (joint_moves n count second r t)))
  epsilon_writes list list' at from to z ef et e = (
    e ∙ (λ i. put at list (ef i ∷ 0 ∷ et i ∷ [])) ∙ ap (put at list) (sym (epsilon_is z)),
    ap (λ (l : List ℕ). at + length l) (sym (epsilon_is z)),
  )

  no_move_lem : (u : ℕ) → (letter_key second u ≡ r * 256 + t.letter → ⊥) → letter_move n count second r t u ≡ []
  no_move_lem u other =
      cond_elim (λ (l : List Transition). l ≡ []) (eqb (transition_at second u).from r && eqb (transition_at second u).letter t.letter) _ []
      (λ h.
      let (a, b) = and_true (eqb (transition_at second u).from r) (eqb (transition_at second u).letter t.letter) h in
      let f = eqb-true (transition_at second u).from r a in
      let l = eqb-true (transition_at second u).letter t.letter b in
      absurd (other (omega arith)))
      (λ h. refl)

  -- nothing, where the second has no transition from r by the letter
  pub nothing_given : (t.letter ≡ 0 → ⊥) → ((u : ℕ) → u < count → letter_key second u ≡ r * 256 + t.letter → ⊥) → joint_moves n count second r t ≡ []
  unfolding joint_moves
  nothing_given some none =
      sym (Rattle.basics.specs.Search.Loops.second (joint n t.from r 0 t.to r ∷ []) (ne_eqb t.letter 0 some) refl)
      ∙ each_none 0 count (letter_move n count second r t) (λ u a b. no_move_lem u (none u (omega arith)))

  -- lo and hi as the code finds them: a is the state and b the letter
  module _ {starts : List ℕ} {lo hi a b : ℕ} (m : Moving n count second starts r t) (some : t.letter ≡ 0 → ⊥) (at_a : a ≡ r) (at_b : b ≡ t.letter)
      (at_lo : lo ≡ get_or starts (a * 256 + b) 0) (up : Lower second count lo (a * 256 + b + 1) hi) where
    pub from_start : Lower second count 0 (r * 256 + t.letter) lo
    from_start = subst (λ (z : ℕ). Lower second count 0 (r * 256 + t.letter) z) (sym (at_lo ∙ (λ i. get_or starts (at_a i * 256 + at_b i) 0))) (m.start some)

    from-lo : Lower second count lo (r * 256 + t.letter + 1) hi
    from-lo = subst (λ (z : ℕ). Lower second count lo (z + 1) hi) (λ i. at_a i * 256 + at_b i) up

    before_lo : (u : ℕ) → u < lo → letter_key second u < r * 256 + t.letter
    before_lo u lt = from_start.below u (omega arith) lt

    inside : (u : ℕ) → lo ≤ u → u < hi → ((transition_at second u).from ≡ r) × ((transition_at second u).letter ≡ t.letter)
    inside u low high =
        let top = from-lo.high in
        let a = from_start.reached (omega arith) in
        let b = m.sorted lo u low (omega arith) in
        let c = from-lo.below u low high in
        pair_same 256 (transition_at second u).from (transition_at second u).letter r t.letter (m.letters_small u (omega arith)) m.letter_small (omega arith)

    one_move : (u : ℕ) → lo ≤ u → u < hi → flat (letter_move n count second r t u) ≡ threes second (t.from * n + r) t.letter (t.to * n + 0) u
    unfolding flat
    one_move u low high =
        let (f, l) = inside u low high in
        let sum : t.to * n + (transition_at second u).to ≡ t.to * n + 0 + (transition_at second u).to = omega arith in
        ap flat
        (sym (first [] (and_both_true (eqb (transition_at second u).from r) (eqb (transition_at second u).letter t.letter) (eq-eqb (transition_at second u).from r f) (eq-eqb (transition_at second u).letter t.letter l)) refl))
        ∙ ap (λ (z : ℕ). (t.from * n + r) ∷ t.letter ∷ z ∷ []) sum

    pub letters_is : flat (joint_moves n count second r t) ≡ each lo (hi - lo) (threes second (t.from * n + r) t.letter (t.to * n + 0))
    unfolding joint_moves
    letters_is =
        let low = from-lo.low in
        let top = from-lo.high in
        ap flat (sym (second_arm ∙ refl))
        ∙ ap flat (each_block count lo hi (letter_move n count second r t) low top (λ u h. no_move_lem u (λ e. let b = before_lo u h in omega arith))
        (λ u h l. no_move_lem u (λ e. let a = from-lo.reached (omega arith) in let b = m.sorted hi u h l in omega arith)))
        ∙ flat_each lo (hi - lo) (letter_move n count second r t)
        ∙ each_same lo (hi - lo) (λ u. flat (letter_move n count second r t u)) (threes second (t.from * n + r) t.letter (t.to * n + 0)) (λ u a b. one_move u a (omega arith))
      where
        second_arm : each 0 count (letter_move n count second r t) ≡ cond (eqb t.letter 0) (joint n t.from r 0 t.to r ∷ []) (each 0 count (letter_move n count second r t))
        second_arm = Rattle.basics.specs.Search.Loops.second (joint n t.from r 0 t.to r ∷ []) (ne_eqb t.letter 0 some) refl

    pub letters_length : length (flat (joint_moves n count second r t)) ≡ (hi - lo) * 3
    letters_length = ap length letters_is ∙ threes_length lo (hi - lo) (t.from * n + r) t.letter (λ u. t.to * n + 0 + (transition_at second u).to)

    pub letters_write : (list list' : List ℕ) (at from base : ℕ) → from ≡ t.from * n + r → base ≡ t.to * n + 0
        → list' ≡ put at list (each lo (hi - lo) (λ u. from ∷ t.letter ∷ (base + (transition_at second u).to) ∷ []))
        → (list' ≡ put at list (flat (joint_moves n count second r t))) × (at + (hi - lo) * 3 ≡ at + length (flat (joint_moves n count second r t)))
    letters_write list list' at from base ef eb e = (
      e ∙ (λ i. put at list (each lo (hi - lo) (threes second (ef i) t.letter (eb i)))) ∙ ap (put at list) (sym letters_is),
      ap (λ (z : ℕ). at + z) (sym letters_length),
    )

    -- there is room for them, and their numbers are small
    pub letters_fit : (list : List ℕ) (at base : ℕ) → base ≡ t.to * n + 0 → at + length (flat (joint_moves n count second r t)) ≤ length list
        → (lo ≤ hi) × (((u : ℕ) → u < hi → base + (transition_at second u).to < 2 ^ 16) × (at + (hi - lo) * 3 ≤ length list))
    letters_fit list at base eb room =
        let size = letters_length in
        let top = from-lo.high in
        (from-lo.low, (λ u h. let small = m.tos_small u (omega arith) in omega arith, omega arith))

-- The first transition of a key, and the next transition whose letter is in a set

module _ (list : List ℕ) (n : ℕ) (starts : List ℕ) (y : ℕ) (sorted : (u v : ℕ) → u ≤ v → v < n → letter_key list u ≤ letter_key list v) (f : Starts list n starts) (o : Occurs list n y) where
  start_in : get_or starts y 0 < n
  start_in =
      let b = f.before o.place o.within in
      let e = ap (λ (z : ℕ). get_or starts z 0) o.keyed in
      omega (arith, o.within)

  start_key : letter_key list (get_or starts y 0) ≡ y
  start_key = ap (λ (z : ℕ). letter_key list (get_or starts z 0)) (sym o.keyed) ∙ f.same o.place o.within ∙ o.keyed

  pub starts_lower : Lower list n 0 y (get_or starts y 0)
  starts_lower =
      let inside = start_in in
      record {
        low = omega arith;
        high = omega arith;
        below = λ k a lt. below k lt (ℕ_discrete (letter_key list k) y);
        reached = λ h. let e = start_key in omega arith;
      }
    where
      below : (k : ℕ) → k < get_or starts y 0 → Dec (letter_key list k ≡ y) → letter_key list k < y
      below k lt (yes e) =
          let inside = start_in in
          let b = f.before k (omega arith) in
          let same = ap (λ (z : ℕ). get_or starts z 0) e in
          absurd (omega arith)
      below k lt (no d) = let inside = start_in in let up = sorted k (get_or starts y 0) (omega arith) inside in let e = start_key in omega arith

  start_of : (get_or starts y 0 < n) × (letter_key list (get_or starts y 0) ≡ y)
  start_of = (start_in, start_key)

-- what is noted of a table, with one proof, and back
module _ (list : List ℕ) (n : ℕ) (starts words : List ℕ) where
  pub noted : ((u v : ℕ) → u ≤ v → v < n → letter_key list u ≤ letter_key list v) → KeySet list n words → Starts list n starts → Noted list n starts words
  noted sorted k f = (k.all, λ y lt m. start_of list n starts y sorted f (k.only y lt m), f.before, f.same)

  pub indexed : Noted list n starts words → Indexed list n starts words
  indexed h =
      record {
        keys = record { all = h.0; only = λ y lt m. let (a, e) = h.1 y lt m in record { place = get_or starts y 0; within = a; keyed = e } };
        firsts = record { before = h.2; same = h.3 };
      }

module _ {list starts letters : List ℕ} {p i hi : ℕ} (s : Searching list starts letters p i hi) where
  pub next_none : hi ≤ i → NextMove list letters i hi None
  next_none le = λ (k : ℕ) (a : i ≤ k) (b : k < hi) m. absurd (omega arith)

  -- x is the letter of transition i
  module _ (lt : i < hi) (x : ℕ) (at_x : x ≡ (transition_at list i).letter) where
    abbrev letter : ℕ → ℕ
    letter k = (transition_at list k).letter

    keyed : (k : ℕ) → i ≤ k → k < hi → letter_key list k ≡ p * 256 + letter k
    keyed k a c =
        let low = s.low in
        let from = s.block.from k (omega arith) c in
        let upto = s.block.upto k (omega arith) c in
        let top = s.block.high in
        let small = s.letters_small k (omega arith) in
        omega arith

    letter_up : (k : ℕ) → i ≤ k → k < hi → x ≤ letter k
    letter_up k a c =
        let top = s.block.high in
        let up = s.sorted i k a (omega arith) in
        let one = keyed i (omega arith) lt in
        let two = keyed k a c in
        omega arith

    pub next_end : Least letters x None → NextMove list letters i hi None
    next_end l k a c m = let top = s.block.high in l (letter k) (letter_up k a c) (s.letters_small k (omega arith)) m

    module _ (b : ℕ) (l : Least letters x (Some b)) where
      pub next_here : b ≡ x → NextMove list letters i hi (Some i)
      next_here e =
          record {
            low = omega arith;
            high = lt;
            passed = λ (k : ℕ) (a : i ≤ k) (c : k < i) m. absurd (omega arith);
            reached = subst (λ (z : ℕ). HasKey letters z) (e ∙ at_x) l.member;
          }

      module _ (other : b ≡ x → ⊥) where
        occurs : Occurs list s.count (p * 256 + b)
        occurs = s.only b l.high l.member

        abbrev next : ℕ
        next = get_or starts (p * 256 + b) 0

        next_in : next < s.count
        next_in = start_in list s.count starts (p * 256 + b) s.sorted s.firsts occurs

        next_key : letter_key list next ≡ p * 256 + b
        next_key = start_key list s.count starts (p * 256 + b) s.sorted s.firsts occurs

        next_after : i ≤ next
        next_after = at (dec_lt next i)
          where
            at : Dec (next < i) → i ≤ next
            at (no h) = omega arith
            at (yes h) =
                let top = s.block.high in
                let up = s.sorted next i (omega arith) (omega arith) in
                let one = keyed i (omega arith) lt in
                let key = next_key in
                let low = l.low in
                absurd (omega arith)

        next_before : next < hi
        next_before = at (dec_lt next hi)
          where
            at : Dec (next < hi) → next < hi
            at (yes h) = h
            at (no h) =
                let past = s.block.after next (omega arith) next_in in
                let key = next_key in
                let few = l.high in
                absurd (omega arith)

        pub next_jump : NextMove list letters i hi (Some next)
        next_jump =
            record {
              low = next_after;
              high = next_before;
              passed = λ k a c m.
                  let before = next_before in
                  let lower = (starts_lower list s.count starts (p * 256 + b) s.sorted s.firsts occurs).below k (omega arith) c in
                  let key = keyed k a (omega arith) in
                  l.none (letter k) (letter_up k a (omega arith)) (omega arith) m;
              reached =
                  let key = keyed next next_after next_before in
                  let found = next_key in
                  let e : b ≡ letter next = omega arith in
                  subst (λ (z : ℕ). HasKey letters z) e l.member;
            }

-- Tables

pub keys_sorted : (m : Machine) (list : List ℕ) → Rules m list → (i k : ℕ) → i ≤ k → k < m.transitions → letter_key list i ≤ letter_key list k
keys_sorted m list t i k le lt = at (ℕ_discrete i k)
  where
    at : Dec (i ≡ k) → letter_key list i ≤ letter_key list k
    at (yes e) = let same = ap (letter_key list) e in omega arith
    at (no d) = let up = rising m list t i k (omega arith) lt in let small = t.to_below k lt in let few = t.states_fit in omega arith

-- where the next transition stands, or the end of the block
abbrev pub place : ℕ → Option ℕ → ℕ
place hi None = hi
place hi (Some i) = i

module _ (f : Factors) where
  abbrev pub m₁ : Machine
  m₁ = f.first.table.now.machine

  abbrev pub l₁ : List ℕ
  l₁ = f.first.table.now.list.now

  abbrev pub m₂ : Machine
  m₂ = f.second.table.now.machine

  abbrev pub l₂ : List ℕ
  l₂ = f.second.table.now.list.now

  abbrev pub j : Joinable m₁ l₁ m₂ l₂
  j = joinable m₁ l₁ m₂ l₂ f.fine

  first_index : Indexed l₁ m₁.transitions f.first.starts.now f.first.keys.now
  first_index = indexed l₁ m₁.transitions f.first.starts.now f.first.keys.now f.first.noted

  second_index : Indexed l₂ m₂.transitions f.second.starts.now f.second.keys.now
  second_index = indexed l₂ m₂.transitions f.second.starts.now f.second.keys.now f.second.noted

  abbrev pub moves : ℕ → ℕ → List Transition
  moves r i = joint_moves m₂.states m₂.transitions l₂ r (transition_at l₁ i)

  -- The loop over the transitions of the first from p

  -- what is known of a pair (p, r): the transitions from p are those from lo up to hi
  pub record Meeting (letters : List ℕ) (p r lo hi : ℕ) : Type 0 where
    pub block : Block l₁ m₁.transitions p lo hi
    pub states : (p < m₁.states) × (r < m₂.states)
    pub common : Common f.first.keys.now p f.second.keys.now r letters

  pub meet : (letters : List ℕ) {p r lo hi : ℕ} → Block l₁ m₁.transitions p lo hi → (p < m₁.states) × (r < m₂.states) → Common f.first.keys.now p f.second.keys.now r letters
      → Meeting letters p r lo hi
  meet letters block states common = record { block = block; states = states; common = common }

  abbrev pub Reached : List ℕ → ℕ → ℕ → Type 0
  Reached letters i hi = (i < hi) × HasKey letters (transition_at l₁ i).letter

  pub record Pairing (letters : List ℕ) (p r lo hi : ℕ) (entry : List ℕ) (k : ℕ) (list : List ℕ) (at : ℕ) (next : Option ℕ) : Type 0 where
    pub low : lo ≤ place hi next
    pub high : place hi next ≤ hi
    pub putting : Putting entry k (flat (joined_from m₁ l₁ m₂ l₂ p r)) list at (flat (each (place hi next) (hi - place hi next) (moves r)))
    pub reached : MatchOption next ⊤ (λ i. Reached letters i hi)

  from_block : (p r lo hi : ℕ) → Block l₁ m₁.transitions p lo hi → joined_from m₁ l₁ m₂ l₂ p r ≡ each lo (hi - lo) (moves r)
  unfolding joined_from
  from_block p r lo hi b =
      let low = b.low in
      let high = b.high in
      each_block m₁.transitions lo hi part low high
      (λ i lt. none i (omega arith) (λ e. let h = b.before i lt in omega arith))
      (λ i ge lt. none i lt (λ e. let h = b.after i ge lt in let s = j.first.letter_below i lt in let f = j.first.letters_fit in omega arith))
      ∙ each_same lo (hi - lo) part (moves r)
      (λ i a c. sym (first [] (eq-eqb (transition_at l₁ i).from p (at_p i a (omega arith))) refl))
    where
      part : ℕ → List Transition
      part i = cond (eqb (transition_at l₁ i).from p) (moves r i) []

      none : (i : ℕ) → i < m₁.transitions → ((transition_at l₁ i).from ≡ p → ⊥) → part i ≡ []
      none i lt d = sym (second (moves r i) (ne_eqb (transition_at l₁ i).from p d) refl)

      at_p : (i : ℕ) → lo ≤ i → i < hi → (transition_at l₁ i).from ≡ p
      at_p i a c =
          let f = b.from i a c in
          let u = b.upto i a c in
          let h = b.high in
          let s = j.first.letter_below i (omega arith) in
          let l = j.first.letters_fit in
          omega arith

  first_small : (i : ℕ) → i < m₁.transitions → (transition_at l₁ i).letter < 256
  first_small i lt = omega (arith, j.first.letter_below i lt, j.first.letters_fit)

  second_small : (u : ℕ) → u < m₂.transitions → (transition_at l₂ u).letter < 256
  second_small u lt = omega (arith, j.second.letter_below u lt, j.second.letters_fit)

  module _ {letters : List ℕ} {p r lo hi : ℕ} (g : Meeting letters p r lo hi) where
    first_key : (i : ℕ) → lo ≤ i → i < hi → letter_key l₁ i ≡ p * 256 + (transition_at l₁ i).letter
    first_key i a c =
        let from = g.block.from i a c in
        let upto = g.block.upto i a c in
        let top = g.block.high in
        let small = first_small i (omega arith) in
        omega arith

    -- a transition of the first whose letter is not common gives nothing
    not_common : (i : ℕ) → lo ≤ i → i < hi → (HasKey letters (transition_at l₁ i).letter → ⊥) → moves r i ≡ []
    not_common i a c none =
        let top = g.block.high in
        let inside : i < m₁.transitions = omega arith in
        let small = first_small i inside in
        let own : HasKey f.first.keys.now (p * 256 + (transition_at l₁ i).letter) =
        subst (λ (y : ℕ). HasKey f.first.keys.now y) (first_key i a c) (first_index.keys.all i inside) in
        nothing_given m₂.states m₂.transitions l₂ r (transition_at l₁ i)
        (λ e. none ((g.common (transition_at l₁ i).letter small).1 (own, inl e)))
        (λ u lt e. none ((g.common (transition_at l₁ i).letter small).1 (own, inr (subst (λ (y : ℕ). HasKey f.second.keys.now y) e (second_index.keys.all u lt)))))

    pub meeting_searching : (i : ℕ) → lo ≤ i → i ≤ hi → Searching l₁ f.first.starts.now letters p i hi
    meeting_searching i a c =
        record {
          count = m₁.transitions;
          lo = lo;
          block = g.block;
          low = a;
          high = c;
          state = omega (arith, g.states.0, j.first.states_fit);
          sorted = keys_sorted m₁ l₁ j.first;
          letters_small = first_small;
          firsts = first_index.firsts;
          only = λ b lt m. first_index.keys.only (p * 256 + b) (omega (arith, g.states.0, j.first.states_fit)) ((g.common b lt).0 m).0;
        }

    -- from a transition to the next one
    module _ (i : ℕ) (a : lo ≤ i) (c : i ≤ hi) where
      pub next_low : (o : Option ℕ) → NextMove l₁ letters i hi o → i ≤ place hi o
      next_low None n = c
      next_low (Some i') n = n.low

      next_high : (o : Option ℕ) → NextMove l₁ letters i hi o → place hi o ≤ hi
      next_high None n = omega arith
      next_high (Some i') n = let h = n.high in omega arith

      next_reached : (o : Option ℕ) → NextMove l₁ letters i hi o → MatchOption o ⊤ (λ k. Reached letters k hi)
      next_reached None n = tt
      next_reached (Some i') n = (n.high, n.reached)

      next_passed : (o : Option ℕ) → NextMove l₁ letters i hi o → (k : ℕ) → i ≤ k → k < place hi o → HasKey letters (transition_at l₁ k).letter → ⊥
      next_passed None n = n
      next_passed (Some i') n = n.passed

      skipped : (o : Option ℕ) → NextMove l₁ letters i hi o → each i (hi - i) (moves r) ≡ each (place hi o) (hi - place hi o) (moves r)
      skipped o n =
          let high = next_high o n in
          each_skip i (place hi o) hi (moves r) (next_low o n) high (λ u b d. not_common u (omega arith) (omega arith) (next_passed o n u b d))

    pub pairing_start : (k : ℕ) (entry : List ℕ) → k + length (flat (joined_from m₁ l₁ m₂ l₂ p r)) ≤ length entry → (o : Option ℕ) → NextMove l₁ letters lo hi o
        → Pairing letters p r lo hi entry k entry k o
    pairing_start k entry room o n =
        record {
          low = next_low lo (omega arith) g.block.low o n;
          high = next_high lo (omega arith) g.block.low o n;
          putting = subst (λ (z : List Transition). Putting entry k (flat (joined_from m₁ l₁ m₂ l₂ p r)) entry k (flat z))
              (from_block p r lo hi g.block ∙ skipped lo (omega arith) g.block.low o n)
              (putting_start room);
          reached = next_reached lo (omega arith) g.block.low o n;
        }

    module _ {k at i : ℕ} {entry list : List ℕ} (s : Pairing letters p r lo hi entry k list at (Some i)) where
      pub pairing_below : i < hi
      pairing_below = s.reached.0

      pub pairing_moving : (t : Transition) → t ≡ transition_at l₁ i → Moving m₂.states m₂.transitions l₂ f.second.starts.now r t
      pairing_moving t e =
          let top = g.block.high in
          let lt = pairing_below in
          let inside : i < m₁.transitions = omega arith in
          let lr = g.states.1 in
          let few = j.few_states in
          let from = pair_below m₁.states m₂.states (transition_at l₁ i).from r (j.first.from_below i inside) lr in
          let to = pair_below m₁.states m₂.states (transition_at l₁ i).to r (j.first.to_below i inside) lr in
          subst (λ (z : Transition). Moving m₂.states m₂.transitions l₂ f.second.starts.now r z) (sym e)
          (record {
            from_small = omega arith;
            to_small = omega arith;
            tos_small = λ u h. let q = pair_below m₁.states m₂.states (transition_at l₁ i).to (transition_at l₂ u).to (j.first.to_below i inside) (j.second.to_below u h) in omega arith;
            state_small = omega (arith, j.second.states_fit);
            letter_small = first_small i inside;
            letters_small = second_small;
            sorted = keys_sorted m₂ l₂ j.second;
            start = λ some. begin some ((g.common (transition_at l₁ i).letter (first_small i inside)).0 s.reached.1).1;
          })
        where
          begin : ((transition_at l₁ i).letter ≡ 0 → ⊥) → MayPair f.second.keys.now r (transition_at l₁ i).letter
              → Lower l₂ m₂.transitions 0 (r * 256 + (transition_at l₁ i).letter) (get_or f.second.starts.now (r * 256 + (transition_at l₁ i).letter) 0)
          begin some (inl z) = absurd (some z)
          begin some (inr m) =
              let top = g.block.high in
              let lt = pairing_below in
              let small = first_small i (omega arith) in
              starts_lower l₂ m₂.transitions f.second.starts.now (r * 256 + (transition_at l₁ i).letter) (keys_sorted m₂ l₂ j.second) second_index.firsts
              (second_index.keys.only (r * 256 + (transition_at l₁ i).letter) (omega (arith, g.states.1, j.second.states_fit)) m)

      rest_step : (t : Transition) → t ≡ transition_at l₁ i
          → flat (each i (hi - i) (moves r)) ≡ flat (joint_moves m₂.states m₂.transitions l₂ r t) ++ flat (each (i + 1) (hi - (i + 1)) (moves r))
      rest_step t e =
          ap flat (each_step i hi (moves r) pairing_below)
          ∙ flat_append (moves r i) (each (i + 1) (hi - (i + 1)) (moves r))
          ∙ ap (λ (z : Transition). flat (joint_moves m₂.states m₂.transitions l₂ r z) ++ flat (each (i + 1) (hi - (i + 1)) (moves r))) (sym e)

      pub pairing_room : (t : Transition) → t ≡ transition_at l₁ i → at + length (flat (joint_moves m₂.states m₂.transitions l₂ r t)) ≤ length list
      pairing_room t e =
          putting_room (flat (joint_moves m₂.states m₂.transitions l₂ r t)) (flat (each (i + 1) (hi - (i + 1)) (moves r))) s.putting (rest_step t e)

      pub pairing_next : (t : Transition) → t ≡ transition_at l₁ i → (list' : List ℕ) (at' : ℕ) (o : Option ℕ)
          → list' ≡ put at list (flat (joint_moves m₂.states m₂.transitions l₂ r t)) → at' ≡ at + length (flat (joint_moves m₂.states m₂.transitions l₂ r t))
          → NextMove l₁ letters (i + 1) hi o → Pairing letters p r lo hi entry k list' at' o
      pairing_next t e list' at' o el ea n =
          let low = s.low in
          let lt = pairing_below in
          let on = next_low (i + 1) (omega arith) (omega arith) o n in
          record {
            low = omega arith;
            high = next_high (i + 1) (omega arith) (omega arith) o n;
            putting = subst (λ (z : List Transition). Putting entry k (flat (joined_from m₁ l₁ m₂ l₂ p r)) list' at' (flat z))
                (skipped (i + 1) (omega arith) (omega arith) o n)
                (putting_at (putting_step (flat (joint_moves m₂.states m₂.transitions l₂ r t)) (flat (each (i + 1) (hi - (i + 1)) (moves r))) s.putting (rest_step t e) el) (sym ea));
            reached = next_reached (i + 1) (omega arith) (omega arith) o n;
          }

  pub pairing_at : {letters : List ℕ} {p r lo hi k at : ℕ} {entry list : List ℕ} {o o' : Option ℕ} → o ≡ o' → Pairing letters p r lo hi entry k list at o
      → Pairing letters p r lo hi entry k list at o'
  pairing_at {letters} {p} {r} {lo} {hi} {k} {at} {entry} {list} e s = subst (λ (o : Option ℕ). Pairing letters p r lo hi entry k list at o) e s

  pub pairing_end : {letters : List ℕ} {p r lo hi k at : ℕ} {entry list : List ℕ} → Pairing letters p r lo hi entry k list at None
      → (list ≡ put k entry (flat (joined_from m₁ l₁ m₂ l₂ p r))) × (at ≡ k + length (flat (joined_from m₁ l₁ m₂ l₂ p r)))
  unfolding flat
  pairing_end {r = r} {hi = hi} s = putting_end s.putting (ap flat (each_over hi hi (moves r) (omega arith)))

  -- The loop over the states of the second

  abbrev pub row : ℕ → List Transition
  row p = each 0 m₂.states (λ r. joined_from m₁ l₁ m₂ l₂ p r)

  pub record Rowing (p : ℕ) (entry : List ℕ) (k : ℕ) (list : List ℕ) (at r : ℕ) : Type 0 where
    pub high : r ≤ m₂.states
    pub putting : Putting entry k (flat (row p)) list at (flat (each r (m₂.states - r) (λ r. joined_from m₁ l₁ m₂ l₂ p r)))

  pub rowing_start : (p k : ℕ) (entry : List ℕ) → k + length (flat (row p)) ≤ length entry → Rowing p entry k entry k 0
  rowing_start p k entry room =
      record {
        high = omega arith;
        putting = subst (λ (n : ℕ). Putting entry k (flat (row p)) entry k (flat (each 0 n (λ r. joined_from m₁ l₁ m₂ l₂ p r)))) whole (putting_start room);
      }
    where
      whole : m₂.states ≡ m₂.states - 0
      whole = omega arith

  module _ {p k at r : ℕ} {entry list : List ℕ} (s : Rowing p entry k list at r) where
    row_step : r < m₂.states → flat (each r (m₂.states - r) (λ r. joined_from m₁ l₁ m₂ l₂ p r))
        ≡ flat (joined_from m₁ l₁ m₂ l₂ p r) ++ flat (each (r + 1) (m₂.states - (r + 1)) (λ r. joined_from m₁ l₁ m₂ l₂ p r))
    row_step lt =
        ap flat (each_step r m₂.states (λ r. joined_from m₁ l₁ m₂ l₂ p r) lt)
        ∙ flat_append (joined_from m₁ l₁ m₂ l₂ p r) (each (r + 1) (m₂.states - (r + 1)) (λ r. joined_from m₁ l₁ m₂ l₂ p r))

    pub rowing_room : r < m₂.states → at + length (flat (joined_from m₁ l₁ m₂ l₂ p r)) ≤ length list
    rowing_room lt = putting_room (flat (joined_from m₁ l₁ m₂ l₂ p r)) (flat (each (r + 1) (m₂.states - (r + 1)) (λ r. joined_from m₁ l₁ m₂ l₂ p r))) s.putting (row_step lt)

    pub rowing_next : r < m₂.states → (list' : List ℕ) (at' : ℕ) → list' ≡ put at list (flat (joined_from m₁ l₁ m₂ l₂ p r)) → at' ≡ at + length (flat (joined_from m₁ l₁ m₂ l₂ p r))
        → Rowing p entry k list' at' (r + 1)
    rowing_next lt list' at' el ea =
        record {
          high = omega arith;
          putting = putting_at (putting_step (flat (joined_from m₁ l₁ m₂ l₂ p r)) (flat (each (r + 1) (m₂.states - (r + 1)) (λ r. joined_from m₁ l₁ m₂ l₂ p r))) s.putting (row_step lt) el) (sym ea);
        }

    pub rowing_end : m₂.states ≤ r → (list ≡ put k entry (flat (row p))) × (at ≡ k + length (flat (row p)))
    unfolding flat
    rowing_end le = putting_end s.putting (ap flat (each_over r m₂.states (λ r. joined_from m₁ l₁ m₂ l₂ p r) le))

  -- The loop over the states of the first

  pub record Writing (entry list : List ℕ) (at lo p : ℕ) : Type 0 where
    pub high : p ≤ m₁.states
    pub putting : Putting entry 0 (joined_transitions m₁ l₁ m₂ l₂) list at (flat (each p (m₁.states - p) row))
    pub lo_in : lo ≤ m₁.transitions
    pub before : (i : ℕ) → i < lo → letter_key l₁ i < p * 256
    pub after : (i : ℕ) → lo ≤ i → i < m₁.transitions → p * 256 ≤ letter_key l₁ i

  pub writing_start : (entry : List ℕ) → length (joined_transitions m₁ l₁ m₂ l₂) ≤ length entry → Writing entry entry 0 0 0
  unfolding joined_transitions joined
  writing_start entry room =
      record {
        high = omega arith;
        putting = subst (λ (n : ℕ). Putting entry 0 (flat (each 0 m₁.states row)) entry 0 (flat (each 0 n row))) whole (putting_start (omega arith));
        lo_in = omega arith;
        before = λ (i : ℕ) (h : i < 0). absurd (omega arith);
        after = λ i a b. omega arith;
      }
    where
      whole : m₁.states ≡ m₁.states - 0
      whole = omega arith

  module _ {at lo p hi : ℕ} {entry list : List ℕ} (s : Writing entry list at lo p) (l : Lower l₁ m₁.transitions lo (p * 256 + 256) hi) where
    pub writing_block : Block l₁ m₁.transitions p lo hi
    writing_block =
        record {
          low = l.low;
          high = l.high;
          before = s.before;
          from = λ i a b. s.after i a (omega (arith, l.high));
          upto = l.below;
          after = λ i a b. let r = l.reached (omega arith) in let up = keys_sorted m₁ l₁ j.first hi i a b in omega arith;
        }

    state_step : p < m₁.states → flat (each p (m₁.states - p) row) ≡ flat (row p) ++ flat (each (p + 1) (m₁.states - (p + 1)) row)
    state_step lt = ap flat (each_step p m₁.states row lt) ∙ flat_append (row p) (each (p + 1) (m₁.states - (p + 1)) row)

    pub writing_room : p < m₁.states → at + length (flat (row p)) ≤ length list
    writing_room lt = putting_room (flat (row p)) (flat (each (p + 1) (m₁.states - (p + 1)) row)) s.putting (state_step lt)

    pub writing_next : p < m₁.states → (list' : List ℕ) (at' : ℕ) → list' ≡ put at list (flat (row p)) → at' ≡ at + length (flat (row p)) → Writing entry list' at' hi (p + 1)
    writing_next lt list' at' el ea =
        let b = writing_block in
        record {
          high = omega arith;
          putting = putting_at (putting_step (flat (row p)) (flat (each (p + 1) (m₁.states - (p + 1)) row)) s.putting (state_step lt) el) (sym ea);
          lo_in = l.high;
          before = λ i h. at_before i h (dec_lt i lo);
          after = λ i a c. let h = b.after i a c in omega arith;
        }
      where
        at_before : (i : ℕ) → i < hi → Dec (i < lo) → letter_key l₁ i < (p + 1) * 256
        at_before i h (yes a) = let f = s.before i a in omega arith
        at_before i h (no a) = let f = l.below i (omega arith) h in omega arith

  pub writing_end : {at lo p : ℕ} {entry list : List ℕ} → Writing entry list at lo p → m₁.states ≤ p → list ≡ put 0 entry (joined_transitions m₁ l₁ m₂ l₂)
  unfolding flat
  writing_end {p = p} s le = (putting_end s.putting (ap flat (each_over p m₁.states row le))).0
