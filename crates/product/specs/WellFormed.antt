-- The product is a well-formed table.
--
-- initial_joined, final_joined, buffering_joined, matching_joined == the tests of the product's marks at a pair
-- initial_at, final_at, buffering_at, matching_at == the same at a state, by its parts
-- listed_at               == transition k of the product's list, with anything behind it
-- joined_well_formed      == the product's record and its list obey the rules of a table
use Prim.Native.Nat.{ℕ, zero, suc, ◌+◌, ◌*◌, ◌-◌, ◌/◌, ◌%◌, ◌≤◌, ◌<◌}
use Rattle.std.specs.Prelude.{◌≡◌, refl, Bool, false, cond, ◌&&◌, ◌||◌, get_or, leb, ltb, eqb}
use Rattle.std.proofs.Math.Path.{sym, ap}
use Rattle.std.proofs.Common.{◌∙◌, subst, sub-one, div-add-mod'}
use Rattle.std.proofs.Math.Bool.{true, not}
use mathlib.Core.List.{List, [], ◌∷◌, ◌++◌, Memᴰ}
use native.Mathlib.Omega.{arith}
use Rattle.std.proofs.Math.Nat.{mul-le-mul}
use Rattle.std.proofs.Math.ListN.{length, length-append}
use Rattle.std.proofs.Math.Dec.{eqb-suc-zero}
use borrow.Author.Tests.{ltb-true, lt-ltb, le-leb, eq-eqb, eqb-true, eqb-false}
use Rattle.basics.specs.Search.Laws.{and_both_true}
use Rattle.basics.specs.Search.Loops.{first, second}
use Rattle.fsbm.specs.Machine.{max_states, mark_of, initial, final, buffering, matching, transition_at, good_mark, named, precedes, good_transition, well_formed}
use Rattle.fsbm.specs.Rules.{one_kind, tested}
use Rattle.fsbm.specs.declared.machine.Machine.{Machine}
use Rattle.fsbm.specs.declared.machine.Transition.{Transition}
use Rattle.basics.specs.Bools.{cond_elim, says_not_and}
use Rattle.product.specs.Count.{joined_count_lem, joined_length}
use Rattle.product.specs.Each.Laws.{each_single}
use Rattle.product.specs.Product.{pair_state, joined, joined_transitions, joined_count, pair_mark, joined_mark, joined_marks, joined_machine, join_fault}
use Rattle.product.specs.Rise.{rises_next, joined_rises, joined_bounds}
use Rattle.product.specs.Steps.{flat_at}
use Rattle.basics.specs.Pairs.{pair_below, pair_first, pair_second}
use Rattle.product.specs.Tables.{order, Joinable, joinable, first_below, second_below}

-- Marks

-- a sum of four flags
flags : Bool → Bool → Bool → Bool → ℕ
flags a b c d = cond a 1 0 + cond b 2 0 + cond c 4 0 + cond d 8 0

flags_say : (a b c d : Bool)
    → (eqb (flags a b c d % 2) 1 ≡ a) × (eqb (flags a b c d / 2 % 2) 1 ≡ b) × (eqb (flags a b c d / 4 % 2) 1 ≡ c) × (eqb (flags a b c d / 8 % 2) 1 ≡ d)
    × (leb (flags a b c d) 15 ≡ true)
unfolding flags
flags_say true true true true = (refl, refl, refl, refl, refl)
flags_say true true true false = (refl, refl, refl, refl, refl)
flags_say true true false true = (refl, refl, refl, refl, refl)
flags_say true true false false = (refl, refl, refl, refl, refl)
flags_say true false true true = (refl, refl, refl, refl, refl)
flags_say true false true false = (refl, refl, refl, refl, refl)
flags_say true false false true = (refl, refl, refl, refl, refl)
flags_say true false false false = (refl, refl, refl, refl, refl)
flags_say false true true true = (refl, refl, refl, refl, refl)
flags_say false true true false = (refl, refl, refl, refl, refl)
flags_say false true false true = (refl, refl, refl, refl, refl)
flags_say false true false false = (refl, refl, refl, refl, refl)
flags_say false false true true = (refl, refl, refl, refl, refl)
flags_say false false true false = (refl, refl, refl, refl, refl)
flags_say false false false true = (refl, refl, refl, refl, refl)
flags_say false false false false = (refl, refl, refl, refl, refl)

module _ {m₁ : Machine} {l₁ : List ℕ} {m₂ : Machine} {l₂ : List ℕ} (j : Joinable m₁ l₁ m₂ l₂) where
  -- the mark of state q below 64
  mark_at : (q : ℕ) → q < 64 → mark_of (joined_marks m₁ m₂) q ≡ joined_mark m₁ m₂ q
  unfolding joined_marks
  mark_at q lt =
      let start : 0 + q ≡ q = omega arith in
      sym (first 0 (lt-ltb q max_states lt) refl) ∙ each_single 0 max_states (joined_mark m₁ m₂) q 0 lt ∙ ap (joined_mark m₁ m₂) start

  -- the four flags of state q of the product
  mark_flags : (q : ℕ) → q < m₁.states * m₂.states
      → mark_of (joined_marks m₁ m₂) q
      ≡ flags (initial m₁.marks (q / m₂.states) && initial m₂.marks (q % m₂.states)) (final m₁.marks (q / m₂.states) && final m₂.marks (q % m₂.states)) (buffering m₁.marks (q / m₂.states)) (matching m₁.marks (q / m₂.states))
  unfolding joined_mark pair_mark flags
  mark_flags q lt = mark_at q (omega (arith, j.few_states)) ∙ sym (first 0 (lt-ltb q (m₁.states * m₂.states) lt) refl)

  -- at the pair (p, r)
  pair_flags : (p r : ℕ) → p < m₁.states → r < m₂.states
      → mark_of (joined_marks m₁ m₂) (pair_state m₂.states p r)
      ≡ flags (initial m₁.marks p && initial m₂.marks r) (final m₁.marks p && final m₂.marks r) (buffering m₁.marks p) (matching m₁.marks p)
  pair_flags p r lp lr =
      mark_flags (pair_state m₂.states p r) (pair_below m₁.states m₂.states p r lp lr)
      ∙ ap (λ (z : ℕ). flags (initial m₁.marks z && initial m₂.marks (pair_state m₂.states p r % m₂.states)) (final m₁.marks z && final m₂.marks (pair_state m₂.states p r % m₂.states)) (buffering m₁.marks z) (matching m₁.marks z)) (pair_first m₂.states p r lr)
      ∙ ap (λ (z : ℕ). flags (initial m₁.marks p && initial m₂.marks z) (final m₁.marks p && final m₂.marks z) (buffering m₁.marks p) (matching m₁.marks p)) (pair_second m₂.states p r lr)

  module _ (p r : ℕ) (lp : p < m₁.states) (lr : r < m₂.states) where
    says : (eqb (flags (initial m₁.marks p && initial m₂.marks r) (final m₁.marks p && final m₂.marks r) (buffering m₁.marks p) (matching m₁.marks p) % 2) 1 ≡ (initial m₁.marks p && initial m₂.marks r))
        × (eqb (flags (initial m₁.marks p && initial m₂.marks r) (final m₁.marks p && final m₂.marks r) (buffering m₁.marks p) (matching m₁.marks p) / 2 % 2) 1 ≡ (final m₁.marks p && final m₂.marks r))
        × (eqb (flags (initial m₁.marks p && initial m₂.marks r) (final m₁.marks p && final m₂.marks r) (buffering m₁.marks p) (matching m₁.marks p) / 4 % 2) 1 ≡ buffering m₁.marks p)
        × (eqb (flags (initial m₁.marks p && initial m₂.marks r) (final m₁.marks p && final m₂.marks r) (buffering m₁.marks p) (matching m₁.marks p) / 8 % 2) 1 ≡ matching m₁.marks p)
        × (leb (flags (initial m₁.marks p && initial m₂.marks r) (final m₁.marks p && final m₂.marks r) (buffering m₁.marks p) (matching m₁.marks p)) 15 ≡ true)
    says = flags_say (initial m₁.marks p && initial m₂.marks r) (final m₁.marks p && final m₂.marks r) (buffering m₁.marks p) (matching m₁.marks p)

    pub initial_joined : initial (joined_marks m₁ m₂) (pair_state m₂.states p r) ≡ (initial m₁.marks p && initial m₂.marks r)
    initial_joined = ap (λ (z : ℕ). eqb (z % 2) 1) (pair_flags p r lp lr) ∙ says.0

    pub final_joined : final (joined_marks m₁ m₂) (pair_state m₂.states p r) ≡ (final m₁.marks p && final m₂.marks r)
    final_joined = ap (λ (z : ℕ). eqb (z / 2 % 2) 1) (pair_flags p r lp lr) ∙ says.1

    pub buffering_joined : buffering (joined_marks m₁ m₂) (pair_state m₂.states p r) ≡ buffering m₁.marks p
    buffering_joined = ap (λ (z : ℕ). eqb (z / 4 % 2) 1) (pair_flags p r lp lr) ∙ says.2

    pub matching_joined : matching (joined_marks m₁ m₂) (pair_state m₂.states p r) ≡ matching m₁.marks p
    matching_joined = ap (λ (z : ℕ). eqb (z / 8 % 2) 1) (pair_flags p r lp lr) ∙ says.3

    mark_small : leb (mark_of (joined_marks m₁ m₂) (pair_state m₂.states p r)) 15 ≡ true
    mark_small = ap (λ (z : ℕ). leb z 15) (pair_flags p r lp lr) ∙ says.4

    -- never buffering and matching together
    not_both_kinds : not (buffering (joined_marks m₁ m₂) (pair_state m₂.states p r) && matching (joined_marks m₁ m₂) (pair_state m₂.states p r)) ≡ true
    not_both_kinds =
        ap (λ (z : Bool). not (z && matching (joined_marks m₁ m₂) (pair_state m₂.states p r))) buffering_joined
        ∙ ap (λ (z : Bool). not (buffering m₁.marks p && z)) matching_joined
        ∙ says_not_and (buffering m₁.marks p) (matching m₁.marks p) (λ z. one_kind m₁ l₁ j.first p z.0 z.1)

  module _ (q : ℕ) (lt : q < m₁.states * m₂.states) where
    at_pair : (test : List ℕ → ℕ → Bool) → test (joined_marks m₁ m₂) q ≡ test (joined_marks m₁ m₂) (pair_state m₂.states (q / m₂.states) (q % m₂.states))
    at_pair test = ap (test (joined_marks m₁ m₂)) (sym (div-add-mod' q m₂.states))

    pub initial_at : initial (joined_marks m₁ m₂) q ≡ (initial m₁.marks (q / m₂.states) && initial m₂.marks (q % m₂.states))
    initial_at = at_pair initial ∙ initial_joined (q / m₂.states) (q % m₂.states) (first_below j q lt) (second_below j q)

    pub final_at : final (joined_marks m₁ m₂) q ≡ (final m₁.marks (q / m₂.states) && final m₂.marks (q % m₂.states))
    final_at = at_pair final ∙ final_joined (q / m₂.states) (q % m₂.states) (first_below j q lt) (second_below j q)

    pub buffering_at : buffering (joined_marks m₁ m₂) q ≡ buffering m₁.marks (q / m₂.states)
    buffering_at = at_pair buffering ∙ buffering_joined (q / m₂.states) (q % m₂.states) (first_below j q lt) (second_below j q)

    pub matching_at : matching (joined_marks m₁ m₂) q ≡ matching m₁.marks (q / m₂.states)
    matching_at = at_pair matching ∙ matching_joined (q / m₂.states) (q % m₂.states) (first_below j q lt) (second_below j q)

  mark_past : (q : ℕ) → ltb q (m₁.states * m₂.states) ≡ false → joined_mark m₁ m₂ q ≡ 0
  unfolding joined_mark
  mark_past q h = sym (second _ h refl)

  mark_good : (q : ℕ) → q < 64 → good_mark (joined_machine m₁ l₁ m₂ l₂) q ≡ true
  unfolding joined_machine
  mark_good q lt =
      cond_elim (λ (b : Bool). b ≡ true) (ltb q (m₁.states * m₂.states)) _ _
      (λ h. inside (ltb-true q (m₁.states * m₂.states) h))
      (λ h. eq-eqb (mark_of (joined_marks m₁ m₂) q) 0 (mark_at q lt ∙ mark_past q h))
    where
      Good : ℕ → Type 0
      Good q = (leb (mark_of (joined_marks m₁ m₂) q) 15 && not (buffering (joined_marks m₁ m₂) q && matching (joined_marks m₁ m₂) q)) ≡ true

      inside : q < m₁.states * m₂.states → Good q
      inside h =
          let p = q / m₂.states in
          let r = q % m₂.states in
          let lp = first_below j q h in
          let lr = second_below j q in
          subst Good (div-add-mod' q m₂.states)
          (and_both_true (leb (mark_of (joined_marks m₁ m₂) (pair_state m₂.states p r)) 15)
          (not (buffering (joined_marks m₁ m₂) (pair_state m₂.states p r) && matching (joined_marks m₁ m₂) (pair_state m₂.states p r)))
          (mark_small p r lp lr) (not_both_kinds p r lp lr))

-- Transitions

order_precedes : (s t : Transition) → t.letter < 256 → t.to < 64 → order s < order t → precedes s t ≡ true
order_precedes s t lt tt up =
    cond_elim (λ (b : Bool). b ≡ true) (eqb s.from t.from) _ _
    (λ e. let a = eqb-true s.from t.from e in
    cond_elim (λ (b : Bool). b ≡ true) (eqb s.letter t.letter) (ltb s.to t.to) (ltb s.letter t.letter)
    (λ f. let b = eqb-true s.letter t.letter f in lt-ltb s.to t.to (omega arith))
    (λ f. let b = eqb-false s.letter t.letter f in lt-ltb s.letter t.letter (omega arith)))
    (λ e. let a = eqb-false s.from t.from e in lt-ltb s.from t.from (omega arith))

get_d_in : {A : Type 0} (l : List A) (k : ℕ) (d : A) → k < length l → Memᴰ (get_or l k d) l
get_d_in [] k d h = absurd (omega arith)
get_d_in (x ∷ l) zero d h = Memᴰ.head refl
get_d_in (x ∷ l) (suc k) d h = Memᴰ.tail (get_d_in l k d (omega arith))

abbrev pub no_transition : Transition
no_transition = record { from = 0; letter = 0; to = 0 }

module _ (m₁ : Machine) (l₁ : List ℕ) (m₂ : Machine) (l₂ : List ℕ) (fine : join_fault m₁ l₁ m₂ l₂ ≡ 0) (rest : List ℕ) where
  pub listed_at : (k : ℕ) → k < joined_count m₁ l₁ m₂ l₂
      → (transition_at (joined_transitions m₁ l₁ m₂ l₂ ++ rest) k ≡ get_or (joined m₁ l₁ m₂ l₂) k no_transition)
      × Memᴰ (get_or (joined m₁ l₁ m₂ l₂) k no_transition) (joined m₁ l₁ m₂ l₂)
  unfolding joined_transitions
  listed_at k lt =
      let size = joined_count_lem m₁ l₁ m₂ l₂ fine in
      (flat_at (joined m₁ l₁ m₂ l₂) rest k no_transition (omega arith), get_d_in (joined m₁ l₁ m₂ l₂) k no_transition (omega arith))

  transition_named : (k : ℕ) → k < joined_count m₁ l₁ m₂ l₂ → named (m₁.states * m₂.states) m₁.letters (transition_at (joined_transitions m₁ l₁ m₂ l₂ ++ rest) k) ≡ true
  transition_named k lt =
      let (at, in-joined) = listed_at k lt in
      let x = get_or (joined m₁ l₁ m₂ l₂) k no_transition in
      let (from, letter, to) = joined_bounds (joinable m₁ l₁ m₂ l₂ fine) x in-joined in
      ap (named (m₁.states * m₂.states) m₁.letters) at
      ∙ and_both_true (ltb x.from (m₁.states * m₂.states)) (leb x.letter m₁.letters && ltb x.to (m₁.states * m₂.states)) (lt-ltb x.from (m₁.states * m₂.states) from)
      (and_both_true (leb x.letter m₁.letters) (ltb x.to (m₁.states * m₂.states)) (le-leb x.letter m₁.letters letter) (lt-ltb x.to (m₁.states * m₂.states) to))

  transition_rises : (k : ℕ) → suc k < joined_count m₁ l₁ m₂ l₂
      → precedes (transition_at (joined_transitions m₁ l₁ m₂ l₂ ++ rest) k) (transition_at (joined_transitions m₁ l₁ m₂ l₂ ++ rest) (suc k)) ≡ true
  transition_rises k lt =
      let j = joinable m₁ l₁ m₂ l₂ fine in
      let (at, in-joined) = listed_at k (omega arith) in
      let (next, next-joined) = listed_at (suc k) lt in
      let x = get_or (joined m₁ l₁ m₂ l₂) k no_transition in
      let y = get_or (joined m₁ l₁ m₂ l₂) (suc k) no_transition in
      let (from, letter, to) = joined_bounds j y next-joined in
      let size = joined_count_lem m₁ l₁ m₂ l₂ fine in
      ap (λ (z : Transition). precedes z (transition_at (joined_transitions m₁ l₁ m₂ l₂ ++ rest) (suc k))) at
      ∙ ap (λ (z : Transition). precedes x z) next
      ∙ order_precedes x y (omega (arith, j.first.letters_fit)) (omega (arith, j.few_states)) (rises_next (joined_rises j) k no_transition (omega arith))

  transition_good : (k : ℕ) → k < joined_count m₁ l₁ m₂ l₂ → good_transition (m₁.states * m₂.states) m₁.letters (joined_transitions m₁ l₁ m₂ l₂ ++ rest) k ≡ true
  transition_good zero lt = and_both_true (named (m₁.states * m₂.states) m₁.letters (transition_at (joined_transitions m₁ l₁ m₂ l₂ ++ rest) 0)) true (transition_named 0 lt) refl
  transition_good (suc k) lt =
      and_both_true (named (m₁.states * m₂.states) m₁.letters (transition_at (joined_transitions m₁ l₁ m₂ l₂ ++ rest) (suc k)))
      (eqb (suc k) 0 || precedes (transition_at (joined_transitions m₁ l₁ m₂ l₂ ++ rest) (suc k - 1)) (transition_at (joined_transitions m₁ l₁ m₂ l₂ ++ rest) (suc k)))
      (transition_named (suc k) lt) (rw (eqb-suc-zero, sub-one) (transition_rises k lt))

  pub joined_well_formed : well_formed (joined_machine m₁ l₁ m₂ l₂) (joined_transitions m₁ l₁ m₂ l₂ ++ rest) ≡ true
  unfolding joined_machine
  joined_well_formed =
      let j = joinable m₁ l₁ m₂ l₂ fine in
      let count = joined_count m₁ l₁ m₂ l₂ in
      let some : 1 * 1 ≤ m₁.states * m₂.states = mul-le-mul j.first.some_state j.second.some_state in
      (tested (joined_machine m₁ l₁ m₂ l₂) (joined_transitions m₁ l₁ m₂ l₂ ++ rest)).1
      (record {
        counts = record { some = some; few_states = j.few_states; few_letters = j.first.letters_fit; few_transitions = j.few_transitions };
        long =
            let both = length-append (joined_transitions m₁ l₁ m₂ l₂) rest in
            let size = joined_length m₁ l₁ m₂ l₂ fine in
            let long : count * 3 ≤ length (joined_transitions m₁ l₁ m₂ l₂ ++ rest) = omega arith in
            long;
        marks = mark_good j;
        transitions = transition_good;
      })
