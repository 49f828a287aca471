-- The product accepts exactly the common words: those that both machines accept, each by runs of its own. Everything is said of the
-- product's list with anything behind it, as a caller's list holds it.
--
-- Split, listed_split     == a transition of the product is one of the first, with the second standing still or moving too
-- listed_epsilon, listed_letter == and back
-- Reads r u q             == the second machine goes from r to q by the letters of u
-- plain_run_length        == an accepting run of the second has one entry more than the word has letters
-- joined_splits           == from an accepting run of the product one of each machine, the first's as long, the second's of n + 1 entries
-- splits_join             == from accepting runs of both machines one of the product, as long as the first's
-- joined_accepted         == the product accepts a word, if and only if both machines do
use Rattle.std.specs.Prelude.{ℕ, zero, suc, ◌+◌, ◌*◌, ◌/◌, ◌%◌, ◌<◌, ◌≡◌, ◌⊎◌, true, ◌&&◌, length, get_or}
use Rattle.std.proofs.Math.Path.{refl, sym, subst}
use Rattle.std.proofs.Common.{ap, ◌∙◌, inr, eqb-true, le-ltb}
use Rattle.std.proofs.Math.Logic.{inl}
use mathlib.Core.List.{List, [], ◌∷◌, ◌++◌, Memᴰ}
use native.Mathlib.Omega.{arith}
use Rattle.std.proofs.Math.Decide.{dec_lt}
use Rattle.basics.specs.Search.{AllBelow}
use Rattle.basics.specs.Search.Laws.{and_true, and_both_true, not_both}
use Rattle.basics.specs.Search.Loops.{second}
use Rattle.graphs.specs.Paths.{Path, here, step}
use Rattle.fsbm.specs.Accepted.{accepted}
use Rattle.fsbm.specs.Machine.{max_states, mark_of, initial, final, matching, transition_at}
use Rattle.fsbm.specs.Moves.{accepting}
use Rattle.fsbm.specs.Published.{Listed, fsbm_of, Configuration, config, symbol, Yields, normal, buffer, empty, begins_buffering, begins_emptying, returns_to_normal}
use Rattle.fsbm.specs.declared.machine.Machine.{Machine}
use Rattle.fsbm.specs.declared.machine.Transition.{Transition}
use Rattle.fsbm.specs.declared.config.Mode.{Mode}
use Rattle.fsbm.specs.declared.config.Mode.TheVariants.{Normal, Buffering, Emptying}
use Rattle.language.specs.Agreement.{accepting_path, path_accepting}
use Rattle.basics.specs.Bools.{same_truth}
use Rattle.language.specs.Bound.{accepted_iff_run}
use Rattle.fsbm.specs.Rules.{Rules, rules, buffering_below, matching_below}
use Rattle.product.specs.Count.{joined_count_lem}
use Rattle.product.specs.Product.{pair_state, joint, joined, joined_transitions, joined_count, joined_marks, joined_machine, join_fault}
use Rattle.product.specs.Rise.{bounds}
use Rattle.product.specs.Steps.{moves_epsilon, moves_letter, joined_to, joined_of_lem}
use Rattle.basics.specs.Pairs.{pair_below, pair_first, pair_second}
use Rattle.product.specs.Tables.{Joinable, joinable, first_below, second_below}
use Rattle.product.specs.WellFormed.{initial_joined, final_joined, buffering_joined, matching_joined, initial_at, final_at, buffering_at, matching_at, no_transition, listed_at, joined_well_formed}

-- an element of a list stands at some place
place_of : {A : Type 0} {x : A} (l : List A) (d : A) → Memᴰ x l → (k : ℕ) × (k < length l) × (get_or l k d ≡ x)
place_of l d (Memᴰ.head e) = (0, omega arith, sym e)
place_of l d (Memᴰ.tail {xs = r} m) = let (k, lt, e) = place_of r d m in (suc k, omega arith, e)

module _ (m₁ : Machine) (l₁ : List ℕ) (m₂ : Machine) (l₂ : List ℕ) (fine : join_fault m₁ l₁ m₂ l₂ ≡ 0) (rest : List ℕ) where
  abbrev J : Machine
  J = joined_machine m₁ l₁ m₂ l₂

  abbrev L : List ℕ
  L = joined_transitions m₁ l₁ m₂ l₂ ++ rest

  j : Joinable m₁ l₁ m₂ l₂
  j = joinable m₁ l₁ m₂ l₂ fine

  joined_rules : Rules J L
  joined_rules = rules J L (joined_well_formed m₁ l₁ m₂ l₂ fine rest)

  -- Transitions of the product

  pub record Split (P x Q : ℕ) : Type 0 where
    pub from_below : P < m₁.states * m₂.states
    pub to_below : Q < m₁.states * m₂.states
    pub of_first : Listed l₁ m₁.transitions (P / m₂.states) x (Q / m₂.states)
    pub of_second : ((x ≡ 0) × (Q % m₂.states ≡ P % m₂.states)) ⊎ ((x ≡ 0 → ⊥) × Listed l₂ m₂.transitions (P % m₂.states) x (Q % m₂.states))

  pub listed_split : {P x Q : ℕ} → Listed L (joined_count m₁ l₁ m₂ l₂) P x Q → Split P x Q
  listed_split {P} {x} {Q} d =
      let (at, in-joined) = listed_at m₁ l₁ m₂ l₂ fine rest d.number d.listed in
      let (i, r, lt, lr, k) = joined_to m₁ l₁ m₂ l₂ in-joined in
      let b = bounds j i r lt lr k in
      let from : P ≡ pair_state m₂.states (transition_at l₁ i).from r = sym d.from ∙ ap (λ (z : Transition). z.from) at ∙ b.step.from in
      let letter : x ≡ (transition_at l₁ i).letter = sym d.letter ∙ ap (λ (z : Transition). z.letter) at ∙ b.step.letter in
      let to : Q ≡ pair_state m₂.states (transition_at l₁ i).to b.step.next = sym d.to ∙ ap (λ (z : Transition). z.to) at ∙ b.step.to in
      let p_first : P / m₂.states ≡ (transition_at l₁ i).from = ap (λ (z : ℕ). z / m₂.states) from ∙ pair_first m₂.states (transition_at l₁ i).from r lr in
      let p_second : P % m₂.states ≡ r = ap (λ (z : ℕ). z % m₂.states) from ∙ pair_second m₂.states (transition_at l₁ i).from r lr in
      let q_first : Q / m₂.states ≡ (transition_at l₁ i).to = ap (λ (z : ℕ). z / m₂.states) to ∙ pair_first m₂.states (transition_at l₁ i).to b.step.next b.next_below in
      let q_second : Q % m₂.states ≡ b.step.next = ap (λ (z : ℕ). z % m₂.states) to ∙ pair_second m₂.states (transition_at l₁ i).to b.step.next b.next_below in
      record {
        from_below = let small = b.from_small in let e = b.step.from in omega arith;
        to_below = let small = b.to_small in let e = b.step.to in omega arith;
        of_first = record { number = i; listed = lt; from = sym p_first; letter = sym letter; to = sym q_first };
        of_second = at_second i r b.step.next letter p_second q_second b.step.moves;
      }
    where
      at_second : (i r s : ℕ) → x ≡ (transition_at l₁ i).letter → P % m₂.states ≡ r → Q % m₂.states ≡ s
          → (((transition_at l₁ i).letter ≡ 0) × (s ≡ r)) ⊎ (((transition_at l₁ i).letter ≡ 0 → ⊥) × Listed l₂ m₂.transitions r (transition_at l₁ i).letter s)
          → ((x ≡ 0) × (Q % m₂.states ≡ P % m₂.states)) ⊎ ((x ≡ 0 → ⊥) × Listed l₂ m₂.transitions (P % m₂.states) x (Q % m₂.states))
      at_second i r s el ep eq (inl (z, e)) = inl (el ∙ z, eq ∙ e ∙ sym ep)
      at_second i r s el ep eq (inr (z, d)) =
          inr (λ e. z (sym el ∙ e), record { number = d.number; listed = d.listed; from = d.from ∙ sym ep; letter = d.letter ∙ sym el; to = d.to ∙ sym eq })

  listed_of : (x : Transition) → Memᴰ x (joined m₁ l₁ m₂ l₂) → Listed L (joined_count m₁ l₁ m₂ l₂) x.from x.letter x.to
  listed_of x m =
      let (k, lt, e) = place_of (joined m₁ l₁ m₂ l₂) no_transition m in
      let size = joined_count_lem m₁ l₁ m₂ l₂ fine in
      let inside : k < joined_count m₁ l₁ m₂ l₂ = omega arith in
      let at = (listed_at m₁ l₁ m₂ l₂ fine rest k inside).0 ∙ e in
      record { number = k; listed = inside; from = ap (λ (z : Transition). z.from) at; letter = ap (λ (z : Transition). z.letter) at; to = ap (λ (z : Transition). z.to) at }

  pub listed_epsilon : {p x q : ℕ} (r : ℕ) → r < m₂.states → Listed l₁ m₁.transitions p x q → x ≡ 0 → Listed L (joined_count m₁ l₁ m₂ l₂) (pair_state m₂.states p r) x (pair_state m₂.states q r)
  listed_epsilon {p} {x} {q} r lr d z =
      let t = transition_at l₁ d.number in
      let e = listed_of (joint m₂.states t.from r 0 t.to r) (joined_of_lem m₁ l₁ m₂ l₂ d.number r d.listed (j.first.from_below d.number d.listed) lr (moves_epsilon m₂.states m₂.transitions l₂ r t (d.letter ∙ z))) in
      record {
        number = e.number;
        listed = e.listed;
        from = e.from ∙ ap (λ (y : ℕ). pair_state m₂.states y r) d.from;
        letter = e.letter ∙ sym z;
        to = e.to ∙ ap (λ (y : ℕ). pair_state m₂.states y r) d.to;
      }

  pub listed_letter : {p x q r s : ℕ} → r < m₂.states → Listed l₁ m₁.transitions p x q → (x ≡ 0 → ⊥) → Listed l₂ m₂.transitions r x s
      → Listed L (joined_count m₁ l₁ m₂ l₂) (pair_state m₂.states p r) x (pair_state m₂.states q s)
  listed_letter {p} {x} {q} {r} {s} lr d some d₂ =
      let t = transition_at l₁ d.number in
      let e = listed_of (joint m₂.states t.from r t.letter t.to (transition_at l₂ d₂.number).to)
      (joined_of_lem m₁ l₁ m₂ l₂ d.number r d.listed (j.first.from_below d.number d.listed) lr
      (moves_letter m₂.states m₂.transitions l₂ r t (λ z. some (sym d.letter ∙ z)) d₂.number d₂.listed d₂.from (d₂.letter ∙ sym d.letter))) in
      record {
        number = e.number;
        listed = e.listed;
        from = e.from ∙ ap (λ (y : ℕ). pair_state m₂.states y r) d.from;
        letter = e.letter ∙ d.letter;
        to = e.to ∙ ap (λ (y : ℕ). pair_state m₂.states y (transition_at l₂ d₂.number).to) d.to ∙ ap (λ (y : ℕ). pair_state m₂.states q y) d₂.to;
      }

  -- From a path of the product to a path of each machine

  abbrev first_of : Configuration → Configuration
  first_of D = config D.input (D.state / m₂.states) D.buffer D.mode

  abbrev second_of : Configuration → Configuration
  second_of D = config D.input (D.state % m₂.states) [] Normal

  apart_first : {P x Q : ℕ} → Split P x Q → ((matching (joined_marks m₁ m₂) P ≡ true) × (matching (joined_marks m₁ m₂) Q ≡ true) → ⊥)
      → (matching m₁.marks (P / m₂.states) ≡ true) × (matching m₁.marks (Q / m₂.states) ≡ true) → ⊥
  apart_first {P} {x} {Q} s apart (a, b) = apart (matching_at j P s.from_below ∙ a, matching_at j Q s.to_below ∙ b)

  split_first : {D D' : Configuration} → Yields (fsbm_of J L) D D' → Yields (fsbm_of m₁ l₁) (first_of D) (first_of D')
  unfolding joined_machine
  split_first (normal {p = P} {x = x} {q = Q} δ apart n) =
      let s = listed_split δ in
      normal s.of_first (apart_first s apart) (λ g. n (buffering_at j P s.from_below ∙ g))
  split_first (buffer {p = P} {x = x} {q = Q} δ apart n) =
      let s = listed_split δ in
      buffer s.of_first (apart_first s apart) (λ g. n (buffering_at j Q s.to_below ∙ g))
  split_first (empty {p = P} {x = x} {q = Q} δ a b) =
      let s = listed_split δ in
      empty s.of_first (sym (matching_at j P s.from_below) ∙ a) (sym (matching_at j Q s.to_below) ∙ b)
  split_first (begins_buffering {q = q} is) = begins_buffering (sym (buffering_at j q (buffering_below J L joined_rules q is)) ∙ is)
  split_first (begins_emptying {q = q} is) = begins_emptying (sym (matching_at j q (matching_below J L joined_rules q is)) ∙ is)
  split_first (returns_to_normal {q = q} is) = returns_to_normal (sym (matching_at j q (matching_below J L joined_rules q is)) ∙ is)

  path_first : {D D' : Configuration} {n : ℕ} → Path Configuration (Yields (fsbm_of J L)) D D' n → Path Configuration (Yields (fsbm_of m₁ l₁)) (first_of D) (first_of D') n
  path_first here = here
  path_first (step y p) = step (split_first y) (path_first p)

  -- the second stands still, or reads one letter
  abbrev SecondMoves : Configuration → Configuration → Type 0
  SecondMoves D D' = ((second_of D ≡ second_of D') × (length D.input ≡ length D'.input)) ⊎ (Yields (fsbm_of m₂ l₂) (second_of D) (second_of D') × (length D.input ≡ suc (length D'.input)))

  second_reads : (P x Q : ℕ) (u v v' : List ℕ) (t t' : Mode) → Split P x Q → SecondMoves (config (symbol x ++ u) P v t) (config u Q v' t')
  second_reads P zero Q u v v' t t' s = at s.of_second
    where
      at : (◌≡◌ {A = ℕ} 0 0 × (Q % m₂.states ≡ P % m₂.states)) ⊎ ((◌≡◌ {A = ℕ} 0 0 → ⊥) × Listed l₂ m₂.transitions (P % m₂.states) 0 (Q % m₂.states)) → SecondMoves (config u P v t) (config u Q v' t')
      at (inl (z, e)) = inl (ap (λ (q : ℕ). config u q [] Normal) (sym e), refl)
      at (inr (z, d)) = absurd (z refl)
  second_reads P (suc x) Q u v v' t t' s = at s.of_second
    where
      at : ((suc x ≡ 0) × (Q % m₂.states ≡ P % m₂.states)) ⊎ ((suc x ≡ 0 → ⊥) × Listed l₂ m₂.transitions (P % m₂.states) (suc x) (Q % m₂.states)) → SecondMoves (config (suc x ∷ u) P v t) (config u Q v' t')
      at (inl (z, e)) = absurd (omega arith)
      at (inr (z, d)) =
          let from = second_below j P in
          inr (normal d (λ h. not_both h.0 (j.not_matching (P % m₂.states) from)) (λ g. not_both g (j.not_buffering (P % m₂.states) from)), refl)

  split_second : {D D' : Configuration} → Yields (fsbm_of J L) D D' → SecondMoves D D'
  unfolding joined_machine
  split_second (normal {p = P} {x = x} {q = Q} {u = u} δ apart n) = second_reads P x Q u [] [] Normal Normal (listed_split δ)
  split_second (buffer {p = P} {x = x} {q = Q} {u = u} {v = v} δ apart n) = second_reads P x Q u v (v ++ symbol x) Buffering Buffering (listed_split δ)
  split_second (empty {p = P} {x = x} {q = Q} {u = u} {v = v} δ a b) = second_reads P x Q u (symbol x ++ v) v Emptying Emptying (listed_split δ)
  split_second (begins_buffering is) = inl (refl, refl)
  split_second (begins_emptying is) = inl (refl, refl)
  split_second (returns_to_normal is) = inl (refl, refl)

  path_second : {D D' : Configuration} {n : ℕ} → Path Configuration (Yields (fsbm_of J L)) D D' n
      → (k : ℕ) × (length D.input ≡ k + length D'.input) × Path Configuration (Yields (fsbm_of m₂ l₂)) (second_of D) (second_of D') k
  path_second here = (0, omega arith, here)
  path_second (step {u = A} {v = B} {w = C} y p) = onto A B C (split_second y) (path_second p)
    where
      onto : (A B C : Configuration) → SecondMoves A B → (k : ℕ) × (length B.input ≡ k + length C.input) × Path Configuration (Yields (fsbm_of m₂ l₂)) (second_of B) (second_of C) k
          → (k : ℕ) × (length A.input ≡ k + length C.input) × Path Configuration (Yields (fsbm_of m₂ l₂)) (second_of A) (second_of C) k
      onto A B C (inl (e, l)) (k, s, q) = (k, l ∙ s, subst (λ (D : Configuration). Path Configuration (Yields (fsbm_of m₂ l₂)) D (second_of C) k) (sym e) q)
      onto A B C (inr (z, l)) (k, s, q) = (suc k, omega arith, step z q)

  -- From paths of both machines to a path of the product

  pub data Reads : ℕ → List ℕ → ℕ → Type 0 where
    done : {r : ℕ} → Reads r [] r
    more : {r x s q : ℕ} {u : List ℕ} → Listed l₂ m₂.transitions r (suc x) s → Reads s u q → Reads r (suc x ∷ u) q

  normal_not : {t : Mode} → t ≡ Normal → (t ≡ Buffering) ⊎ (t ≡ Emptying) → ⊥
  normal_not e (inl b) = let z : ◌≡◌ {A = ℕ} 0 1 = cc in omega arith
  normal_not e (inr b) = let z : ◌≡◌ {A = ℕ} 0 1 = cc in omega arith

  path_reads : {D D' : Configuration} {n : ℕ} → Path Configuration (Yields (fsbm_of m₂ l₂)) D D' n → D.mode ≡ Normal → D'.input ≡ []
      → (n ≡ length D.input) × Reads D.state D.input D'.state
  path_reads (here {u = D}) e i = (sym (ap length i), subst (λ (u : List ℕ). Reads D.state u D.state) (sym i) done)
  path_reads (step (normal {x = zero} δ apart n) p) e i = absurd (j.not_epsilon δ.number δ.listed δ.letter)
  path_reads (step (normal {x = suc x} δ apart n) p) e i = let (l, r) = path_reads p refl i in (ap suc l, more δ r)
  path_reads (step (buffer δ apart n) p) e i = absurd (normal_not e (inl refl))
  path_reads (step (empty δ a b) p) e i = absurd (normal_not e (inr refl))
  path_reads (step (begins_buffering {q = q} is) p) e i = absurd (not_both is (j.not_buffering q (buffering_below m₂ l₂ (rules m₂ l₂ j.good₂) q is)))
  path_reads (step (begins_emptying is) p) e i = absurd (normal_not e (inl refl))
  path_reads (step (returns_to_normal is) p) e i = absurd (normal_not e (inr refl))

  reads_none : {r q : ℕ} {u : List ℕ} → Reads r u q → u ≡ [] → r ≡ q
  reads_none done e = refl
  reads_none (more d r) e = let z : ◌≡◌ {A = ℕ} 0 1 = cc in absurd (omega arith)

  reads_one : {r q x : ℕ} {u v : List ℕ} → Reads r v q → v ≡ suc x ∷ u → (s : ℕ) × Listed l₂ m₂.transitions r (suc x) s × Reads s u q
  reads_one done e = let z : ◌≡◌ {A = ℕ} 0 1 = cc in absurd (omega arith)
  reads_one {r} {q} {x} {u} (more {x = y} {s = s} {u = v} d rest) e =
      let letter : suc y ≡ suc x = cc in
      let tail : v ≡ u = cc in
      (s, record { number = d.number; listed = d.listed; from = d.from; letter = d.letter ∙ letter; to = d.to }, subst (λ (l : List ℕ). Reads s l q) tail rest)

  abbrev pair_of : Configuration → ℕ → Configuration
  pair_of D r = config D.input (pair_state m₂.states D.state r) D.buffer D.mode

  apart_joined : {p q r s : ℕ} → p < m₁.states → q < m₁.states → r < m₂.states → s < m₂.states → ((matching m₁.marks p ≡ true) × (matching m₁.marks q ≡ true) → ⊥)
      → (matching (joined_marks m₁ m₂) (pair_state m₂.states p r) ≡ true) × (matching (joined_marks m₁ m₂) (pair_state m₂.states q s) ≡ true) → ⊥
  apart_joined {p} {q} {r} {s} lp lq lr ls apart (a, b) = apart (sym (matching_joined j p r lp lr) ∙ a, sym (matching_joined j q s lq ls) ∙ b)

  -- a transition of the first, with what the second does meanwhile
  record Both (p x q r : ℕ) (u : List ℕ) (last : ℕ) : Type 0 where
    next : ℕ
    next_below : next < m₂.states
    from_below : p < m₁.states
    to_below : q < m₁.states
    listed : Listed L (joined_count m₁ l₁ m₂ l₂) (pair_state m₂.states p r) x (pair_state m₂.states q next)
    reads : Reads next u last

  both : {p q last : ℕ} (x r : ℕ) (u : List ℕ) → r < m₂.states → Listed l₁ m₁.transitions p x q → Reads r (symbol x ++ u) last → Both p x q r u last
  both zero r u lr d reads =
      record {
        next = r;
        next_below = lr;
        from_below = omega (arith, j.first.from_below d.number d.listed, d.from);
        to_below = omega (arith, j.first.to_below d.number d.listed, d.to);
        listed = listed_epsilon r lr d refl;
        reads = reads;
      }
  both (suc x) r u lr d reads =
      let (s, d₂, rest) = reads_one reads refl in
      record {
        next = s;
        next_below = omega (arith, j.second.to_below d₂.number d₂.listed, d₂.to);
        from_below = omega (arith, j.first.from_below d.number d.listed, d.from);
        to_below = omega (arith, j.first.to_below d.number d.listed, d.to);
        listed = listed_letter lr d (λ (z : suc x ≡ 0). omega arith) d₂;
        reads = rest;
      }

  abbrev Joins : Configuration → Configuration → ℕ → ℕ → ℕ → Type 0
  Joins D D' n r last = (last < m₂.states) × Path Configuration (Yields (fsbm_of J L)) (pair_of D r) (pair_of D' last) n

  join_path : {D D' : Configuration} {n : ℕ} → Path Configuration (Yields (fsbm_of m₁ l₁)) D D' n → (r last : ℕ) → r < m₂.states → D'.input ≡ [] → Reads r D.input last → Joins D D' n r last
  unfolding joined_machine
  join_path (here {u = D}) r last lr i reads =
      let e = reads_none reads i in
      (omega arith, subst (λ (s : ℕ). Path Configuration (Yields (fsbm_of J L)) (pair_of D r) (pair_of D s) 0) e here)
  join_path (step (normal {p = p} {x = x} {q = q} {u = u} δ apart n) path) r last lr i reads =
      let b = both x r u lr δ reads in
      let (l, on) = join_path path b.next last b.next_below i b.reads in
      (l, step (normal b.listed (apart_joined b.from_below b.to_below lr b.next_below apart) (λ g. n (sym (buffering_joined j p r b.from_below lr) ∙ g))) on)
  join_path (step (buffer {p = p} {x = x} {q = q} {u = u} δ apart n) path) r last lr i reads =
      let b = both x r u lr δ reads in
      let (l, on) = join_path path b.next last b.next_below i b.reads in
      (l, step (buffer b.listed (apart_joined b.from_below b.to_below lr b.next_below apart) (λ g. n (sym (buffering_joined j q b.next b.to_below b.next_below) ∙ g))) on)
  join_path (step (empty {p = p} {x = x} {q = q} {u = u} δ a c) path) r last lr i reads =
      let b = both x r u lr δ reads in
      let (l, on) = join_path path b.next last b.next_below i b.reads in
      (l, step (empty b.listed (matching_joined j p r b.from_below lr ∙ a) (matching_joined j q b.next b.to_below b.next_below ∙ c)) on)
  join_path (step (begins_buffering {q = q} is) path) r last lr i reads =
      let (l, on) = join_path path r last lr i reads in
      (l, step (begins_buffering (buffering_joined j q r (buffering_below m₁ l₁ (rules m₁ l₁ j.good₁) q is) lr ∙ is)) on)
  join_path (step (begins_emptying {q = q} is) path) r last lr i reads =
      let (l, on) = join_path path r last lr i reads in
      (l, step (begins_emptying (matching_joined j q r (matching_below m₁ l₁ (rules m₁ l₁ j.good₁) q is) lr ∙ is)) on)
  join_path (step (returns_to_normal {q = q} is) path) r last lr i reads =
      let (l, on) = join_path path r last lr i reads in
      (l, step (returns_to_normal (matching_joined j q r (matching_below m₁ l₁ (rules m₁ l₁ j.good₁) q is) lr ∙ is)) on)

  -- Runs

  -- a state whose mark is not 0 is one of the machine's
  final_below : (m : Machine) (list : List ℕ) → Rules m list → (q : ℕ) → final m.marks q ≡ true → q < m.states
  final_below m list r q h = at (dec_lt q m.states) (dec_lt q max_states)
    where
      no_bit : (x : ℕ) → x / 2 % 2 ≡ 1 → x ≡ 0 → ⊥
      no_bit x e z = omega arith

      at : Dec (q < m.states) → Dec (q < max_states) → q < m.states
      at (yes l) s = l
      at (no d) (yes l) =
          absurd (no_bit (mark_of m.marks q) (eqb-true (mark_of m.marks q / 2 % 2) 1 h) (eqb-true (mark_of m.marks q) 0 (second _ (le-ltb q m.states (omega arith)) refl ∙ r.marks_good q l)))
      at (no d) (no e) = absurd (no_bit (mark_of m.marks q) (eqb-true (mark_of m.marks q / 2 % 2) 1 h) (sym (second (get_or m.marks q 0) (le-ltb q max_states (omega arith)) refl)))

  pub plain_run_length : (w run : List ℕ) → accepting m₂ l₂ w run ≡ true → length run ≡ suc (length w)
  plain_run_length w run a =
      let (q, last, n, size, i, f, p) = accepting_path m₂ l₂ w run a in
      let (steps, reads) = path_reads p refl refl in
      size ∙ ap suc steps

  pub joined_splits : (w run : List ℕ) → accepting J L w run ≡ true
      → ((run₁ : List ℕ) × (length run₁ ≡ length run) × AllBelow 65536 run₁ × (accepting m₁ l₁ w run₁ ≡ true))
      × ((run₂ : List ℕ) × (length run₂ ≡ suc (length w)) × AllBelow 65536 run₂ × (accepting m₂ l₂ w run₂ ≡ true))
  unfolding joined_machine
  joined_splits w run a =
      let (q, last, n, size, i, f, p) = accepting_path J L w run a in
      let n₂ = m₂.states in
      let inside : q < m₁.states * m₂.states = i.0 in
      let end : last < m₁.states * m₂.states = final_below J L joined_rules last f in
      let (i₁, i₂) = and_true (initial m₁.marks (q / n₂)) (initial m₂.marks (q % n₂)) (sym (initial_at j q inside) ∙ i.1) in
      let (f₁, f₂) = and_true (final m₁.marks (last / n₂)) (final m₂.marks (last % n₂)) (sym (final_at j last end) ∙ f) in
      let (run₁, size₁, below₁, a₁) = path_accepting m₁ l₁ w (rules m₁ l₁ j.good₁) (q / n₂) (last / n₂) n (first_below j q inside, i₁) f₁ (path_first p) in
      let (k, letters, p₂) = path_second p in
      let (run₂, size₂, below₂, a₂) = path_accepting m₂ l₂ w (rules m₂ l₂ j.good₂) (q % n₂) (last % n₂) k (second_below j q, i₂) f₂ p₂ in
      ((run₁, size₁ ∙ sym size, below₁, a₁), (run₂, omega arith, below₂, a₂))

  pub splits_join : (w run₁ run₂ : List ℕ) → accepting m₁ l₁ w run₁ ≡ true → accepting m₂ l₂ w run₂ ≡ true
      → (run : List ℕ) × (length run ≡ length run₁) × AllBelow 65536 run × (accepting J L w run ≡ true)
  unfolding joined_machine
  splits_join w run₁ run₂ a₁ a₂ =
      let (q₁, last₁, n, size, i₁, f₁, p₁) = accepting_path m₁ l₁ w run₁ a₁ in
      let (q₂, last₂, k, size₂, i₂, f₂, p₂) = accepting_path m₂ l₂ w run₂ a₂ in
      let (steps, reads) = path_reads p₂ refl refl in
      let (l₂-below, p) = join_path p₁ q₂ last₂ i₂.0 refl reads in
      let l₁-below = final_below m₁ l₁ (rules m₁ l₁ j.good₁) last₁ f₁ in
      let start = initial_joined j q₁ q₂ i₁.0 i₂.0 ∙ and_both_true (initial m₁.marks q₁) (initial m₂.marks q₂) i₁.1 i₂.1 in
      let end = final_joined j last₁ last₂ l₁-below l₂-below ∙ and_both_true (final m₁.marks last₁) (final m₂.marks last₂) f₁ f₂ in
      let (run, size-run, below, a) = path_accepting J L w joined_rules (pair_state m₂.states q₁ q₂) (pair_state m₂.states last₁ last₂) n (pair_below m₁.states m₂.states q₁ q₂ i₁.0 i₂.0, start) end p in
      (run, size-run ∙ sym size, below, a)

  pub joined_accepted : (w : List ℕ) → accepted J L w ≡ (accepted m₁ l₁ w && accepted m₂ l₂ w)
  joined_accepted w =
      same_truth (accepted J L w) (accepted m₁ l₁ w && accepted m₂ l₂ w)
      (λ t.
      let (run, a) = (accepted_iff_run J L w (joined_well_formed m₁ l₁ m₂ l₂ fine rest)).0 t in
      let (s₁, s₂) = joined_splits w run a in
      and_both_true (accepted m₁ l₁ w) (accepted m₂ l₂ w) ((accepted_iff_run m₁ l₁ w j.good₁).1 (s₁.0, s₁.3)) ((accepted_iff_run m₂ l₂ w j.good₂).1 (s₂.0, s₂.3)))
      (λ t.
      let (t₁, t₂) = and_true (accepted m₁ l₁ w) (accepted m₂ l₂ w) t in
      let (run₁, a₁) = (accepted_iff_run m₁ l₁ w j.good₁).0 t₁ in
      let (run₂, a₂) = (accepted_iff_run m₂ l₂ w j.good₂).0 t₂ in
      let (run, size, below, a) = splits_join w run₁ run₂ a₁ a₂ in
      (accepted_iff_run J L w (joined_well_formed m₁ l₁ m₂ l₂ fine rest)).1 (run, a))
