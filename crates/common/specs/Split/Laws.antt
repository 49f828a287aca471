-- The laws of specs/Split.antt.
--
-- leads_split          == a written run of the product, taken apart, leads in the first machine and in the second
-- leads_letters        == in a written run there are as many transitions by a letter as it reads letters
-- split_accepts        == from an initial to a final state the two are accepting runs of what the product's run reads
use Rattle.std.specs.Prelude.{ℕ, zero, suc, ◌+◌, ◌*◌, ◌/◌, ◌%◌, ◌≤◌, ◌<◌, ◌≡◌, ◌⊎◌, Bool, true, cond, not, ◌&&◌, length, eqb}
use Rattle.std.proofs.Math.Path.{refl, sym}
use Rattle.std.proofs.Common.{ap, ◌∙◌, subst, subst₂, inl, inr, lt-ltb}
use mathlib.Core.List.{List, [], ◌∷◌, ◌++◌, append_assoc}
use native.Mathlib.Omega.{arith}
use Rattle.std.proofs.Math.ListN.{length-append}
use Rattle.std.proofs.Math.Dec.{eqb-suc-zero}
use Rattle.basics.specs.Search.Laws.{and_true, not_both}
use Rattle.fsbm.specs.Machine.{transition_at, initial, final}
use Rattle.fsbm.specs.Moves.{accepting, begin_buffering, begin_emptying, back_to_normal}
use Rattle.fsbm.specs.Published.{fsbm_of, symbol}
use Rattle.fsbm.specs.Rules.{Rules, rules, buffering_below, matching_below}
use Rattle.fsbm.specs.declared.machine.Machine.{Machine}
use Rattle.product.specs.Product.{joined_transitions, joined_machine, join_fault}
use Rattle.product.specs.Tables.{Joinable, joinable, first_below, second_below}
use Rattle.product.specs.WellFormed.{initial_at, final_at, buffering_at, matching_at, joined_well_formed}
use Rattle.product.specs.Common.{Split, listed_split}
use Rattle.pieces.specs.Written.{Takes, StoresBy, stored, store, MatchesBy, matched, match, LeadsBy, ended, read, copy}
use Rattle.pieces.specs.Written.Laws.{takes_listed, written_accepts}
use Rattle.common.specs.Split.{is_letter, letters_in, Splits, nothing_left, change, alone, moves}

module _ (m₁ : Machine) (l₁ : List ℕ) (m₂ : Machine) (l₂ : List ℕ) (list : List ℕ) where
  -- what was put in front of the rest
  record Parts (es ds a b : List ℕ) : Type 0 where
    a₁ : List ℕ
    a₂ : List ℕ
    b₁ : List ℕ
    b₂ : List ℕ
    first : a ≡ a₁ ++ a₂
    second : b ≡ b₁ ++ b₂
    front : Splits m₁ l₁ m₂ l₂ list es a₁ b₁
    back : Splits m₁ l₁ m₂ l₂ list ds a₂ b₂

  parts : (es ds : List ℕ) {a b : List ℕ} → Splits m₁ l₁ m₂ l₂ list (es ++ ds) a b → Parts es ds a b
  parts [] ds {a} {b} s = record { a₁ = []; a₂ = a; b₁ = []; b₂ = b; first = refl; second = refl; front = nothing_left; back = s }
  parts (e ∷ es) ds (change h s) =
      let p = parts es ds s in
      record { a₁ = e ∷ p.a₁; a₂ = p.a₂; b₁ = p.b₁; b₂ = p.b₂; first = ap (λ (l : List ℕ). e ∷ l) p.first; second = p.second; front = change h p.front; back = p.back }
  parts (e ∷ es) ds (alone {d = d} h z t s) =
      let p = parts es ds s in
      record { a₁ = d ∷ p.a₁; a₂ = p.a₂; b₁ = p.b₁; b₂ = p.b₂; first = ap (λ (l : List ℕ). d ∷ l) p.first; second = p.second; front = alone h z t p.front; back = p.back }
  parts (e ∷ es) ds (moves {d = d} {c = c} h z t t' s) =
      let p = parts es ds s in
      record {
        a₁ = d ∷ p.a₁;
        a₂ = p.a₂;
        b₁ = c ∷ p.b₁;
        b₂ = p.b₂;
        first = ap (λ (l : List ℕ). d ∷ l) p.first;
        second = ap (λ (l : List ℕ). c ∷ l) p.second;
        front = moves h z t t' p.front;
        back = p.back;
      }

  after_change : {e : ℕ} {es a b : List ℕ} → begin_buffering ≤ e → Splits m₁ l₁ m₂ l₂ list (e ∷ es) a b → (a' : List ℕ) × (a ≡ e ∷ a') × Splits m₁ l₁ m₂ l₂ list es a' b
  after_change h (change {a = a} k s) = (a, refl, s)
  after_change h (alone k z t s) = absurd (omega arith)
  after_change h (moves k z t t' s) = absurd (omega arith)

  -- the entries for the two halves of a copy, and for what comes after it
  record Copy (es ds left a b : List ℕ) : Type 0 where
    a₁ : List ℕ
    b₁ : List ℕ
    a₂ : List ℕ
    b₂ : List ℕ
    a₃ : List ℕ
    b₃ : List ℕ
    first : begin_buffering ∷ (a₁ ++ (begin_emptying ∷ (a₂ ++ (back_to_normal ∷ a₃)))) ≡ a
    second : b₁ ++ (b₂ ++ b₃) ≡ b
    storing : Splits m₁ l₁ m₂ l₂ list es a₁ b₁
    emptying : Splits m₁ l₁ m₂ l₂ list ds a₂ b₂
    later : Splits m₁ l₁ m₂ l₂ list left a₃ b₃

  copy_parts : (es ds left : List ℕ) {a b : List ℕ} → Splits m₁ l₁ m₂ l₂ list (begin_buffering ∷ (es ++ (begin_emptying ∷ (ds ++ (back_to_normal ∷ left))))) a b → Copy es ds left a b
  copy_parts es ds left u =
      let (k₁, e₁, u₁) = after_change (omega arith) u in
      let p = parts es (begin_emptying ∷ (ds ++ (back_to_normal ∷ left))) u₁ in
      let (k₂, e₂, u₂) = after_change (omega arith) p.back in
      let q = parts ds (back_to_normal ∷ left) u₂ in
      let (k₃, e₃, u₃) = after_change (omega arith) q.back in
      let pf = p.first in
      let ps = p.second in
      let qf = q.first in
      let qs = q.second in
      record { a₁ = p.a₁; b₁ = p.b₁; a₂ = q.a₁; b₂ = q.b₁; a₃ = k₃; b₃ = q.b₂; first = cc; second = cc; storing = p.front; emptying = q.front; later = u₃ }

-- The letters of a written run

one_letter : (x : ℕ) → cond (not (eqb x 0)) 1 0 ≡ length (symbol x)
one_letter zero = refl
one_letter (suc x) = ap (λ (b : Bool). cond (not b) 1 0) (eqb-suc-zero x)

module _ (m : Machine) (list : List ℕ) (few : m.transitions ≤ begin_buffering) where
  letters_append : (es ds : List ℕ) → letters_in list (es ++ ds) ≡ letters_in list es + letters_in list ds
  unfolding letters_in
  letters_append [] ds = omega arith
  letters_append (e ∷ es) ds = let l = letters_append es ds in omega arith

  taken_letters : {e p a q : ℕ} → Takes m list e p a q → cond (is_letter list e) 1 0 ≡ length (symbol a)
  taken_letters {e} {a = a} t =
      ap (λ (b : Bool). cond (b && not (eqb (transition_at list e).letter 0)) 1 0) (lt-ltb e begin_buffering (omega (arith, t.listed)))
      ∙ (ap (λ (x : ℕ). cond (not (eqb x 0)) 1 0) t.letter ∙ one_letter a)

  stores_letters : {s h : ℕ} {x es : List ℕ} → StoresBy m list s x es h → letters_in list es ≡ length x
  unfolding letters_in
  stores_letters stored = refl
  stores_letters (store {a = a} {x = x} t none n p) = let l = stores_letters p in let k = taken_letters t in let s = length-append (symbol a) x in omega arith

  matches_letters : {t z : ℕ} {x es : List ℕ} → MatchesBy m list t x es z → letters_in list es ≡ length x
  unfolding letters_in
  matches_letters matched = refl
  matches_letters (match {a = a} {x = x} t from to p) = let l = matches_letters p in let k = taken_letters t in let s = length-append (symbol a) x in omega arith

  pub leads_letters : {q f : ℕ} {w es : List ℕ} → LeadsBy m list q w es f → letters_in list es ≡ length w
  unfolding letters_in
  leads_letters ended = refl
  leads_letters (read {a = a} {w = w} t none n p) = let l = leads_letters p in let k = taken_letters t in let s = length-append (symbol a) w in omega arith
  leads_letters (copy {x = x} {w = w} {es = es} {ds = ds} {rest = left} g s h d z p) =
      let a = letters_append es (begin_emptying ∷ (ds ++ (back_to_normal ∷ left))) in
      let b = letters_append ds (back_to_normal ∷ left) in
      let i = stores_letters s in
      let k = matches_letters d in
      let l = leads_letters p in
      let outer = length-append x (x ++ w) in
      let inner = length-append x w in
      omega arith

-- what the second machine does at a transition from p by x to q, and the entry for it
abbrev Second : Machine → List ℕ → ℕ → ℕ → ℕ → List ℕ → List ℕ → Type 0
Second m₂ l₂ p x q b b' = ((x ≡ 0) × (b ≡ b')) ⊎ ((c : ℕ) × (b ≡ c ∷ b') × (x ≡ 0 → ⊥) × Takes m₂ l₂ c (p % m₂.states) x (q % m₂.states))

module _ (m₁ : Machine) (l₁ : List ℕ) (m₂ : Machine) (l₂ : List ℕ) (list : List ℕ) where
  -- the entries for the first transition of a run
  record Crossed (p x q : ℕ) (es a b : List ℕ) : Type 0 where
    entry : ℕ
    a' : List ℕ
    b' : List ℕ
    first : a ≡ entry ∷ a'
    takes : Takes m₁ l₁ entry (p / m₂.states) x (q / m₂.states)
    second : Second m₂ l₂ p x q b b'
    back : Splits m₁ l₁ m₂ l₂ list es a' b'

  crossed : {e p x q : ℕ} {es a b : List ℕ} → e < begin_buffering → (transition_at list e).from ≡ p → (transition_at list e).letter ≡ x → (transition_at list e).to ≡ q
      → Splits m₁ l₁ m₂ l₂ list (e ∷ es) a b → Crossed p x q es a b
  crossed lt from letter to (change k s) = absurd (omega arith)
  crossed lt from letter to (alone {d = d} {a = a} {b = b} k z t s) =
      record {
        entry = d;
        a' = a;
        b' = b;
        first = refl;
        takes = record {
          listed = t.listed;
          from = t.from ∙ ap (λ (y : ℕ). y / m₂.states) from;
          letter = t.letter ∙ sym z ∙ letter;
          to = t.to ∙ ap (λ (y : ℕ). y / m₂.states) to;
        };
        second = inl (sym letter ∙ z, refl);
        back = s;
      }
  crossed lt from letter to (moves {d = d} {c = c} {a = a} {b = b} k z t t' s) =
      record {
        entry = d;
        a' = a;
        b' = b;
        first = refl;
        takes = record {
          listed = t.listed;
          from = t.from ∙ ap (λ (y : ℕ). y / m₂.states) from;
          letter = t.letter ∙ letter;
          to = t.to ∙ ap (λ (y : ℕ). y / m₂.states) to;
        };
        second = inr (
          c,
          refl,
          λ h. z (letter ∙ h),
          record {
            listed = t'.listed;
            from = t'.from ∙ ap (λ (y : ℕ). y % m₂.states) from;
            letter = t'.letter ∙ letter;
            to = t'.to ∙ ap (λ (y : ℕ). y % m₂.states) to;
          },
        );
        back = s;
      }

module _ (m₁ : Machine) (l₁ : List ℕ) (m₂ : Machine) (l₂ : List ℕ) (fine : join_fault m₁ l₁ m₂ l₂ ≡ 0) (rest : List ℕ) where
  abbrev J : Machine
  J = joined_machine m₁ l₁ m₂ l₂

  abbrev L : List ℕ
  L = joined_transitions m₁ l₁ m₂ l₂ ++ rest

  j : Joinable m₁ l₁ m₂ l₂
  j = joinable m₁ l₁ m₂ l₂ fine

  r : Rules J L
  r = rules J L (joined_well_formed m₁ l₁ m₂ l₂ fine rest)

  -- a buffering, a matching state of the product is one of the first
  buffers : (q : ℕ) → (fsbm_of J L).G q → (fsbm_of m₁ l₁).G (q / m₂.states)
  unfolding joined_machine
  buffers q h = sym (buffering_at j q (buffering_below J L r q h)) ∙ h

  matches : (q : ℕ) → (fsbm_of J L).H q → (fsbm_of m₁ l₁).H (q / m₂.states)
  unfolding joined_machine
  matches q h = sym (matching_at j q (matching_below J L r q h)) ∙ h

  crossing : {e p x q : ℕ} → Takes J L e p x q → Split m₁ l₁ m₂ l₂ fine rest p x q
  unfolding joined_machine
  crossing t = listed_split m₁ l₁ m₂ l₂ fine rest (takes_listed t)

  entry_below : {e p x q : ℕ} → Takes J L e p x q → e < begin_buffering
  entry_below t = omega (arith, t.listed, r.transitions_fit)

  not_matching : {p x q : ℕ} → Split m₁ l₁ m₂ l₂ fine rest p x q → ((fsbm_of J L).H p × (fsbm_of J L).H q → ⊥) → (fsbm_of m₁ l₁).H (p / m₂.states) × (fsbm_of m₁ l₁).H (q / m₂.states) → ⊥
  unfolding joined_machine
  not_matching {p} {x} {q} c none (a, b) = none (matching_at j p c.from_below ∙ a, matching_at j q c.to_below ∙ b)

  not_buffering : (q : ℕ) → q < m₁.states * m₂.states → ((fsbm_of J L).G q → ⊥) → (fsbm_of m₁ l₁).G (q / m₂.states) → ⊥
  unfolding joined_machine
  not_buffering q lt n g = n (buffering_at j q lt ∙ g)

  -- the second machine reads what a transition of the product reads
  second_reads : {p q : ℕ} (x : ℕ) {b b' w : List ℕ} {f : ℕ} → Split m₁ l₁ m₂ l₂ fine rest p x q → Second m₂ l₂ p x q b b' → LeadsBy m₂ l₂ (q % m₂.states) w b' f
      → LeadsBy m₂ l₂ (p % m₂.states) (symbol x ++ w) b f
  second_reads {p} {q} zero {w = w} {f = f} c (inl (z, e)) l =
      subst₂ (λ (y : ℕ) (k : List ℕ). LeadsBy m₂ l₂ y w k f) (stands c.of_second) (sym e) l
    where
      stands : (◌≡◌ {A = ℕ} 0 0 × (q % m₂.states ≡ p % m₂.states)) ⊎ ((◌≡◌ {A = ℕ} 0 0 → ⊥) × (fsbm_of m₂ l₂).δ (p % m₂.states) 0 (q % m₂.states)) → q % m₂.states ≡ p % m₂.states
      stands (inl (z, same)) = same
      stands (inr (some, d)) = absurd (some refl)
  second_reads zero c (inr (d, e, some, t)) l = absurd (some refl)
  second_reads (suc x) c (inl (z, e)) l = absurd (omega arith)
  second_reads {p} {q} (suc x) {w = w} {f = f} c (inr (d, e, some, t)) l =
      let below = second_below j p in
      subst (λ (k : List ℕ). LeadsBy m₂ l₂ (p % m₂.states) (suc x ∷ w) k f) (sym e)
      (read {a = suc x} t (λ h. not_both h.0 (j.not_matching (p % m₂.states) below)) (λ g. not_both g (j.not_buffering (p % m₂.states) below)) l)

  second_more : (p x q : ℕ) {b b' : List ℕ} (k : List ℕ) → Second m₂ l₂ p x q b b' → Second m₂ l₂ p x q (b ++ k) (b' ++ k)
  second_more p x q k (inl (z, e)) = inl (z, ap (λ (l : List ℕ). l ++ k) e)
  second_more p x q k (inr (d, e, some, t)) = inr (d, ap (λ (l : List ℕ). l ++ k) e, some, t)

  -- what the second machine goes on to read, once it has read what a half of a copy reads
  abbrev Before : ℕ → List ℕ → List ℕ → ℕ → Type 0
  Before s x b h = (w k : List ℕ) (f : ℕ) → LeadsBy m₂ l₂ (h % m₂.states) w k f → LeadsBy m₂ l₂ (s % m₂.states) (x ++ w) (b ++ k) f

  one_before : {p q : ℕ} (h a : ℕ) (x : List ℕ) {b b' : List ℕ} → Split m₁ l₁ m₂ l₂ fine rest p a q → Second m₂ l₂ p a q b b' → Before q x b' h → Before p (symbol a ++ x) b h
  one_before {p} {q} h a x {b} c u go w k f l =
      subst (λ (y : List ℕ). LeadsBy m₂ l₂ (p % m₂.states) y (b ++ k) f) (sym (append_assoc (symbol a) x w)) (second_reads a c (second_more p a q k u) (go w k f l))

  stores_split : {s h : ℕ} {x es a b : List ℕ} → StoresBy J L s x es h → Splits m₁ l₁ m₂ l₂ L es a b → StoresBy m₁ l₁ (s / m₂.states) x a (h / m₂.states) × Before s x b h
  stores_split stored nothing_left = (stored, λ w k f l. l)
  stores_split {h = h} (store {s = s} {a = a} {t = t} {x = x} tk none n p) u =
      let c = crossing tk in
      let k = crossed m₁ l₁ m₂ l₂ L (entry_below tk) tk.from tk.letter tk.to u in
      let (first, go) = stores_split p k.back in (
        subst (λ (l : List ℕ). StoresBy m₁ l₁ (s / m₂.states) (symbol a ++ x) l (h / m₂.states)) (sym k.first) (store k.takes (not_matching c none) (not_buffering t c.to_below n) first),
        one_before h a x c k.second go,
      )

  matches_split : {t z : ℕ} {x es a b : List ℕ} → MatchesBy J L t x es z → Splits m₁ l₁ m₂ l₂ L es a b → MatchesBy m₁ l₁ (t / m₂.states) x a (z / m₂.states) × Before t x b z
  matches_split matched nothing_left = (matched, λ w k f l. l)
  matches_split {z = z} (match {s = s} {a = a} {t = t} {x = x} tk from to p) u =
      let c = crossing tk in
      let k = crossed m₁ l₁ m₂ l₂ L (entry_below tk) tk.from tk.letter tk.to u in
      let (first, go) = matches_split p k.back in (
        subst (λ (l : List ℕ). MatchesBy m₁ l₁ (s / m₂.states) (symbol a ++ x) l (z / m₂.states)) (sym k.first) (match k.takes (matches s from) (matches t to) first),
        one_before z a x c k.second go,
      )

  pub leads_split : {q f : ℕ} {w es a b : List ℕ} → LeadsBy J L q w es f → Splits m₁ l₁ m₂ l₂ L es a b
      → LeadsBy m₁ l₁ (q / m₂.states) w a (f / m₂.states) × LeadsBy m₂ l₂ (q % m₂.states) w b (f % m₂.states)
  leads_split ended nothing_left = (ended, ended)
  leads_split {f = f} (read {p = p} {a = a} {q = q} {w = w} tk none n l) u =
      let c = crossing tk in
      let k = crossed m₁ l₁ m₂ l₂ L (entry_below tk) tk.from tk.letter tk.to u in
      let (first, second) = leads_split l k.back in (
        subst (λ (y : List ℕ). LeadsBy m₁ l₁ (p / m₂.states) (symbol a ++ w) y (f / m₂.states)) (sym k.first) (read k.takes (not_matching c none) (not_buffering p c.from_below n) first),
        second_reads a c k.second second,
      )
  leads_split {f = f} (copy {g = g} {h = h} {z = z} {x = x} {w = w} {es = es} {ds = ds} {rest = left} is s turns d ends l) u =
      let c = copy_parts m₁ l₁ m₂ l₂ L es ds left u in
      let (stores, go) = stores_split s c.storing in
      let (empties, on) = matches_split d c.emptying in
      let (leads, second) = leads_split l c.later in (
        subst (λ (y : List ℕ). LeadsBy m₁ l₁ (g / m₂.states) (x ++ (x ++ w)) y (f / m₂.states)) c.first (copy (buffers g is) stores (matches h turns) empties (matches z ends) leads),
        subst (λ (y : List ℕ). LeadsBy m₂ l₂ (g % m₂.states) (x ++ (x ++ w)) y (f % m₂.states)) c.second
            (go (x ++ w) (c.b₂ ++ c.b₃) (f % m₂.states) (on w c.b₃ (f % m₂.states) second)),
      )

  -- Accepting runs

  -- where a written run of the product ends, a state is there
  last_below : {q f : ℕ} {w es : List ℕ} → LeadsBy J L q w es f → q < J.states → f < J.states
  last_below ended lt = lt
  last_below (read tk none n l) lt = last_below l (omega (arith, r.to_below _ tk.listed, tk.to))
  last_below (copy {z = z} g s h d ends l) lt = last_below l (matching_below J L r z ends)

  pub split_accepts : {q f : ℕ} {w es a b : List ℕ} → (fsbm_of J L).I q → (fsbm_of J L).F f → LeadsBy J L q w es f → Splits m₁ l₁ m₂ l₂ L es a b
      → (accepting m₁ l₁ w (q / m₂.states ∷ a) ≡ true) × (accepting m₂ l₂ w (q % m₂.states ∷ b) ≡ true)
  unfolding joined_machine
  split_accepts {q} {f} (lt, i) last l u =
      let n = m₂.states in
      let (first, second) = leads_split l u in
      let end = last_below l lt in
      let (i₁, i₂) = and_true (initial m₁.marks (q / n)) (initial m₂.marks (q % n)) (sym (initial_at j q lt) ∙ i) in
      let (f₁, f₂) = and_true (final m₁.marks (f / n)) (final m₂.marks (f % n)) (sym (final_at j f end) ∙ last) in
      (written_accepts m₁ l₁ j.good₁ (first_below j q lt) i₁ f₁ first, written_accepts m₂ l₂ j.good₂ (second_below j q) i₂ f₂ second)
