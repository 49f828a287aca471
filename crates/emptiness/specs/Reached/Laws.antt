-- The laws of specs/Reached.antt.
--
-- next_barred, next_other, next_is == the ways through `with_next`
-- apart_is             == `apart`, from its calls
-- moved_from, moved_to, moved_both == the ways through `moved`
-- changed_is           == `with_changes`, from its calls
-- swept_start, swept_more, swept_end == the loop of a pass
-- begun_more           == a pass keeps the initial states
-- same_closed, same_empty == a pass that adds nothing leaves sets that no run leaves; with no final state among them no word is accepted
use Rattle.std.specs.Prelude.{ℕ, ◌+◌, ◌/◌, ◌%◌, ◌≤◌, ◌<◌, ◌≡◌, refl, ◌⊎◌, ◌↔◌, Bool, true, false, List}
use Rattle.std.proofs.Common.{sym, subst, inl, inr, arith, eqb-true, eq-eqb}
use Rattle.std.proofs.Math.Decide.{dec_lt}
use Rattle.std.specs.Int.Bits.{bit_and, bit_or}
use Rattle.basics.specs.Search.Laws.{not_both}
use Rattle.stateset.specs.Set.{width, In, has, added, SetIs}
use Rattle.stateset.specs.Set.Laws.{has_in, empty_in, has_not}
use Rattle.fsbm.specs.Machine.{well_formed, mark_of, buffering, matching, final, initial, transition_at}
use Rattle.fsbm.specs.Rules.{Rules, rules}
use Rattle.fsbm.specs.Published.{Listed, fsbm_of, InLanguage}
use Rattle.fsbm.specs.declared.machine.Machine.{Machine}
use Rattle.fsbm.specs.declared.config.Mode.{Mode}
use Rattle.fsbm.specs.declared.config.Mode.TheVariants.{Normal, Buffering, Emptying}
use Rattle.images.specs.Graph.{KindsOf, May}
use Rattle.images.specs.declared.Kinds.{Kinds}
use Rattle.emptiness.specs.Closed.{Allowed, Changeable, next_mode, Closed}
use Rattle.emptiness.specs.Closed.Laws.{closed_empty}
use Rattle.emptiness.specs.Reached.{At, Turns, Grown, WithNext, Apart, Crossed, Moved, Changed, Swept, Passed, Same}
use Rattle.emptiness.specs.declared.Reached.{Reached}

-- no member: the test says so
not_has : (set q : ℕ) (b : Bool) → b ≡ has set q → (In set q → ⊥) → b ≡ false
not_has set q true e n = absurd (n ((has_in set q).0 (sym e)))
not_has set q false e n = refl

-- One state more

module _ (set p q : ℕ) where
  pub next_barred : (barred : Bool) → barred ≡ true → WithNext set barred p q set
  next_barred barred e = record { stays = λ x i. i; this = λ l free i. absurd (not_both e free) }

  pub next_other : (barred : Bool) → has set p ≡ false → WithNext set barred p q set
  next_other barred e = record { stays = λ x i. i; this = λ l free i. absurd (has_not set p e i) }

  pub next_is : (barred : Bool) {r : ℕ} → SetIs r (added set q) (λ x. In set x ⊎ ((x ≡ q) × (x < width))) → WithNext set barred p q r
  next_is barred is = record { stays = λ x i. (is.members x).1 (inl i); this = λ l free i. (is.members q).1 (inr (refl, l)) }

module _ (g p q : ℕ) (s : Reached) where
  pub apart_is : {b d : Bool} {n t : ℕ} → b ≡ has g p → d ≡ has g q → WithNext s.normal b p q n → WithNext s.buffering d p q t
      → Apart g p q s (record { normal = n; buffering = t; emptying = s.emptying })
  apart_is {b} {d} {n} {t} e f u v =
      record {
        grown = on;
        normal = λ l i free. u.this l (not_has g p b e free) i;
        buffering = λ l i free. v.this l (not_has g q d f free) i;
      }
    where
      on : Grown s (record { normal = n; buffering = t; emptying = s.emptying })
      on Normal x i = u.stays x i
      on Buffering x i = v.stays x i
      on Emptying x i = i

module _ (g h p q : ℕ) (s : Reached) where
  moved_apart : {r : Reached} → (In h p × In h q → ⊥) → Apart g p q s r → Moved g h p q s r
  moved_apart {r} n a = record { grown = a.grown; crossed = on }
    where
      on : Crossed g h p q s r
      on Normal l may i = a.normal l i may.1
      on Buffering l may i = a.buffering l i may.1
      on Emptying l may i = absurd (n may)

  pub moved_from : {r : Reached} → has h p ≡ false → Apart g p q s r → Moved g h p q s r
  moved_from e = moved_apart (λ z. has_not h p e z.0)

  pub moved_to : {r : Reached} → has h q ≡ false → Apart g p q s r → Moved g h p q s r
  moved_to e = moved_apart (λ z. has_not h q e z.1)

  pub moved_both : {t : ℕ} → has h p ≡ true → has h q ≡ true → WithNext s.emptying false p q t
      → Moved g h p q s (record { normal = s.normal; buffering = s.buffering; emptying = t })
  moved_both {t} a b u = record { grown = on; crossed = cross }
    where
      on : Grown s (record { normal = s.normal; buffering = s.buffering; emptying = t })
      on Normal x i = i
      on Buffering x i = i
      on Emptying x i = u.stays x i

      cross : Crossed g h p q s (record { normal = s.normal; buffering = s.buffering; emptying = t })
      cross Normal l may i = absurd (may.0 ((has_in h p).0 a, (has_in h q).0 b))
      cross Buffering l may i = absurd (may.0 ((has_in h p).0 a, (has_in h q).0 b))
      cross Emptying l may i = u.this l refl i

-- The changes of mode

abbrev Union : ℕ → ℕ → ℕ → Type 0
Union a b r = SetIs r (bit_or a b) (λ p. In a p ⊎ In b p)

abbrev Shared : ℕ → ℕ → ℕ → Type 0
Shared a b r = SetIs r (bit_and a b) (λ p. In a p × In b p)

module _ (g h : ℕ) (s : Reached) where
  pub changed_is : {a b d n t e : ℕ} → Shared s.emptying h a → Union s.normal a n → Shared s.normal g b → Union s.buffering b t
      → Shared s.buffering h d → Union s.emptying d e → Changed g h s (record { normal = n; buffering = t; emptying = e })
  changed_is {n = n} {t = t} {e = e} a un b ut d ue = record { grown = on; turned = turn }
    where
      on : Grown s (record { normal = n; buffering = t; emptying = e })
      on Normal x i = (un.members x).1 (inl i)
      on Buffering x i = (ut.members x).1 (inl i)
      on Emptying x i = (ue.members x).1 (inl i)

      turn : (T : Mode) (q : ℕ) → Turns g h T q → At s T q → At (record { normal = n; buffering = t; emptying = e }) (next_mode T) q
      turn Normal q k i = (ut.members q).1 (inr ((b.members q).1 (i, k)))
      turn Buffering q k i = (ue.members q).1 (inr ((d.members q).1 (i, k)))
      turn Emptying q k i = (un.members q).1 (inr ((a.members q).1 (i, k)))

-- A pass

module _ (list : List ℕ) (g h : ℕ) (s : Reached) where
  pub swept_start : Swept list 0 g h s s
  swept_start = record { grown = λ T q i. i; crossed = λ k (l : k < 0). absurd (omega arith) }

  pub swept_more : {k : ℕ} {r r' : Reached} → Swept list k g h s r → Moved g h (transition_at list k).from (transition_at list k).to r r' → Swept list (k + 1) g h s r'
  swept_more {k} {r} {r'} f d = record { grown = λ T q i. d.grown T q (f.grown T q i); crossed = λ j l. on j l (dec_lt j k) }
    where
      on : (j : ℕ) → j < k + 1 → Dec (j < k) → Crossed g h (transition_at list j).from (transition_at list j).to s r'
      on j l (yes below) = λ T fits may i. d.grown T (transition_at list j).to (f.crossed j below T fits may i)
      on j l (no n) =
          let e : k ≡ j = omega arith in
          subst (λ (i : ℕ). Crossed g h (transition_at list i).from (transition_at list i).to s r') e
          (λ T fits may i. d.crossed T fits may (f.grown T (transition_at list k).from i))

  -- the changes of mode, and then the transitions
  pub swept_end : {k n : ℕ} {a r : Reached} → Changed g h s a → n ≤ k → Swept list k g h a r → Passed list n g h s r
  swept_end c le f =
      record {
        changed = record { grown = λ T q i. f.grown T q (c.grown T q i); turned = λ T q z i. f.grown (next_mode T) q (c.turned T q z i) };
        crossed = λ j l T fits may i. f.crossed j (omega arith) T fits may (c.grown T (transition_at list j).from i);
      }

-- The last pass

-- the sets hold the initial states
abbrev pub Begun : ℕ → Reached → Type 0
Begun first s = (q : ℕ) → In first q → In s.normal q

pub begun_more : (first : ℕ) {list : List ℕ} {n g h : ℕ} {s r : Reached} → Begun first s → Passed list n g h s r → Begun first r
begun_more first b f q i = f.changed.grown Normal q (b q i)

module _ (m : Machine) (list : List ℕ) (good : well_formed m list ≡ true) (kinds : Kinds) (is : KindsOf m.marks m.states kinds) where
  R : Rules m list
  R = rules m list good

  -- a kind by its mark, and by its set
  buffers : (q : ℕ) → q < m.states → (buffering m.marks q ≡ true) ↔ In kinds.buffering q
  buffers q l = (
    λ e. (is.buffering.members q).1 (l, eqb-true (mark_of m.marks q / 4 % 2) 1 e),
    λ i. eq-eqb (mark_of m.marks q / 4 % 2) 1 ((is.buffering.members q).0 i).1,
  )

  matches : (q : ℕ) → q < m.states → (matching m.marks q ≡ true) ↔ In kinds.matching q
  matches q l = (
    λ e. (is.matching.members q).1 (l, eqb-true (mark_of m.marks q / 8 % 2) 1 e),
    λ i. eq-eqb (mark_of m.marks q / 8 % 2) 1 ((is.matching.members q).0 i).1,
  )

  may : (T : Mode) (p q : ℕ) → p < m.states → q < m.states → Allowed (fsbm_of m list) T p q → May kinds.buffering kinds.matching T p q
  may Normal p q a b k = (λ z. k.0 ((matches p a).1 z.0, (matches q b).1 z.1), λ z. k.1 ((buffers p a).1 z))
  may Buffering p q a b k = (λ z. k.0 ((matches p a).1 z.0, (matches q b).1 z.1), λ z. k.1 ((buffers q b).1 z))
  may Emptying p q a b k = ((matches p a).0 k.0, (matches q b).0 k.1)

  turns : (T : Mode) (q : ℕ) → q < m.states → Changeable (fsbm_of m list) T q → Turns kinds.buffering kinds.matching T q
  turns Normal q l k = (buffers q l).0 k
  turns Buffering q l k = (matches q l).0 k
  turns Emptying q l k = (matches q l).0 k

  module _ (s : Reached) where
    -- the states of the machine that are in the sets
    abbrev pub Stays : Mode → ℕ → Type 0
    Stays T q = At s T q × (q < m.states)

    back : {r : Reached} → Same s r → Grown r s
    back e Normal q i = subst (λ (x : ℕ). In x q) (sym e.normal) i
    back e Buffering q i = subst (λ (x : ℕ). In x q) (sym e.buffering) i
    back e Emptying q i = subst (λ (x : ℕ). In x q) (sym e.emptying) i

    pub same_closed : {r : Reached} {both : ℕ} → Begun kinds.initial s → Passed list m.transitions kinds.buffering kinds.matching s r → Same s r
        → Shared r.normal kinds.finals both → both ≡ 0 → Closed (fsbm_of m list) Stays
    same_closed {r} {both} begun f e shared none = record { first = first; moves = moves; changes = changes; last = last }
      where
        first : (q : ℕ) → (q < m.states) × (initial m.marks q ≡ true) → Stays Normal q
        first q i = (begun q ((is.initial.members q).1 (i.0, let y = eqb-true (mark_of m.marks q % 2) 1 i.1 in omega arith)), i.0)

        crosses : (T : Mode) (k : ℕ) → k < m.transitions → Allowed (fsbm_of m list) T (transition_at list k).from (transition_at list k).to → At s T (transition_at list k).from
            → Stays T (transition_at list k).to
        crosses T k l a i =
            let from = R.from_below k l in
            let to = R.to_below k l in
            (back e T (transition_at list k).to (f.crossed k l T (omega (arith, R.states_fit)) (may T (transition_at list k).from (transition_at list k).to from to a) i), to)

        moves : (T : Mode) (p x q : ℕ) → Listed list m.transitions p x q → Allowed (fsbm_of m list) T p q → Stays T p → Stays T q
        moves T p x q δ a i =
            subst (λ (y : ℕ). Stays T y) δ.to
            (crosses T δ.number δ.listed
            (subst (λ (y : ℕ). Allowed (fsbm_of m list) T y (transition_at list δ.number).to) (sym δ.from) (subst (λ (y : ℕ). Allowed (fsbm_of m list) T p y) (sym δ.to) a))
            (subst (λ (y : ℕ). At s T y) (sym δ.from) i.0))

        changes : (T : Mode) (q : ℕ) → Changeable (fsbm_of m list) T q → Stays T q → Stays (next_mode T) q
        changes T q k i = (back e (next_mode T) q (f.changed.turned T q (turns T q i.1 k) i.0), i.1)

        last : (q : ℕ) → final m.marks q ≡ true → Stays Normal q → ⊥
        last q k i =
            empty_in q (subst (λ (x : ℕ). In x q) none
            ((shared.members q).1 (f.changed.grown Normal q i.0, (is.finals.members q).1 (i.1, eqb-true (mark_of m.marks q / 2 % 2) 1 k))))

    pub same_empty : {r : Reached} {both : ℕ} → Begun kinds.initial s → Passed list m.transitions kinds.buffering kinds.matching s r → Same s r
        → Shared r.normal kinds.finals both → both ≡ 0 → (w : List ℕ) → InLanguage (fsbm_of m list) w → ⊥
    same_empty begun f e shared none = closed_empty (same_closed begun f e shared none)
