-- What it says that there is no fault.
--
-- line_none        == a line without fault: its bytes are there, its columns hold numbers, its end is byte 10
-- counts_none      == counts in their ranges
-- mark_none        == the line's number is the state's, and the mark obeys the rules
-- state_none, transition_none == the line of a state, of a transition, without fault
-- Header, header_none == line one without fault
-- Sound, no_fault  == a sheet without fault: line one, the lines of the states, those of the transitions, nothing more
use Prim.Native.Nat.{ℕ, ◌+◌, ◌*◌, ◌-◌, ◌/◌, ◌%◌, ◌<◌, ◌≤◌}
use Rattle.std.specs.Prelude.{◌≡◌, refl, ◌⊎◌, ◌↔◌, List, Bool, true, false, cond, not, ◌&&◌, ◌||◌, length, get_or, leb, eqb}
use Rattle.std.proofs.Common.{sym, ◌∙◌, inl, inr, arith}
use Rattle.std.proofs.Math.Path.{ap}
use borrow.Author.Tests.{leb-true, eqb-true, eqb-false, not-true, le-leb, eq-eqb, ne_eqb}
use Rattle.columns.specs.Column.{no_number}
use Rattle.basics.specs.Search.Laws.{true_or_false, and_true, and_both_true}
use Rattle.fsbm.specs.Rules.{Counts}
use Rattle.fsbm.specs.Machine.{named, precedes}
use Rattle.fsbm.specs.declared.machine.Transition.{Transition}
use Rattle.sheet.specs.Series.{or_else, first_of}
use Rattle.sheet.specs.Series.Laws.{or_zero, first_zero}
use Rattle.sheet.specs.Format.{state_start, transition_start}
use Rattle.sheet.specs.Reading.{unless, column_at, column_fault, line_fault, counts_fault, header_fault, mark_fault, state_fault, transition_in, order_fault}
use Rattle.sheet.specs.Reading.{transition_fault, rest_fault, first_fault}

pub unless_zero : (b : Bool) (v : ℕ) → (v ≡ 0 → ⊥) → (unless b v ≡ 0) ↔ (b ≡ true)
unless_zero b v z = (to b, λ h. ap (λ (x : Bool). unless x v) h)
  where
    to : (x : Bool) → unless x v ≡ 0 → x ≡ true
    to true e = refl
    to false e = absurd (z e)

-- the numbers and the end of a line of n columns
pub record GoodLine (s : List ℕ) (n i : ℕ) : Type 0 where
  pub long : i + n * 5 + 1 ≤ length s
  pub numbers : (c : ℕ) → c < n → column_at s (i + c * 5) ≡ no_number → ⊥
  pub ends : get_or s (i + n * 5) 0 ≡ 10

module _ (s : List ℕ) (n i : ℕ) where
  column_zero : (c : ℕ) → (column_fault s i c ≡ 0) ↔ (column_at s (i + c * 5) ≡ no_number → ⊥)
  unfolding column_fault
  column_zero c = (
    λ e. eqb-false _ _ (not-true _ ((unless_zero (not (eqb (column_at s (i + c * 5)) no_number)) 2 (λ (q : 2 ≡ 0). omega arith)).0 e)),
    λ d. ap (λ (z : Bool). unless (not z) 2) (ne_eqb _ _ d),
  )

  pub line_none : (line_fault s n i ≡ 0) ↔ GoodLine s n i
  unfolding line_fault
  line_none = (to, from)
    where
      a : ℕ
      a = unless (leb (i + n * 5 + 1) (length s)) 1

      b : ℕ
      b = first_of n (column_fault s i)

      d : ℕ
      d = unless (eqb (get_or s (i + n * 5) 0) 10) 2

      to : or_else a (or_else b d) ≡ 0 → GoodLine s n i
      to e =
          let x = (or_zero a (or_else b d)).0 e in
          let y = (or_zero b d).0 x.1 in
          record {
            long = leb-true _ _ ((unless_zero (leb (i + n * 5 + 1) (length s)) 1 (λ (q : 1 ≡ 0). omega arith)).0 x.0);
            numbers = λ c l. (column_zero c).0 ((first_zero n (column_fault s i)).0 y.0 c l);
            ends = eqb-true _ _ ((unless_zero (eqb (get_or s (i + n * 5) 0) 10) 2 (λ (q : 2 ≡ 0). omega arith)).0 y.1);
          }

      from : GoodLine s n i → or_else a (or_else b d) ≡ 0
      from g =
          (or_zero a (or_else b d)).1 (
            ap (λ (z : Bool). unless z 1) (le-leb _ _ g.long),
            (or_zero b d).1
                ((first_zero n (column_fault s i)).1 (λ c l. (column_zero c).1 (g.numbers c l)), ap (λ (z : Bool). unless z 2) (eq-eqb _ _ g.ends)),
          )

-- counts in their ranges
pub counts_none : (a b d : ℕ) → (counts_fault a b d ≡ 0) ↔ Counts a b d
unfolding counts_fault
counts_none a b d = (to, from)
  where
    to : unless (leb 1 a && (leb a 64 && (leb b 250 && leb d 4000))) 3 ≡ 0 → Counts a b d
    to e =
        let t = (unless_zero (leb 1 a && (leb a 64 && (leb b 250 && leb d 4000))) 3 (λ (q : 3 ≡ 0). omega arith)).0 e in
        let x = and_true (leb 1 a) (leb a 64 && (leb b 250 && leb d 4000)) t in
        let y = and_true (leb a 64) (leb b 250 && leb d 4000) x.1 in
        let z = and_true (leb b 250) (leb d 4000) y.1 in
        record { some = leb-true _ _ x.0; few_states = leb-true _ _ y.0; few_letters = leb-true _ _ z.0; few_transitions = leb-true _ _ z.1 }

    from : Counts a b d → unless (leb 1 a && (leb a 64 && (leb b 250 && leb d 4000))) 3 ≡ 0
    from g = simp (le-leb 1 a g.some, le-leb a 64 g.few_states, le-leb b 250 g.few_letters, le-leb d 4000 g.few_transitions)

pub record Header (s : List ℕ) : Type 0 where
  pub line : GoodLine s 3 0
  pub counts : Counts (column_at s 0) (column_at s 5) (column_at s 10)

pub header_none : (s : List ℕ) → (header_fault s ≡ 0) ↔ Header s
unfolding header_fault
header_none s = (
  λ e. let x = (or_zero (line_fault s 3 0) (counts_fault (column_at s 0) (column_at s 5) (column_at s 10))).0 e in
      record { line = (line_none s 3 0).0 x.0; counts = (counts_none _ _ _).0 x.1 },
  λ h. (or_zero (line_fault s 3 0) (counts_fault (column_at s 0) (column_at s 5) (column_at s 10))).1 ((line_none s 3 0).1 h.line, (counts_none _ _ _).1 h.counts),
)

-- a mark that obeys the rules
abbrev pub good_flags : ℕ → Bool
good_flags mark = leb mark 15 && not (eqb (mark / 4 % 2) 1 && eqb (mark / 8 % 2) 1)

pub mark_none : (q number mark : ℕ) → (mark_fault q number mark ≡ 0) ↔ ((number ≡ q) × (good_flags mark ≡ true))
unfolding mark_fault
mark_none q number mark = (
  λ e. let x = and_true (eqb number q) (good_flags mark) ((unless_zero (eqb number q && good_flags mark) 4 (λ (z : 4 ≡ 0). omega arith)).0 e) in
      (eqb-true _ _ x.0, x.1),
  λ h. (unless_zero (eqb number q && good_flags mark) 4 (λ (z : 4 ≡ 0). omega arith)).1 (and_both_true (eqb number q) (good_flags mark) (eq-eqb _ _ h.0) h.1),
)

pub order_none : (states letters : ℕ) (first : Bool) (before t : Transition)
    → (order_fault states letters first before t ≡ 0) ↔ ((named states letters t ≡ true) × ((first || precedes before t) ≡ true))
unfolding order_fault
order_none states letters first before t = (
  λ e. let x = (or_zero (unless (named states letters t) 5) (unless (first || precedes before t) 6)).0 e in
      ((unless_zero (named states letters t) 5 (λ (z : 5 ≡ 0). omega arith)).0 x.0, (unless_zero (first || precedes before t) 6 (λ (z : 6 ≡ 0). omega arith)).0 x.1),
  λ h. (or_zero (unless (named states letters t) 5) (unless (first || precedes before t) 6)).1
      (ap (λ (z : Bool). unless z 5) h.0, ap (λ (z : Bool). unless z 6) h.1),
)

-- the line of state q
pub record GoodState (s : List ℕ) (q : ℕ) : Type 0 where
  pub line : GoodLine s 2 (state_start q)
  pub number : column_at s (state_start q) ≡ q
  pub flags : good_flags (column_at s (state_start q + 5)) ≡ true

pub state_none : (s : List ℕ) (q : ℕ) → (state_fault s q ≡ 0) ↔ GoodState s q
unfolding state_fault
state_none s q = (
  λ e. let x = (or_zero a b).0 e in
      let y = (mark_none q (column_at s (state_start q)) (column_at s (state_start q + 5))).0 x.1 in
      record { line = (line_none s 2 (state_start q)).0 x.0; number = y.0; flags = y.1 },
  λ g. (or_zero a b).1 ((line_none s 2 (state_start q)).1 g.line, (mark_none q (column_at s (state_start q)) (column_at s (state_start q + 5))).1 (g.number, g.flags)),
)
  where
    a : ℕ
    a = line_fault s 2 (state_start q)

    b : ℕ
    b = mark_fault q (column_at s (state_start q)) (column_at s (state_start q + 5))

-- the line of transition k
pub record GoodTransition (s : List ℕ) (states letters k : ℕ) : Type 0 where
  pub line : GoodLine s 3 (transition_start states k)
  pub names : named states letters (transition_in s (transition_start states k)) ≡ true
  pub rises : (eqb k 0 || precedes (transition_in s (transition_start states (k - 1))) (transition_in s (transition_start states k))) ≡ true

pub transition_none : (s : List ℕ) (states letters k : ℕ) → (transition_fault s states letters k ≡ 0) ↔ GoodTransition s states letters k
unfolding transition_fault
transition_none s states letters k = (
  λ e. let x = (or_zero a b).0 e in
      let y = (order_none states letters (eqb k 0) before t).0 x.1 in
      record { line = (line_none s 3 (transition_start states k)).0 x.0; names = y.0; rises = y.1 },
  λ g. (or_zero a b).1 ((line_none s 3 (transition_start states k)).1 g.line, (order_none states letters (eqb k 0) before t).1 (g.names, g.rises)),
)
  where
    before : Transition
    before = transition_in s (transition_start states (k - 1))

    t : Transition
    t = transition_in s (transition_start states k)

    a : ℕ
    a = line_fault s 3 (transition_start states k)

    b : ℕ
    b = order_fault states letters (eqb k 0) before t

-- a sheet without fault
pub record Sound (s : List ℕ) : Type 0 where
  pub header : Header s
  pub states : (q : ℕ) → q < column_at s 0 → state_fault s q ≡ 0
  pub transitions : (k : ℕ) → k < column_at s 10 → transition_fault s (column_at s 0) (column_at s 5) k ≡ 0
  pub ends : length s ≤ transition_start (column_at s 0) (column_at s 10)

pub rest_of : (s : List ℕ) → header_fault s ≡ 0 → first_fault s ≡ rest_fault s (column_at s 0) (column_at s 10)
unfolding first_fault
rest_of s e = ap (λ (z : Bool). cond z (rest_fault s (column_at s 0) (column_at s 10)) (header_fault s)) (eq-eqb (header_fault s) 0 e)

pub header_first : (s : List ℕ) → (header_fault s ≡ 0 → ⊥) → first_fault s ≡ header_fault s
unfolding first_fault
header_first s e = ap (λ (z : Bool). cond z (rest_fault s (column_at s 0) (column_at s 10)) (header_fault s)) (ne_eqb (header_fault s) 0 e)

pub no_fault : (s : List ℕ) → (first_fault s ≡ 0) ↔ Sound s
unfolding rest_fault
no_fault s = (λ e. to (true_or_false (eqb (header_fault s) 0)) e, from)
  where
    st : ℕ
    st = column_at s 0

    tr : ℕ
    tr = column_at s 10

    a : ℕ
    a = first_of st (state_fault s)

    b : ℕ
    b = first_of tr (transition_fault s st (column_at s 5))

    d : ℕ
    d = unless (leb (length s) (transition_start st tr)) 7

    to : (eqb (header_fault s) 0 ≡ true) ⊎ (eqb (header_fault s) 0 ≡ false) → first_fault s ≡ 0 → Sound s
    to (inl t) e =
        let h : header_fault s ≡ 0 = eqb-true _ _ t in
        let x = (or_zero a (or_else b d)).0 (sym (rest_of s h) ∙ e) in
        let y = (or_zero b d).0 x.1 in
        record {
          header = (header_none s).0 h;
          states = (first_zero st (state_fault s)).0 x.0;
          transitions = (first_zero tr (transition_fault s st (column_at s 5))).0 y.0;
          ends = leb-true _ _ ((unless_zero (leb (length s) (transition_start st tr)) 7 (λ (q : 7 ≡ 0). omega arith)).0 y.1);
        }
    to (inr f) e = absurd (eqb-false _ _ f (sym (header_first s (eqb-false _ _ f)) ∙ e))

    from : Sound s → first_fault s ≡ 0
    from g =
        rest_of s ((header_none s).1 g.header)
        ∙ (or_zero a (or_else b d)).1 (
          (first_zero st (state_fault s)).1 g.states,
          (or_zero b d).1
              ((first_zero tr (transition_fault s st (column_at s 5))).1 g.transitions, ap (λ (z : Bool). unless z 7) (le-leb _ _ g.ends)),
        )
