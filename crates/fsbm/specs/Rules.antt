-- What the rules of a table say, part by part, and where a configuration stands that a move is allowed from.
--
-- Counts               == the counts of a table are within its limits
-- Tested m list        == the tests of well_formed, one by one
-- tested               == well_formed is true exactly if they hold
-- Rules m list         == what the laws use of it
-- rules                == well_formed says it
-- marked               == a state whose mark is not 0 is one of the machine's
-- buffering_below, matching_below == so is a state of that kind
-- one_kind             == no state is both buffering and matching
-- Placed m w c t       == what well_placed says of c, its mode taken as t
-- placed, unplaced     == well_placed is true exactly if it holds
use Rattle.std.specs.Prelude.{ℕ, suc, ◌*◌, ◌-◌, ◌/◌, ◌%◌, ◌≤◌, ◌<◌, ◌≡◌, ◌↔◌, ◌⊎◌, Bool, true, false, cond, not, ◌&&◌, ◌||◌, List, length, leb, ltb, eqb}
use Rattle.std.proofs.Common.{subst, inl, inr, arith}
use borrow.Author.Tests.{leb-true, ltb-true, eqb-true, le-leb, lt-ltb}
use Rattle.basics.specs.Search.{all_below}
use Rattle.basics.specs.Bools.{not_and_says}
use Rattle.basics.specs.Search.Laws.{and_true, and_both_true, true_or_false, all_below_true, or_true}
use Rattle.fsbm.specs.Machine.{well_formed, good_mark, named, precedes, good_transition, transition_at, mark_of, max_states, max_letters, max_transitions, buffering, matching}
use Rattle.fsbm.specs.Moves.{well_placed, buffer_fits}
use Rattle.fsbm.specs.declared.machine.Machine.{Machine}
use Rattle.fsbm.specs.declared.config.Config.{Config}
use Rattle.fsbm.specs.declared.config.Mode.{Mode}

pub record Counts (states letters transitions : ℕ) : Type 0 where
  pub some : 1 ≤ states
  pub few_states : states ≤ max_states
  pub few_letters : letters ≤ max_letters
  pub few_transitions : transitions ≤ max_transitions

pub record Tested (m : Machine) (list : List ℕ) : Type 0 where
  pub counts : Counts m.states m.letters m.transitions
  pub long : m.transitions * 3 ≤ length list
  pub marks : (q : ℕ) → q < max_states → good_mark m q ≡ true
  pub transitions : (k : ℕ) → k < m.transitions → good_transition m.states m.letters list k ≡ true

pub tested : (m : Machine) (list : List ℕ) → (well_formed m list ≡ true) ↔ Tested m list
unfolding well_formed
tested m list = (to, from)
  where
    A : Bool
    A = all_below max_states (good_mark m)

    B : Bool
    B = all_below m.transitions (good_transition m.states m.letters list)

    to : (leb 1 m.states && (leb m.states max_states && (leb m.letters max_letters && (leb m.transitions max_transitions && (leb (m.transitions * 3) (length list) && (A && B)))))) ≡ true
        → Tested m list
    to e =
        let a = and_true (leb 1 m.states) _ e in
        let b = and_true (leb m.states max_states) _ a.1 in
        let c = and_true (leb m.letters max_letters) _ b.1 in
        let d = and_true (leb m.transitions max_transitions) _ c.1 in
        let f = and_true (leb (m.transitions * 3) (length list)) (A && B) d.1 in
        let g = and_true A B f.1 in
        record {
          counts = record { some = leb-true _ _ a.0; few_states = leb-true _ _ b.0; few_letters = leb-true _ _ c.0; few_transitions = leb-true _ _ d.0 };
          long = leb-true _ _ f.0;
          marks = (all_below_true (good_mark m) max_states).0 g.0;
          transitions = (all_below_true (good_transition m.states m.letters list) m.transitions).0 g.1;
        }

    from : Tested m list
        → (leb 1 m.states && (leb m.states max_states && (leb m.letters max_letters && (leb m.transitions max_transitions && (leb (m.transitions * 3) (length list) && (A && B)))))) ≡ true
    from r =
        and_both_true (leb 1 m.states) _ (le-leb _ _ r.counts.some)
        (and_both_true (leb m.states max_states) _ (le-leb _ _ r.counts.few_states)
        (and_both_true (leb m.letters max_letters) _ (le-leb _ _ r.counts.few_letters)
        (and_both_true (leb m.transitions max_transitions) _ (le-leb _ _ r.counts.few_transitions)
        (and_both_true (leb (m.transitions * 3) (length list)) _ (le-leb _ _ r.long)
        (and_both_true A B ((all_below_true (good_mark m) max_states).1 r.marks)
        ((all_below_true (good_transition m.states m.letters list) m.transitions).1 r.transitions))))))

pub record Rules (m : Machine) (list : List ℕ) : Type 0 where
  pub some_state : 1 ≤ m.states
  pub states_fit : m.states ≤ 64
  pub letters_fit : m.letters ≤ 250
  pub transitions_fit : m.transitions ≤ 4000
  pub list_fits : m.transitions * 3 ≤ length list
  pub marks_good : (q : ℕ) → q < 64 → good_mark m q ≡ true
  pub from_below : (k : ℕ) → k < m.transitions → (transition_at list k).from < m.states
  pub letter_below : (k : ℕ) → k < m.transitions → (transition_at list k).letter ≤ m.letters
  pub to_below : (k : ℕ) → k < m.transitions → (transition_at list k).to < m.states
  pub rises : (k : ℕ) → suc k < m.transitions → precedes (transition_at list k) (transition_at list (suc k)) ≡ true

record Good (m : Machine) (list : List ℕ) (k : ℕ) : Type 0 where
  from : (transition_at list k).from < m.states
  letter : (transition_at list k).letter ≤ m.letters
  to : (transition_at list k).to < m.states
  after : (eqb k 0 || precedes (transition_at list (k - 1)) (transition_at list k)) ≡ true

good_says : (m : Machine) (list : List ℕ) (k : ℕ) → good_transition m.states m.letters list k ≡ true → Good m list k
good_says m list k h =
    let t = transition_at list k in
    let (n, after) = and_true (named m.states m.letters t) (eqb k 0 || precedes (transition_at list (k - 1)) t) h in
    let (from, rest) = and_true (ltb t.from m.states) (leb t.letter m.letters && ltb t.to m.states) n in
    let (letter, to) = and_true (leb t.letter m.letters) (ltb t.to m.states) rest in
    record {
      from = ltb-true t.from m.states from;
      letter = leb-true t.letter m.letters letter;
      to = ltb-true t.to m.states to;
      after = after;
    }

good_rises : (m : Machine) (list : List ℕ) (k : ℕ) → Good m list (suc k) → precedes (transition_at list k) (transition_at list (suc k)) ≡ true
good_rises m list k g = at (or_true (eqb (suc k) 0) (precedes (transition_at list (suc k - 1)) (transition_at list (suc k))) g.after)
  where
    at : (eqb (suc k) 0 ≡ true) ⊎ (precedes (transition_at list (suc k - 1)) (transition_at list (suc k)) ≡ true) → precedes (transition_at list k) (transition_at list (suc k)) ≡ true
    at (inl z) = let e = eqb-true (suc k) 0 z in absurd (omega arith)
    at (inr t) = let e : suc k - 1 ≡ k = omega arith in subst (λ (j : ℕ). precedes (transition_at list j) (transition_at list (suc k)) ≡ true) e t

pub rules : (m : Machine) (list : List ℕ) → well_formed m list ≡ true → Rules m list
rules m list h =
    let t = (tested m list).0 h in
    let each : (k : ℕ) → k < m.transitions → Good m list k = λ k lt. good_says m list k (t.transitions k lt) in
    record {
      some_state = t.counts.some;
      states_fit = t.counts.few_states;
      letters_fit = t.counts.few_letters;
      transitions_fit = t.counts.few_transitions;
      list_fits = t.long;
      marks_good = t.marks;
      from_below = λ k lt. (each k lt).from;
      letter_below = λ k lt. (each k lt).letter;
      to_below = λ k lt. (each k lt).to;
      rises = λ k lt. good_rises m list k (each (suc k) lt);
    }

pub marked : (m : Machine) (list : List ℕ) → Rules m list → (q : ℕ) → (mark_of m.marks q ≡ 0 → ⊥) → q < m.states
marked m list r q some = at (true_or_false (ltb q max_states)) (true_or_false (ltb q m.states))
  where
    at : (ltb q max_states ≡ true) ⊎ (ltb q max_states ≡ false) → (ltb q m.states ≡ true) ⊎ (ltb q m.states ≡ false) → q < m.states
    at a (inl t) = ltb-true q m.states t
    at (inl a) (inr f) = absurd (some (eqb-true (mark_of m.marks q) 0 (rw f at (r.marks_good q (ltb-true q max_states a)))))
    at (inr a) (inr f) = absurd (some (rw a))

pub buffering_below : (m : Machine) (list : List ℕ) → Rules m list → (q : ℕ) → buffering m.marks q ≡ true → q < m.states
buffering_below m list r q h = marked m list r q (λ z. zero_bit (mark_of m.marks q) (eqb-true (mark_of m.marks q / 4 % 2) 1 h) z)
  where
    zero_bit : (x : ℕ) → x / 4 % 2 ≡ 1 → x ≡ 0 → ⊥
    zero_bit x e z = omega arith

pub matching_below : (m : Machine) (list : List ℕ) → Rules m list → (q : ℕ) → matching m.marks q ≡ true → q < m.states
matching_below m list r q h = marked m list r q (λ z. zero_bit (mark_of m.marks q) (eqb-true (mark_of m.marks q / 8 % 2) 1 h) z)
  where
    zero_bit : (x : ℕ) → x / 8 % 2 ≡ 1 → x ≡ 0 → ⊥
    zero_bit x e z = omega arith

pub one_kind : (m : Machine) (list : List ℕ) → Rules m list → (q : ℕ) → buffering m.marks q ≡ true → matching m.marks q ≡ true → ⊥
one_kind m list r q b h =
    let lt = buffering_below m list r q b in
    let good = r.marks_good q (omega (arith, r.states_fit)) in
    let small = leb (mark_of m.marks q) 15 in
    let one = not (buffering m.marks q && matching m.marks q) in
    let here : (small && one) ≡ true = subst (λ (z : Bool). cond z (small && one) (eqb (mark_of m.marks q) 0) ≡ true) (lt-ltb q m.states lt) good in
    not_and_says (buffering m.marks q) (matching m.marks q) (and_true small one here).1 (b, h)

pub record Placed (m : Machine) (w : List ℕ) (c : Config) (t : Mode) : Type 0 where
  pub in_word : c.position ≤ length w
  pub state_below : c.state < m.states
  pub forward : c.start ≤ c.end
  pub behind : c.end ≤ c.position
  pub fits : buffer_fits c t ≡ true

module _ (m : Machine) (w : List ℕ) (c : Config) where
  pub placed : well_placed m.states (length w) c ≡ true → Placed m w c c.mode
  unfolding well_placed
  placed h =
      let fits = buffer_fits c c.mode in
      let (a, r₁) = and_true (leb c.position (length w)) (ltb c.state m.states && (leb c.start c.end && (leb c.end c.position && fits))) h in
      let (b, r₂) = and_true (ltb c.state m.states) (leb c.start c.end && (leb c.end c.position && fits)) r₁ in
      let (d, r₃) = and_true (leb c.start c.end) (leb c.end c.position && fits) r₂ in
      let (e, f) = and_true (leb c.end c.position) fits r₃ in
      record {
        in_word = leb-true c.position (length w) a;
        state_below = ltb-true c.state m.states b;
        forward = leb-true c.start c.end d;
        behind = leb-true c.end c.position e;
        fits = f;
      }

  pub unplaced : Placed m w c c.mode → well_placed m.states (length w) c ≡ true
  unfolding well_placed
  unplaced p =
      let fits = buffer_fits c c.mode in
      and_both_true (leb c.position (length w)) (ltb c.state m.states && (leb c.start c.end && (leb c.end c.position && fits)))
      (le-leb c.position (length w) p.in_word)
      (and_both_true (ltb c.state m.states) (leb c.start c.end && (leb c.end c.position && fits))
      (lt-ltb c.state m.states p.state_below)
      (and_both_true (leb c.start c.end) (leb c.end c.position && fits)
      (le-leb c.start c.end p.forward)
      (and_both_true (leb c.end c.position) fits (le-leb c.end c.position p.behind) p.fits)))
