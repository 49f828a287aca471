-- The laws of specs/Lookup.antt. Assumes nothing.
--
-- between_start    == a listed triple stands below the count
-- between_below    == it stands before a transition with a greater number
-- between_above    == it does not stand before a transition with a number that is not greater
-- between_end      == where one place is left, it stands there
-- some_past, past_is == it stands before the place where the numbers of the list first pass its own
use Rattle.std.specs.Prelude.{ℕ, ◌-◌, ◌≤◌, ◌<◌, ◌≡◌, List}
use Rattle.std.proofs.Common.{sym, ap, subst, ◌∙◌, arith}
use Rattle.std.proofs.Math.Decide.{dec_lt, ℕ_discrete}
use Rattle.fsbm.specs.Machine.{transition_at}
use Rattle.fsbm.specs.Published.{Listed}
use Rattle.fsbm.specs.Rules.{Rules}
use Rattle.fsbm.specs.declared.machine.Machine.{Machine}
use Rattle.product.specs.Tables.{order, rising}
use Rattle.pieces.specs.Written.{Takes}
use Rattle.split.specs.Lookup.{key_of, Between}

module _ (m : Machine) (list : List ℕ) (p x q : ℕ) where
  pub between_start : Listed list m.transitions p x q → Between list m.transitions p x q 0 m.transitions
  between_start d = record { number = d.number; low = omega arith; high = d.listed; within = omega arith; from = d.from; letter = d.letter; to = d.to }

  module _ (r : Rules m list) (lo hi : ℕ) (b : Between list m.transitions p x q lo hi) where
    key_there : order (transition_at list b.number) ≡ key_of p x q
    key_there = let f = b.from in let l = b.letter in let t = b.to in omega arith

    pub between_below : (mid : ℕ) → mid < hi → key_of p x q < order (transition_at list mid) → Between list m.transitions p x q lo mid
    between_below mid inside less =
        record { number = b.number; low = b.low; high = at (dec_lt b.number mid) (ℕ_discrete mid b.number); within = omega (arith, b.within); from = b.from; letter = b.letter; to = b.to }
      where
        at : Dec (b.number < mid) → Dec (mid ≡ b.number) → b.number < mid
        at (yes l) d = l
        at (no f) (yes e) = let k = key_there in let s = ap (λ (z : ℕ). order (transition_at list z)) e in absurd (omega arith)
        at (no f) (no d) = let k = key_there in let h = b.high in let w = b.within in let s = rising m list r mid b.number (omega arith) (omega arith) in absurd (omega arith)

    pub between_above : (mid : ℕ) → mid < hi → order (transition_at list mid) ≤ key_of p x q → Between list m.transitions p x q mid hi
    between_above mid inside most =
        record { number = b.number; low = at (dec_lt b.number mid); high = b.high; within = b.within; from = b.from; letter = b.letter; to = b.to }
      where
        at : Dec (b.number < mid) → mid ≤ b.number
        at (yes l) = let k = key_there in let w = b.within in let s = rising m list r b.number mid l (omega arith) in absurd (omega arith)
        at (no f) = omega arith

    pub between_end : hi - lo ≤ 1 → Takes m list lo p x q
    between_end one =
        let here : b.number ≡ lo = let l = b.low in let h = b.high in omega arith in
        record {
          listed = let h = b.high in let w = b.within in omega arith;
          from = ap (λ (z : ℕ). (transition_at list z).from) (sym here) ∙ b.from;
          letter = ap (λ (z : ℕ). (transition_at list z).letter) (sym here) ∙ b.letter;
          to = ap (λ (z : ℕ). (transition_at list z).to) (sym here) ∙ b.to;
        }

  -- the numbers below past are not greater than that of the triple, and that of past is
  module _ (r : Rules m list) (d : Listed list m.transitions p x q) (past : ℕ) (within : past ≤ m.transitions) (holds : 0 < past → order (transition_at list (past - 1)) ≤ key_of p x q)
      (fails : past < m.transitions → key_of p x q < order (transition_at list past)) where
    below : Between list m.transitions p x q 0 past
    below = at (dec_lt past m.transitions)
      where
        at : Dec (past < m.transitions) → Between list m.transitions p x q 0 past
        at (yes l) = between_below r 0 m.transitions (between_start d) past l (fails l)
        at (no h) = let e : m.transitions ≡ past = omega arith in subst (λ (z : ℕ). Between list m.transitions p x q 0 z) e (between_start d)

    pub some_past : 0 < past
    some_past = omega (arith, below.high)

    pub past_is : Takes m list (past - 1) p x q
    past_is =
        let some = some_past in
        between_end r (past - 1) past (between_above r 0 past below (past - 1) (omega arith) (holds some)) (omega arith)
