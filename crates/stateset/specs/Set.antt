-- A set of states as a number, one binary digit a state. The laws stand in specs/Set/Laws.antt. Assumes nothing.
--
-- width               == how many states a set can hold: the states 0 to width - 1
-- digit x q           == the binary digit of x at the place q: 0 or 1
-- In x q              == the state q is a member of the set x (a type)
-- has x q             == the same as a Bool
-- added x q           == x with the state q; x itself where q is no state
-- removed x q         == x without the state q
-- without x y         == the members of x that are no members of y
-- below n             == the states below n
-- collected n p       == the states below n of which the test p holds
-- lowest_of x          == the lowest member of x, or width where x is empty
-- SetIs r v P         == r is the number v, which is the set of the states p with P p
-- Lowest x r          == r is the lowest member of x, or width where x is empty
-- Taken x p r         == p is the lowest member of x, and r is the set x without it
-- GivesLowest x o r   == a turn over the members of x gave the lowest and left r, or nothing, where x is empty
use Rattle.std.specs.Prelude.{◌≡◌, ◌↔◌, Bool, cond, ℕ, zero, suc, ◌-◌, ◌/◌, ◌%◌, ◌^◌, ◌≤◌, ◌<◌, min, eqb, ltb}
use Rattle.std.specs.Int.Bits.{bit_and, bit_or}
use Rattle.std.specs.Int.Count.{count_trailing_zeros}
use Rattle.std.specs.Prelude.{Option, MatchOption}
pub mod Laws

abbrev pub width : ℕ
width = 64

unfoldable pub digit : ℕ → ℕ → ℕ
digit x q = x / 2 ^ q % 2

abbrev pub In : ℕ → ℕ → Type 0
In x q = digit x q ≡ 1

abbrev pub has : ℕ → ℕ → Bool
has x q = eqb (digit x q) 1

unfoldable pub added : ℕ → ℕ → ℕ
added x q = cond (ltb q width) (bit_or x (2 ^ q)) x

abbrev pub without : ℕ → ℕ → ℕ
without x y = bit_and x (2 ^ width - 1 - y)

unfoldable pub removed : ℕ → ℕ → ℕ
removed x q = cond (ltb q width) (without x (2 ^ q)) x

unfoldable pub below : ℕ → ℕ
below n = 2 ^ min n width - 1

unfoldable pub collected : ℕ → (ℕ → Bool) → ℕ
collected zero p = 0
collected (suc n) p = cond (p n) (added (collected n p) n) (collected n p)

abbrev pub lowest_of : ℕ → ℕ
lowest_of x = count_trailing_zeros width x

pub record SetIs (r v : ℕ) (P : ℕ → Type 0) : Type 0 where
  pub value : r ≡ v
  pub fits : r < 2 ^ width
  pub members : (p : ℕ) → In r p ↔ P p

pub record Lowest (x r : ℕ) : Type 0 where
  pub value : r ≡ lowest_of x
  pub within : r ≤ width
  pub none : x ≡ 0 → r ≡ width
  pub member : 0 < x → In x r
  pub least : (p : ℕ) → p < r → In x p → ⊥

pub record Taken (x p r : ℕ) : Type 0 where
  pub some : 0 < x
  pub state : p < width
  pub lowest : Lowest x p
  pub member : In x p
  pub rest : SetIs r (removed x p) (λ q. In x q × (q ≡ p → ⊥))

abbrev pub GivesLowest : ℕ → Option ℕ → ℕ → Type 0
GivesLowest x o r = MatchOption o ((x ≡ 0) × (r ≡ 0)) (λ p. Taken x p r)
