-- Transitions, and moves of a pair, along which a number is reached exactly. The laws stand in specs/Find/Laws.antt.
--
-- Finds n P r            == r is a number below n with P; or there is none, and none has it
-- FindsInto n list q Gives r == r is a transition into q whose test gives true; or there is none, and of each into q it gives false
-- Tried Q r              == r says whether Q holds
-- normal_test, store_test, match_test == transition k is taken in its mode, and its weight and the number where it begins make `want`
-- NormalFits m list d q k == transition k enters q in normal mode along which the number of q is reached
-- StoreFits m list b s t want k == transition k enters s by epsilon in buffering mode, and makes `want`, the other half in t
-- MatchFits m list b s t x w want k == transition k enters t by x in emptying mode, and makes `want` with the weight w, the other half in s
-- LetterStep, LetterFits == transition k enters s by a letter in buffering mode, and some transition enters t by the same letter in emptying
--                           mode, so that both make `want`
-- Backs m list b s t k j == k and j are the transitions of the two halves along which the number of (s, t) is reached
use Rattle.std.specs.Prelude.{ℕ, ◌+◌, ◌*◌, ◌≤◌, ◌<◌, ◌≡◌, Bool, true, false, not, ◌&&◌, List, eqb, Option, MatchOption}
use Rattle.std.proofs.Common.{Some, None}
use Rattle.fsbm.specs.Machine.{transition_at, buffering, both_matching}
use Rattle.fsbm.specs.declared.machine.Machine.{Machine}
use Rattle.pieces.specs.Pairs.{weigh, halves, unit}
use Rattle.pieces.specs.Blocks.{cost_of, cell}
use Rattle.shortest.specs.Into.{Enters}
pub mod Laws
pub mod Tests

abbrev pub Finds : ℕ → (ℕ → Type 0) → Option ℕ → Type 0
Finds n P r = MatchOption r ((k : ℕ) → k < n → P k → ⊥) (λ k. (k < n) × P k)

pub record FindsInto (n : ℕ) (list : List ℕ) (q : ℕ) (Gives : ℕ → Bool → Type 0) (r : Option ℕ) : Type 0 where
  pub finds : MatchOption r ((k : ℕ) → k < n → Enters list q k → Gives k false) (λ k. (k < n) × Enters list q k × Gives k true)

pub record Tried (Q : Type 0) (r : Bool) : Type 0 where
  pub good : r ≡ true → Q
  pub bad : r ≡ false → Q → ⊥

-- the weight of a move of both halves by a letter
abbrev pub pair_unit : ℕ
pair_unit = halves * (unit + 1)

unfoldable pub normal_test : List ℕ → List ℕ → List ℕ → ℕ → ℕ → Bool
normal_test marks list d want k =
    not (both_matching marks (transition_at list k))
    && (not (buffering marks (transition_at list k).from) && eqb (cost_of d (transition_at list k).from + weigh (transition_at list k).letter) want)

unfoldable pub store_test : List ℕ → List ℕ → List ℕ → ℕ → ℕ → ℕ → Bool
store_test marks list b t want k =
    not (both_matching marks (transition_at list k))
    && (not (buffering marks (transition_at list k).to) && (eqb (transition_at list k).letter 0 && eqb (cell b (transition_at list k).from t + 1) want))

unfoldable pub match_test : List ℕ → List ℕ → List ℕ → ℕ → ℕ → ℕ → ℕ → ℕ → Bool
match_test marks list b s x w want k =
    both_matching marks (transition_at list k) && (eqb (transition_at list k).letter x && eqb (cell b s (transition_at list k).from + w) want)

abbrev pub NormalFits : Machine → List ℕ → List ℕ → ℕ → ℕ → Type 0
NormalFits m list d q k = Enters list q k × (normal_test m.marks list d (cost_of d q) k ≡ true)

abbrev pub StoreFits : Machine → List ℕ → List ℕ → ℕ → ℕ → ℕ → ℕ → Type 0
StoreFits m list b s t want k = Enters list s k × (store_test m.marks list b t want k ≡ true)

abbrev pub MatchFits : Machine → List ℕ → List ℕ → ℕ → ℕ → ℕ → ℕ → ℕ → ℕ → Type 0
MatchFits m list b s t x w want k = Enters list t k × (match_test m.marks list b s x w want k ≡ true)

-- what the first half of a move by a letter needs of the marks
pub record Storing (m : Machine) (list : List ℕ) (k : ℕ) : Type 0 where
  pub letter : (transition_at list k).letter ≡ 0 → ⊥
  pub apart : both_matching m.marks (transition_at list k) ≡ false
  pub free : buffering m.marks (transition_at list k).to ≡ false

pub record LetterStep (m : Machine) (list b : List ℕ) (t want k : ℕ) : Type 0 where
  pub storing : Storing m list k
  pub partner : ℕ
  pub partner_below : partner < m.transitions
  pub partner_fits : MatchFits m list b (transition_at list k).from t (transition_at list k).letter pair_unit want partner

abbrev pub LetterFits : Machine → List ℕ → List ℕ → ℕ → ℕ → ℕ → ℕ → Type 0
LetterFits m list b s t want k = Enters list s k × LetterStep m list b t want k

-- the storing half moves by epsilon, the matching half does, both move by a letter, or no such move makes the number
pub data Backs (m : Machine) (list b : List ℕ) (s t : ℕ) : Option ℕ → Option ℕ → Type 0 where
  by_storing : {k : ℕ} → k < m.transitions → StoreFits m list b s t (cell b s t) k → Backs m list b s t (Some k) None
  by_matching : {j : ℕ} → j < m.transitions → MatchFits m list b s t 0 1 (cell b s t) j → Backs m list b s t None (Some j)
  by_both : {k j : ℕ} → k < m.transitions → j < m.transitions → Enters list s k → Storing m list k
      → MatchFits m list b (transition_at list k).from t (transition_at list k).letter pair_unit (cell b s t) j → Backs m list b s t (Some k) (Some j)
  by_none : {k j : Option ℕ} → ((i : ℕ) → i < m.transitions → StoreFits m list b s t (cell b s t) i → ⊥) → ((i : ℕ) → i < m.transitions → MatchFits m list b s t 0 1 (cell b s t) i → ⊥)
      → ((i : ℕ) → i < m.transitions → LetterFits m list b s t (cell b s t) i → ⊥) → Backs m list b s t k j
