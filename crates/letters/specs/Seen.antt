-- What the test for a gap keeps: which numbers are among some others.
--
-- noted seen k    == seen has a note at number k + 1
-- Seen n f seen   == of the numbers below byte_values, seen has 1 at those that are among f 0, .., f (n - 1), and 0 at the others
use Rattle.std.specs.Prelude.{ℕ, suc, ◌<◌, ◌≡◌, List, Bool, cond, not, length, get_or, eqb}
use Rattle.basics.specs.Search.{any_below}
use Rattle.letters.specs.Alphabet.{byte_values}

abbrev pub noted : List ℕ → ℕ → Bool
noted seen k = not (eqb (get_or seen (suc k) 0) 0)

pub record Seen (n : ℕ) (f : ℕ → ℕ) (seen : List ℕ) : Type 0 where
  pub long : length seen ≡ byte_values
  pub each : (x : ℕ) → x < byte_values → get_or seen x 0 ≡ cond (any_below n (λ i. eqb (f i) x)) 1 0
