-- The transitions that enter each state, as linked lists. The laws stand in specs/Into/Laws.antt.
--
-- NextLink P n k r           == r is the first number from k on, below n, with P; at least n where there is none
-- Enters list q k        == transition k enters state q
-- IntoFrom n list k links == the lists of the transitions from k on, of n
-- Into m list links      == the lists of all
use Rattle.std.specs.Prelude.{ℕ, ◌+◌, ◌≤◌, ◌<◌, ◌≡◌, List, length, get_or}
use Rattle.fsbm.specs.Machine.{transition_at}
use Rattle.fsbm.specs.declared.machine.Machine.{Machine}
pub mod Laws

pub record NextLink (P : ℕ → Type 0) (n k r : ℕ) : Type 0 where
  pub on : k ≤ r
  pub skipped : (j : ℕ) → k ≤ j → j < r → j < n → P j → ⊥
  pub found : r < n → P r

abbrev pub Enters : List ℕ → ℕ → ℕ → Type 0
Enters list q k = (transition_at list k).to ≡ q

pub record IntoFrom (n : ℕ) (list : List ℕ) (k : ℕ) (links : List ℕ) : Type 0 where
  pub size : length links ≡ 4064
  pub first : (q : ℕ) → q < 64 → NextLink (Enters list q) n k (get_or links q 0)
  pub link : (j : ℕ) → k ≤ j → j < n → NextLink (Enters list (transition_at list j).to) n (j + 1) (get_or links (64 + j) 0)

abbrev pub Into : Machine → List ℕ → List ℕ → Type 0
Into m list links = IntoFrom m.transitions list 0 links
