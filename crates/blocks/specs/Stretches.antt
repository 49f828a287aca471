-- The index of a machine's transitions by state and letter. The laws stand in specs/Stretches/Laws.antt.
--
-- key_of list stride k        == the key of transition k: its from_state and its letter as one number, from × stride + letter
-- Found list stride k n y r  == r is the first transition from k on, below n, whose key is at least y, or n
-- Stretches m list index     == index has for each key y how many transitions have a key below y; the stride is one more than the number of
--                               letters
use Rattle.std.specs.Prelude.{ℕ, ◌+◌, ◌*◌, ◌≤◌, ◌<◌, ◌≡◌, ◌↔◌, List, length, get_or}
use Rattle.fsbm.specs.Machine.{transition_at}
use Rattle.fsbm.specs.declared.machine.Machine.{Machine}
pub mod Laws

-- the most keys, and one more
abbrev pub most_keys : ℕ
most_keys = 16065

abbrev pub key_of : List ℕ → ℕ → ℕ → ℕ
key_of list stride k = (transition_at list k).from * stride + (transition_at list k).letter

pub record Found (list : List ℕ) (stride k n y r : ℕ) : Type 0 where
  pub from : k ≤ r
  pub within : r ≤ n
  pub passed : (t : ℕ) → k ≤ t → t < r → key_of list stride t < y
  pub found : r < n → y ≤ key_of list stride r

-- the transitions of a key stand together, from index[key] up to index[key + 1]
pub record Stretches (m : Machine) (list index : List ℕ) : Type 0 where
  pub size : length index ≡ most_keys
  pub within : (y : ℕ) → y ≤ m.states * (m.letters + 1) → get_or index y 0 ≤ m.transitions
  pub below : (y k : ℕ) → y ≤ m.states * (m.letters + 1) → k < m.transitions → (k < get_or index y 0) ↔ (key_of list (m.letters + 1) k < y)
