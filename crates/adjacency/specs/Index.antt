-- The index of a machine's transitions by the state that they leave. Its laws stand in specs/Index/Laws.antt.
--
-- column list c k        == number c (0 from, 1 letter, 2 to) of transition k
-- Sought list c k n x r  == r is the first transition from k on, below n, whose number c is at least x, or n
-- Index m list first     == first says of each state, and of the number of states, how many transitions leave a state below it
use Rattle.std.specs.Prelude.{ℕ, ◌+◌, ◌*◌, ◌≤◌, ◌<◌, ◌≡◌, ◌↔◌, List, length, get_or}
use Rattle.fsbm.specs.Machine.{transition_at}
use Rattle.fsbm.specs.declared.machine.Machine.{Machine}
pub mod Laws

abbrev pub column : List ℕ → ℕ → ℕ → ℕ
column list c k = get_or list (k * 3 + c) 0

pub record Sought (list : List ℕ) (c k n x r : ℕ) : Type 0 where
  pub from : k ≤ r
  pub within : r ≤ n
  pub before : (t : ℕ) → k ≤ t → t < r → column list c t < x
  pub found : r < n → x ≤ column list c r

-- in a list that rises by from, the transitions that leave a state below q are those with a number below first[q]; past the
-- number of states first holds 0
pub record Index (m : Machine) (list first : List ℕ) : Type 0 where
  pub size : length first ≡ 65
  pub within : (q : ℕ) → q ≤ m.states → get_or first q 0 ≤ m.transitions
  pub below : (q k : ℕ) → q ≤ m.states → k < m.transitions → (k < get_or first q 0) ↔ ((transition_at list k).from < q)
  pub past : (q : ℕ) → m.states < q → get_or first q 0 ≡ 0
