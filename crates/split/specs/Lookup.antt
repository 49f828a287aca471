-- A triple is looked up in the rising list of a machine's transitions. The laws stand in specs/Lookup/Laws.antt.
--
-- key_of p x q              == the triple as one number
-- Between list n p x q lo hi == the triple stands from lo on, below hi, among the first n transitions
use Rattle.std.specs.Prelude.{ℕ, ◌+◌, ◌*◌, ◌≤◌, ◌<◌, ◌≡◌, List}
use Rattle.fsbm.specs.Machine.{transition_at}
pub mod Laws

abbrev pub key_of : ℕ → ℕ → ℕ → ℕ
key_of p x q = (p * 256 + x) * 64 + q

pub record Between (list : List ℕ) (n p x q lo hi : ℕ) : Type 0 where
  pub number : ℕ
  pub low : lo ≤ number
  pub high : number < hi
  pub within : hi ≤ n
  pub from : (transition_at list number).from ≡ p
  pub letter : (transition_at list number).letter ≡ x
  pub to : (transition_at list number).to ≡ q
