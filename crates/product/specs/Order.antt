-- Transitions in their order, as the functions that write the product meet it.
--
-- letter_key list k        == transition k by from_state and letter, as one number
-- Lower list n j y r      == r is the first transition from j on, of n, whose key is not below y
-- Moving n count second starts r t == transition t of the first can be taken at state r of the second, whose transitions by its letter
--                            begin where starts says
-- Block list n p lo hi    == of the first n transitions those from lo up to hi leave state p
use Rattle.std.specs.Prelude.{ℕ, ◌+◌, ◌*◌, ◌≤◌, ◌<◌, ◌^◌, ◌≡◌, List, get_or}
use Rattle.fsbm.specs.Machine.{transition_at}
use Rattle.fsbm.specs.declared.machine.Transition.{Transition}

abbrev pub letter_key : List ℕ → ℕ → ℕ
letter_key list k = (transition_at list k).from * 256 + (transition_at list k).letter

pub record Lower (list : List ℕ) (n j y r : ℕ) : Type 0 where
  pub low : j ≤ r
  pub high : r ≤ n
  pub below : (k : ℕ) → j ≤ k → k < r → letter_key list k < y
  pub reached : r < n → y ≤ letter_key list r

pub record Block (list : List ℕ) (n p lo hi : ℕ) : Type 0 where
  pub low : lo ≤ hi
  pub high : hi ≤ n
  pub before : (k : ℕ) → k < lo → letter_key list k < p * 256
  pub from : (k : ℕ) → lo ≤ k → k < hi → p * 256 ≤ letter_key list k
  pub upto : (k : ℕ) → lo ≤ k → k < hi → letter_key list k < p * 256 + 256
  pub after : (k : ℕ) → hi ≤ k → k < n → p * 256 + 256 ≤ letter_key list k

pub record Moving (n count : ℕ) (second starts : List ℕ) (r : ℕ) (t : Transition) : Type 0 where
  pub from_small : t.from * n + r < 2 ^ 16
  pub to_small : t.to * n + r < 2 ^ 16
  pub tos_small : (u : ℕ) → u < count → t.to * n + (transition_at second u).to < 2 ^ 16
  pub state_small : r < 64
  pub letter_small : t.letter < 256
  pub letters_small : (u : ℕ) → u < count → (transition_at second u).letter < 256
  pub sorted : (u v : ℕ) → u ≤ v → v < count → letter_key second u ≤ letter_key second v
  pub start : (t.letter ≡ 0 → ⊥) → Lower second count 0 (r * 256 + t.letter) (get_or starts (r * 256 + t.letter) 0)
