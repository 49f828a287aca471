-- A run of the product is taken apart, from its last entry to its first. The laws stand in specs/Split/Laws.antt.
--
-- Joined .., Split ..                  == what split asks, and what it ensures
-- FirstReady, FirstPart                == what is asked and ensured for the first machine's part of one entry
-- SecondReady, SecondPart              == the same for the second machine's
-- Splitting ..                         == the entries from k on are taken apart
use Rattle.std.specs.Prelude.{ℕ, suc, ◌+◌, ◌/◌, ◌%◌, ◌≤◌, ◌<◌, ◌≡◌, ◌⊎◌, true, false, List, ◌++◌, length, get_or, set, drop}
use Rattle.fsbm.specs.Machine.{transition_at}
use Rattle.fsbm.specs.Moves.{begin_buffering}
use Rattle.fsbm.specs.Published.{Listed}
use Rattle.fsbm.specs.declared.machine.Machine.{Machine}
use Rattle.pieces.specs.Written.{Takes}
use Rattle.common.specs.Split.{is_letter, letters_in, Splits}
use Rattle.product.specs.Product.{joined_transitions, joined_count, join_fault}
pub mod Laws

pub record FirstReady (m : Machine) (first list : List ℕ) (n e : ℕ) : Type 0 where
  pub some : 0 < n
  pub there : e < begin_buffering → Listed first m.transitions ((transition_at list e).from / n) (transition_at list e).letter ((transition_at list e).to / n)

pub record FirstPart (m : Machine) (first list : List ℕ) (n e r : ℕ) : Type 0 where
  pub changes : begin_buffering ≤ e → r ≡ e
  pub takes : e < begin_buffering → Takes m first r ((transition_at list e).from / n) (transition_at list e).letter ((transition_at list e).to / n)

pub record SecondReady (m : Machine) (second list : List ℕ) (n e p : ℕ) (other : List ℕ) : Type 0 where
  pub some : 0 < n
  pub there : is_letter list e ≡ true → Listed second m.transitions ((transition_at list e).from % n) (transition_at list e).letter ((transition_at list e).to % n) × (0 < p)
  pub room : p ≤ length other

-- an entry was put before place p
pub record Put (m : Machine) (second list : List ℕ) (n e p : ℕ) (other : List ℕ) (r : ℕ) (other' : List ℕ) : Type 0 where
  pub letter : is_letter list e ≡ true
  pub place : suc r ≡ p
  pub entry : ℕ
  pub takes : Takes m second entry ((transition_at list e).from % n) (transition_at list e).letter ((transition_at list e).to % n)
  pub after : other' ≡ set other r entry

-- the entry does not move by a letter, and nothing was written
pub record Kept (list : List ℕ) (e p : ℕ) (other : List ℕ) (r : ℕ) (other' : List ℕ) : Type 0 where
  pub none : is_letter list e ≡ false
  pub place : r ≡ p
  pub after : other' ≡ other

abbrev pub SecondPart : Machine → List ℕ → List ℕ → ℕ → ℕ → ℕ → List ℕ → ℕ → List ℕ → Type 0
SecondPart m second list n e p other r other' = Kept list e p other r other' ⊎ Put m second list n e p other r other'

-- the two machines can be joined, the list has the product's transitions, each entry of the run names something, and the other slice has
-- room for a start state and an entry for each move by a letter
pub record Joined (m₁ : Machine) (l₁ : List ℕ) (m₂ : Machine) (l₂ list run other : List ℕ) : Type 0 where
  pub fine : join_fault m₁ l₁ m₂ l₂ ≡ 0
  pub rest : List ℕ
  pub list_is : list ≡ joined_transitions m₁ l₁ m₂ l₂ ++ rest
  pub started : 0 < length run
  pub entries : (k : ℕ) → 0 < k → k < length run → (begin_buffering ≤ get_or run k 0) ⊎ (get_or run k 0 < joined_count m₁ l₁ m₂ l₂)
  pub letters : suc (letters_in list (drop 1 run)) ≡ length other

-- a joined state q is the pair of q / n and q % n, n the states of the second
pub record Split (m₁ : Machine) (l₁ : List ℕ) (m₂ : Machine) (l₂ list run run' other' : List ℕ) : Type 0 where
  pub first_start : get_or run' 0 0 ≡ get_or run 0 0 / m₂.states
  pub second_start : get_or other' 0 0 ≡ get_or run 0 0 % m₂.states
  pub splits : Splits m₁ l₁ m₂ l₂ list (drop 1 run) (drop 1 run') (drop 1 other')

pub record Splitting (m₁ : Machine) (l₁ : List ℕ) (m₂ : Machine) (l₂ list run₀ other₀ run other : List ℕ) (k p : ℕ) : Type 0 where
  pub low : 0 < k
  pub high : k ≤ length run₀
  pub run_size : length run ≡ length run₀
  pub other_size : length other ≡ length other₀
  pub place : p + letters_in list (drop k run₀) ≡ length other₀
  pub below : (i : ℕ) → i < k → get_or run i 0 ≡ get_or run₀ i 0
  pub splits : Splits m₁ l₁ m₂ l₂ list (drop k run₀) (drop k run) (drop p other)
