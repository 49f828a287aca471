-- The matching states that can read a letter. The laws stand in specs/Readers/Laws.antt.
--
-- Noted list k h x set r     == r is the set with the state that transition k leaves, if the transition is by x between members of h
-- ReadersBelow m list n sets == for each letter the matching states that one of the first n transitions leaves by it to a matching state
-- Readers m list sets        == the same for all transitions
-- Covers list index stride x h set == the members of h with a transition by x to a member of h are in the set, which has only members of h
use Rattle.std.specs.Prelude.{ℕ, ◌+◌, ◌*◌, ◌≤◌, ◌<◌, ◌≡◌, true, List, length, get_or}
use Rattle.stateset.specs.Set.{In}
use Rattle.fsbm.specs.Machine.{transition_at, matching}
use Rattle.fsbm.specs.declared.machine.Machine.{Machine}
pub mod Laws

pub record Noted (list : List ℕ) (k h : ℕ) (sets sets' : List ℕ) : Type 0 where
  pub size : length sets' ≡ length sets
  pub stays : (x t : ℕ) → In (get_or sets x 0) t → In (get_or sets' x 0) t
  pub this : In h (transition_at list k).from → In h (transition_at list k).to → In (get_or sets' (transition_at list k).letter 0) (transition_at list k).from
  pub only : (x t : ℕ) → (In (get_or sets x 0) t → In h t) → In (get_or sets' x 0) t → In h t

pub record ReadersBelow (m : Machine) (list : List ℕ) (n : ℕ) (sets : List ℕ) : Type 0 where
  pub size : length sets ≡ 251
  pub all : (k : ℕ) → k < n → matching m.marks (transition_at list k).from ≡ true → matching m.marks (transition_at list k).to ≡ true
      → In (get_or sets (transition_at list k).letter 0) (transition_at list k).from
  pub only : (x t : ℕ) → In (get_or sets x 0) t → matching m.marks t ≡ true

abbrev pub Readers : Machine → List ℕ → List ℕ → Type 0
Readers m list sets = ReadersBelow m list m.transitions sets

pub record Covers (list index : List ℕ) (stride x h set : ℕ) : Type 0 where
  pub all : (t k : ℕ) → In h t → get_or index (t * stride + x) 0 ≤ k → k < get_or index (t * stride + x + 1) 0 → In h (get_or list (k * 3 + 2) 0) → In set t
  pub only : (t : ℕ) → In set t → In h t
