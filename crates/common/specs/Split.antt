-- A run of the product taken apart into a run of each machine, entry by entry. The laws stand in specs/Split/Laws.antt.
--
-- Splits m₁ l₁ m₂ l₂ list es a b == es are entries on the product's list; a has the first machine's entries and b the second's: a change of mode
--                         stays as it is and belongs to the first alone, as does a transition by epsilon; a transition by a letter is one of each
-- is_letter list e, letters_in list es == entry e is a transition by a letter; how many of the entries es are
use Rattle.std.specs.Prelude.{ℕ, ◌+◌, ◌/◌, ◌%◌, ◌≤◌, ◌<◌, ◌≡◌, Bool, cond, not, ◌&&◌, List, [], ◌∷◌, ltb, eqb}
use Rattle.fsbm.specs.Machine.{transition_at}
use Rattle.fsbm.specs.Moves.{begin_buffering}
use Rattle.fsbm.specs.declared.machine.Machine.{Machine}
use Rattle.pieces.specs.Written.{Takes}
pub mod Laws

-- states of the product are pairs, numbered first × (states of the second) + second
pub data Splits (m₁ : Machine) (l₁ : List ℕ) (m₂ : Machine) (l₂ : List ℕ) (list : List ℕ) : List ℕ → List ℕ → List ℕ → Type 0 where
  nothing_left : Splits m₁ l₁ m₂ l₂ list [] [] []
  change : {e : ℕ} {es a b : List ℕ} → begin_buffering ≤ e → Splits m₁ l₁ m₂ l₂ list es a b → Splits m₁ l₁ m₂ l₂ list (e ∷ es) (e ∷ a) b
  alone : {e d : ℕ} {es a b : List ℕ} → e < begin_buffering → (transition_at list e).letter ≡ 0
      → Takes m₁ l₁ d ((transition_at list e).from / m₂.states) 0 ((transition_at list e).to / m₂.states)
      → Splits m₁ l₁ m₂ l₂ list es a b → Splits m₁ l₁ m₂ l₂ list (e ∷ es) (d ∷ a) b
  moves : {e d c : ℕ} {es a b : List ℕ} → e < begin_buffering → ((transition_at list e).letter ≡ 0 → ⊥)
      → Takes m₁ l₁ d ((transition_at list e).from / m₂.states) (transition_at list e).letter ((transition_at list e).to / m₂.states)
      → Takes m₂ l₂ c ((transition_at list e).from % m₂.states) (transition_at list e).letter ((transition_at list e).to % m₂.states)
      → Splits m₁ l₁ m₂ l₂ list es a b → Splits m₁ l₁ m₂ l₂ list (e ∷ es) (d ∷ a) (c ∷ b)

abbrev pub is_letter : List ℕ → ℕ → Bool
is_letter list e = ltb e begin_buffering && not (eqb (transition_at list e).letter 0)

unfoldable pub letters_in : List ℕ → List ℕ → ℕ
letters_in list [] = 0
letters_in list (e ∷ es) = cond (is_letter list e) 1 0 + letters_in list es
