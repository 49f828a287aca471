-- A test that a machine accepts no word of any length: the states that runs reach in each mode, with letters and buffers ignored.
-- It may fail for a machine that accepts nothing. The laws stand in specs/NoWord/Laws.antt.
--
-- Control              == a state and a mode
-- same_control s t      == s and t agree in both (a Bool)
-- follows m list s     == the controls that one move leads to from s, letters and buffers ignored
-- controls m list      == every control that is reached
-- no_word m list        == what is reached is closed under the moves, and no final state is there in normal mode
use Rattle.std.specs.Prelude.{ℕ, ◌*◌, List, ◌∷◌, Bool, cond, not, ◌&&◌, eqb}
use Rattle.basics.specs.Search.{all_in}
use Rattle.graphs.specs.Reach.{reach, is_closed}
use Rattle.fsbm.specs.Machine.{initial, final, buffering, matching, transition_at}
use Rattle.fsbm.specs.Moves.{passes, is_normal}
use Rattle.fsbm.specs.declared.machine.Machine.{Machine}
use Rattle.fsbm.specs.declared.config.Mode.{Mode}
use Rattle.fsbm.specs.declared.config.Mode.TheVariants.{Normal, Buffering, Emptying}
use Rattle.language.specs.Chosen.{numbers, chosen}
use Rattle.fsbm.specs.Reaches.{same_mode}
pub mod Laws

pub record Control : Type 0 where
  pub state : ℕ
  pub mode : Mode

abbrev pub control : ℕ → Mode → Control
control q t = record { state = q; mode = t }

unfoldable pub same_control : Control → Control → Bool
same_control s t = eqb s.state t.state && same_mode s.mode t.mode

-- the marks let the mode change at a state, and what it changes to
abbrev pub changeable : List ℕ → ℕ → Mode → Bool
changeable marks q Normal = buffering marks q
changeable marks q Buffering = matching marks q
changeable marks q Emptying = matching marks q

abbrev pub next_mode : Mode → Mode
next_mode Normal = Buffering
next_mode Buffering = Emptying
next_mode Emptying = Normal

-- by the transitions from its state
unfoldable pub crossings : Machine → List ℕ → Control → List Control
unfolding chosen numbers passes
crossings m list s =
    chosen (λ k. eqb (transition_at list k).from s.state && passes m.marks (transition_at list k) s.mode)
    (λ k. control (transition_at list k).to s.mode) (numbers m.transitions)

unfoldable pub follows : Machine → List ℕ → Control → List Control
unfolding crossings
follows m list s =
    let rest = crossings m list s in
    cond (changeable m.marks s.state s.mode) (control s.state (next_mode s.mode) ∷ rest) rest

unfoldable pub controls : Machine → List ℕ → List Control
unfolding reach follows same_control chosen numbers
controls m list = reach (follows m list) same_control (3 * m.states) (chosen (initial m.marks) (λ q. control q Normal) (numbers m.states))

unfoldable pub no_word : Machine → List ℕ → Bool
unfolding controls is_closed all_in follows same_control
no_word m list = is_closed (follows m list) same_control (controls m list) && all_in (λ s. not (final m.marks s.state && is_normal s.mode)) (controls m list)
