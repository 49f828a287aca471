-- Sets of states, one for each mode, that no run leaves when letters and buffers are ignored. The law stands in specs/Closed/Laws.antt.
--
-- Allowed M T p q      == the kinds of p and q let mode T take a transition from p to q
-- Changeable M T q     == the kind of q lets mode T change there
-- next_mode T           == what mode T changes to
-- Closed M At          == the states of At hold the initial ones in normal mode, no move leads out of them, and none is final in normal mode
use Rattle.std.specs.Prelude.{ℕ}
use Rattle.fsbm.specs.Published.{FSBM}
use Rattle.fsbm.specs.declared.config.Mode.{Mode}
use Rattle.fsbm.specs.declared.config.Mode.TheVariants.{Normal, Buffering, Emptying}
pub mod Laws

abbrev pub Allowed : FSBM → Mode → ℕ → ℕ → Type 0
Allowed M Normal p q = (M.H p × M.H q → ⊥) × (M.G p → ⊥)
Allowed M Buffering p q = (M.H p × M.H q → ⊥) × (M.G q → ⊥)
Allowed M Emptying p q = M.H p × M.H q

abbrev pub Changeable : FSBM → Mode → ℕ → Type 0
Changeable M Normal q = M.G q
Changeable M Buffering q = M.H q
Changeable M Emptying q = M.H q

abbrev pub next_mode : Mode → Mode
next_mode Normal = Buffering
next_mode Buffering = Emptying
next_mode Emptying = Normal

pub record Closed (M : FSBM) (At : Mode → ℕ → Type 0) : Type 0 where
  pub first : (q : ℕ) → M.I q → At Normal q
  pub moves : (T : Mode) (p x q : ℕ) → M.δ p x q → Allowed M T p q → At T p → At T q
  pub changes : (T : Mode) (q : ℕ) → Changeable M T q → At T q → At (next_mode T) q
  pub last : (q : ℕ) → M.F q → At Normal q → ⊥
