-- The published definition of finite-state buffered machines (source document 000, definitions 10 to 13).
--
-- FSBM                == definition 10: the tuple; states and letters are numbers, letter 0 is epsilon
-- fsbm_of m list       == the FSBM that a record and its list describe
-- Configuration       == definition 11: the rest of the input, the state, the buffer, the mode
-- Yields M D D'       == definition 12: D yields D' in one move
-- Run M D D'          == D' is reached from D by moves
-- InLanguage M w      == definition 13: there is a run of M on w
use Rattle.std.specs.Prelude.{ℕ, zero, suc, ◌<◌, ◌≡◌, true, List, [], ◌∷◌, ◌++◌}
use Rattle.fsbm.specs.Machine.{initial, final, buffering, matching, transition_at}
use Rattle.fsbm.specs.declared.machine.Machine.{Machine}
use Rattle.fsbm.specs.declared.config.Mode.{Mode}
use Rattle.fsbm.specs.declared.config.Mode.TheVariants.{Normal, Buffering, Emptying}

-- definition 10: the states I (initial), F (final), G (must enter buffering mode) and H (require matching), and the transitions
pub record FSBM : Type 1 where
  pub I : ℕ → Type 0
  pub F : ℕ → Type 0
  pub G : ℕ → Type 0
  pub H : ℕ → Type 0
  pub δ : ℕ → ℕ → ℕ → Type 0

-- transition number k of a list of n goes from p by x to q
pub record Listed (list : List ℕ) (n p x q : ℕ) : Type 0 where
  pub number : ℕ
  pub listed : number < n
  pub from : (transition_at list number).from ≡ p
  pub letter : (transition_at list number).letter ≡ x
  pub to : (transition_at list number).to ≡ q

-- the machine that a table describes; only the states that are there can be initial
abbrev pub fsbm_of : Machine → List ℕ → FSBM
fsbm_of m list =
    record {
      I = λ q. (q < m.states) × (initial m.marks q ≡ true);
      F = λ q. final m.marks q ≡ true;
      G = λ q. buffering m.marks q ≡ true;
      H = λ q. matching m.marks q ≡ true;
      δ = Listed list m.transitions;
    }

-- definition 11
pub record Configuration : Type 0 where
  pub input : List ℕ
  pub state : ℕ
  pub buffer : List ℕ
  pub mode : Mode

abbrev pub config : List ℕ → ℕ → List ℕ → Mode → Configuration
config u q v t = record { input = u; state = q; buffer = v; mode = t }

-- the string of one letter, or of none for epsilon
abbrev pub symbol : ℕ → List ℕ
symbol zero = []
symbol (suc x) = suc x ∷ []

-- definition 12: one constructor a kind of move
pub data Yields (M : FSBM) : Configuration → Configuration → Type 0 where
  normal : {p x q : ℕ} {u : List ℕ} → M.δ p x q → (M.H p × M.H q → ⊥) → (M.G p → ⊥)
      → Yields M (config (symbol x ++ u) p [] Normal) (config u q [] Normal)
  buffer : {p x q : ℕ} {u v : List ℕ} → M.δ p x q → (M.H p × M.H q → ⊥) → (M.G q → ⊥)
      → Yields M (config (symbol x ++ u) p v Buffering) (config u q (v ++ symbol x) Buffering)
  empty : {p x q : ℕ} {u v : List ℕ} → M.δ p x q → M.H p → M.H q
      → Yields M (config (symbol x ++ u) p (symbol x ++ v) Emptying) (config u q v Emptying)
  begins_buffering : {q : ℕ} {u : List ℕ} → M.G q → Yields M (config u q [] Normal) (config u q [] Buffering)
  begins_emptying : {q : ℕ} {u v : List ℕ} → M.H q → Yields M (config u q v Buffering) (config u q v Emptying)
  returns_to_normal : {q : ℕ} {u : List ℕ} → M.H q → Yields M (config u q [] Emptying) (config u q [] Normal)

-- definition 13: a run of M on w is a sequence of configurations from (w, q₀, ε, N) with q₀ in I to (ε, q, ε, N) with q in F
pub data Run (M : FSBM) : Configuration → Configuration → Type 0 where
  done : {D : Configuration} → Run M D D
  more : {D D' D'' : Configuration} → Yields M D D' → Run M D' D'' → Run M D D''

pub record InLanguage (M : FSBM) (w : List ℕ) : Type 0 where
  pub first : ℕ
  pub last : ℕ
  pub first_initial : M.I first
  pub last_final : M.F last
  pub run : Run M (config w first [] Normal) (config [] last [] Normal)
