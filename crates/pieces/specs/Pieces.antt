-- A run from normal mode to normal mode in pieces: normal moves and whole copies. A copy begins storing, stores, begins matching, matches
-- what it has stored, and goes back to normal; its two halves read the same string. The laws stand in specs/Pieces/Laws.antt.
--
-- Stores M s x h k     == k moves in buffering mode lead from s to h and store x
-- Matches M t x z k    == k moves in emptying mode lead from t to z and match x
-- Leads M q w f k      == k moves, those that change the mode counted, lead from q to f and read w, in normal mode at both ends
use Rattle.std.specs.Prelude.{ℕ, zero, suc, ◌+◌, List, [], ◌++◌}
use Rattle.fsbm.specs.Published.{FSBM, symbol}
pub mod Laws

pub data Stores (M : FSBM) : ℕ → List ℕ → ℕ → ℕ → Type 0 where
  stored : {s : ℕ} → Stores M s [] s zero
  store : {s a t h k : ℕ} {x : List ℕ} → M.δ s a t → (M.H s × M.H t → ⊥) → (M.G t → ⊥) → Stores M t x h k → Stores M s (symbol a ++ x) h (suc k)

pub data Matches (M : FSBM) : ℕ → List ℕ → ℕ → ℕ → Type 0 where
  matched : {t : ℕ} → Matches M t [] t zero
  match : {s a t z k : ℕ} {x : List ℕ} → M.δ s a t → M.H s → M.H t → Matches M t x z k → Matches M s (symbol a ++ x) z (suc k)

-- a copy has three moves more than its two halves: the changes of mode
pub data Leads (M : FSBM) : ℕ → List ℕ → ℕ → ℕ → Type 0 where
  ended : {q : ℕ} → Leads M q [] q zero
  read : {p a q f k : ℕ} {w : List ℕ} → M.δ p a q → (M.H p × M.H q → ⊥) → (M.G p → ⊥) → Leads M q w f k → Leads M p (symbol a ++ w) f (suc k)
  copy : {g h z f i j k : ℕ} {x w : List ℕ} → M.G g → Stores M g x h i → M.H h → Matches M h x z j → M.H z → Leads M z w f k
      → Leads M g (x ++ (x ++ w)) f (suc (i + suc (j + suc k)))
