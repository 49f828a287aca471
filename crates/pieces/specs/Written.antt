-- What stands in the caller's slices while a run is written piece by piece from its end: pieces of a run with their entries. The laws
-- stand in specs/Written/Laws.antt.
--
-- Takes m list e p a q == entry e is the number of the transition from p by a to q
-- StoresBy m list s x es h == the entries es lead from s to h in buffering mode and store x
-- MatchesBy m list t x es z == the entries es lead from t to z in emptying mode and match x
-- LeadsBy m list q w es f == the entries es lead from q to f and read w, in normal mode at both ends
use Rattle.std.specs.Prelude.{ℕ, ◌<◌, ◌≡◌, List, [], ◌∷◌, ◌++◌}
use Rattle.fsbm.specs.Machine.{transition_at}
use Rattle.fsbm.specs.Moves.{begin_buffering, begin_emptying, back_to_normal}
use Rattle.fsbm.specs.Published.{fsbm_of, symbol}
use Rattle.fsbm.specs.declared.machine.Machine.{Machine}
pub mod Laws

pub record Takes (m : Machine) (list : List ℕ) (e p a q : ℕ) : Type 0 where
  pub listed : e < m.transitions
  pub from : (transition_at list e).from ≡ p
  pub letter : (transition_at list e).letter ≡ a
  pub to : (transition_at list e).to ≡ q

pub data StoresBy (m : Machine) (list : List ℕ) : ℕ → List ℕ → List ℕ → ℕ → Type 0 where
  stored : {s : ℕ} → StoresBy m list s [] [] s
  store : {e s a t h : ℕ} {x es : List ℕ} → Takes m list e s a t → ((fsbm_of m list).H s × (fsbm_of m list).H t → ⊥) → ((fsbm_of m list).G t → ⊥) → StoresBy m list t x es h
      → StoresBy m list s (symbol a ++ x) (e ∷ es) h

pub data MatchesBy (m : Machine) (list : List ℕ) : ℕ → List ℕ → List ℕ → ℕ → Type 0 where
  matched : {t : ℕ} → MatchesBy m list t [] [] t
  match : {e s a t z : ℕ} {x es : List ℕ} → Takes m list e s a t → (fsbm_of m list).H s → (fsbm_of m list).H t → MatchesBy m list t x es z
      → MatchesBy m list s (symbol a ++ x) (e ∷ es) z

pub data LeadsBy (m : Machine) (list : List ℕ) : ℕ → List ℕ → List ℕ → ℕ → Type 0 where
  ended : {q : ℕ} → LeadsBy m list q [] [] q
  read : {e p a q f : ℕ} {w es : List ℕ} → Takes m list e p a q → ((fsbm_of m list).H p × (fsbm_of m list).H q → ⊥) → ((fsbm_of m list).G p → ⊥) → LeadsBy m list q w es f
      → LeadsBy m list p (symbol a ++ w) (e ∷ es) f
  copy : {g h z f : ℕ} {x w es ds rest : List ℕ} → (fsbm_of m list).G g → StoresBy m list g x es h → (fsbm_of m list).H h → MatchesBy m list h x ds z → (fsbm_of m list).H z
      → LeadsBy m list z w rest f
      → LeadsBy m list g (x ++ (x ++ w)) (begin_buffering ∷ (es ++ (begin_emptying ∷ (ds ++ (back_to_normal ∷ rest))))) f
