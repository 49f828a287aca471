-- The numbers of a block, one for each pair of states, and what the loops over them do: they lower numbers to candidates and mark what
-- they lower. The laws stand in specs/Numbers/Laws.antt.
--
-- total b                 == the sum of the numbers
-- marked d                == how many pairs are marked in d, which has a set of states for each row
-- HasMark d s t            == the pair (s, t) is marked
-- Steps b d b' d'         == b' and d' are b and d with numbers lowered, each of them marked, and no mark lost
-- Lowers C b d b' d'      == and what is lowered is lowered to a candidate, until none is less; C s t v says that v is a candidate at (s, t)
-- One s t v               == the candidate v at (s, t) alone
-- Put s P p               == in row s the numbers of p, for the states with P
-- Enter may got p s       == in row s the numbers of p for the members of got, where s is a member of `may`
-- Spread list lo hi may got p == the numbers of p for the members of got, in each row of `may` that a transition of lo, .., hi - 1 enters
use Rattle.std.specs.Prelude.{ℕ, zero, ◌+◌, ◌*◌, ◌≤◌, ◌<◌, ◌≡◌, ◌⊎◌, List, [], ◌∷◌, length, get_or}
use Rattle.std.specs.Int.Count.{ones}
use Rattle.stateset.specs.Set.{In}
use Rattle.pieces.specs.Blocks.{cell}
pub mod Laws

unfoldable pub total : List ℕ → ℕ
total [] = zero
total (x ∷ l) = x + total l

unfoldable pub marked : List ℕ → ℕ
marked [] = zero
marked (x ∷ l) = ones x + marked l

abbrev pub HasMark : List ℕ → ℕ → ℕ → Type 0
HasMark d s t = In (get_or d s 0) t

-- a block and its marks have their length
pub record Sized (b d : List ℕ) : Type 0 where
  pub numbers : length b ≡ 4096
  pub rows : length d ≡ 64

pub record Steps (b d b' d' : List ℕ) : Type 0 where
  pub size : length b' ≡ length b
  pub rows : length d' ≡ length d
  pub down : (s t : ℕ) → cell b' s t ≤ cell b s t
  pub stays : (s t : ℕ) → HasMark d s t → HasMark d' s t
  pub changed : (s t : ℕ) → (cell b' s t ≡ cell b s t) ⊎ HasMark d' s t
  pub falls : 2 * total b' + marked d' ≤ 2 * total b + marked d

pub record Lowers (C : ℕ → ℕ → ℕ → Type 0) (b d b' d' : List ℕ) : Type 0 where
  pub steps : Steps b d b' d'
  pub origin : (s t : ℕ) → (cell b' s t ≡ cell b s t) ⊎ C s t (cell b' s t)
  pub settled : (s t v : ℕ) → C s t v → cell b' s t ≤ v

pub record One (s t v s' t' v' : ℕ) : Type 0 where
  pub row : s' ≡ s
  pub column : t' ≡ t
  pub value : v' ≡ v

pub record Put (s : ℕ) (P : ℕ → Type 0) (p : List ℕ) (s' t v : ℕ) : Type 0 where
  pub row : s' ≡ s
  pub holds : P t
  pub value : v ≡ get_or p t 0

pub record Enter (may got : ℕ) (p : List ℕ) (s s' t v : ℕ) : Type 0 where
  pub allowed : In may s
  pub put : Put s (In got) p s' t v

pub record Spread (list : List ℕ) (lo hi may got : ℕ) (p : List ℕ) (s t v : ℕ) : Type 0 where
  pub number : ℕ
  pub from_on : lo ≤ number
  pub below : number < hi
  pub enters : get_or list (number * 3 + 2) 0 ≡ s
  pub allowed : In may s
  pub gathered : In got t
  pub value : v ≡ get_or p t 0
