-- The least candidate for each state of a set, as the loops of src/gather.rt collect it. The laws stand in specs/Gathered/Laws.antt.
--
-- Adding C p got p' got'  == p' has for each member of got' the least of the old number and the candidates; C t v says that v is a candidate for t
-- Pick may t v            == the candidate v for t, where t is a member of `may`
-- Reach list lo hi may v  == the candidate v for each member of `may` that a transition of lo, .., hi - 1 enters
-- Far list index top base may v w == v + w for each member of `may` that a transition of one state and letter enters, if v is less than top
-- Near top may t v        == v + 1 for t, if v is less than top
-- From list index top stride x w may b s P == for each member of `may` that a transition by x enters from a state t with P: the number of (s, t), if it is
--                            less than top, and w more
-- Stay top b s P          == for each state t with P: the number of (s, t), if it is less than top, and 1 more
use Rattle.std.specs.Prelude.{ℕ, ◌+◌, ◌*◌, ◌^◌, ◌≤◌, ◌<◌, ◌≡◌, ◌⊎◌, List, length, get_or}
use Rattle.stateset.specs.Set.{width, In}
use Rattle.pieces.specs.Blocks.{cell}
pub mod Laws

pub record Adding (C : ℕ → ℕ → Type 0) (p : List ℕ) (got : ℕ) (p' : List ℕ) (got' : ℕ) : Type 0 where
  pub size : length p' ≡ length p
  pub fits : got' < 2 ^ width
  pub grows : (t : ℕ) → In got t → In got' t × (get_or p' t 0 ≤ get_or p t 0)
  pub origin : (t : ℕ) → In got' t → (In got t × (get_or p' t 0 ≡ get_or p t 0)) ⊎ C t (get_or p' t 0)
  pub settled : (t v : ℕ) → C t v → In got' t × (get_or p' t 0 ≤ v)

pub record Pick (may t v t' v' : ℕ) : Type 0 where
  pub state : t' ≡ t
  pub allowed : In may t
  pub value : v' ≡ v

pub record Reach (list : List ℕ) (lo hi may v t v' : ℕ) : Type 0 where
  pub number : ℕ
  pub from_on : lo ≤ number
  pub below : number < hi
  pub enters : get_or list (number * 3 + 2) 0 ≡ t
  pub allowed : In may t
  pub value : v' ≡ v

-- the transitions from `base` on have the numbers from index[base] up to index[base + 1]
pub record Far (list index : List ℕ) (top base may v w t v' : ℕ) : Type 0 where
  pub known : v < top
  pub reach : Reach list (get_or index base 0) (get_or index (base + 1) 0) may (v + w) t v'

pub record From (list index : List ℕ) (top stride x w may : ℕ) (b : List ℕ) (s : ℕ) (P : ℕ → Type 0) (t v : ℕ) : Type 0 where
  pub source : ℕ
  pub holds : P source
  pub far : Far list index top (source * stride + x) may (cell b s source) w t v

pub record Near (top may t v t' v' : ℕ) : Type 0 where
  pub known : v < top
  pub pick : Pick may t (v + 1) t' v'

pub record Stay (top : ℕ) (b : List ℕ) (s : ℕ) (P : ℕ → Type 0) (t v : ℕ) : Type 0 where
  pub holds : P t
  pub known : cell b s t < top
  pub value : v ≡ cell b s t + 1
