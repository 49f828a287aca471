-- The least weights from a start while they are computed, a number a state, and what the loops over them do: they lower numbers and note
-- the states that they lower in a set. The laws stand in specs/Falls/Laws.antt.
--
-- Falls Made Bound d got d' got' == d' is d with numbers lowered, each of them noted in got'; Made q v says that q may be lowered to v, Bound q v that it is
--                             at most v then
-- Single q v             == v for q alone
-- Step list k may n      == n and the weight of transition k for the state that it enters, if that is in `may`
-- Steps list lo hi may n == the same for the transitions of lo, .., hi - 1
-- NormalFrom m list d q  == the number of q and the weight of a normal move from it, for the state that the move enters
-- End top z v            == v + 2 for z, if v is less than top
-- CopyEnds top b guess P     == for a state z with P: the number of (guess, z) in a block, if it is less than top, and 2 more
-- Enterable h q may      == the states that a normal move from q may enter
use Rattle.std.specs.Prelude.{ℕ, ◌+◌, ◌*◌, ◌^◌, ◌≤◌, ◌<◌, ◌≡◌, ◌⊎◌, ◌↔◌, List, length}
use Rattle.std.specs.Int.Count.{ones}
use Rattle.stateset.specs.Set.{width, In}
use Rattle.fsbm.specs.Machine.{transition_at}
use Rattle.fsbm.specs.Published.{fsbm_of}
use Rattle.fsbm.specs.declared.machine.Machine.{Machine}
use Rattle.pieces.specs.Pairs.{weigh, NormalMove}
use Rattle.pieces.specs.Blocks.{nothing, cell, cost_of}
use Rattle.blocks.specs.Numbers.{total}
pub mod Laws

pub record Falls (Made Bound : ℕ → ℕ → Type 0) (d : List ℕ) (got : ℕ) (d' : List ℕ) (got' : ℕ) : Type 0 where
  pub size : length d' ≡ length d
  pub fits : got' < 2 ^ width
  pub down : (q : ℕ) → cost_of d' q ≤ cost_of d q
  pub stays : (q : ℕ) → In got q → In got' q
  pub changed : (q : ℕ) → (cost_of d' q ≡ cost_of d q) ⊎ In got' q
  pub less : 3 * total d' + 2 * ones got' ≤ 3 * total d + 2 * ones got
  pub origin : (q : ℕ) → (cost_of d' q ≡ cost_of d q) ⊎ Made q (cost_of d' q)
  pub settled : (q v : ℕ) → Bound q v → cost_of d' q ≤ v

pub record Single (q v q' v' : ℕ) : Type 0 where
  pub state : q' ≡ q
  pub value : v' ≡ v

pub record Step (list : List ℕ) (k may n q v : ℕ) : Type 0 where
  pub enters : (transition_at list k).to ≡ q
  pub allowed : In may q
  pub value : v ≡ n + weigh (transition_at list k).letter

pub record Steps (list : List ℕ) (lo hi may n q v : ℕ) : Type 0 where
  pub number : ℕ
  pub from_on : lo ≤ number
  pub below : number < hi
  pub step : Step list number may n q v

pub record NormalFrom (m : Machine) (list d : List ℕ) (p q v : ℕ) : Type 0 where
  pub known : cost_of d p < nothing
  pub weight : ℕ
  pub move : NormalMove (fsbm_of m list) p q weight
  pub value : v ≡ weight + cost_of d p

pub record End (top z v z' v' : ℕ) : Type 0 where
  pub known : v < top
  pub single : Single z (v + 2) z' v'

pub record CopyEnds (top : ℕ) (b : List ℕ) (guess : ℕ) (P : ℕ → Type 0) (z v : ℕ) : Type 0 where
  pub holds : P z
  pub known : cell b guess z < top
  pub value : v ≡ cell b guess z + 2

abbrev pub Enterable : ℕ → ℕ → ℕ → Type 0
Enterable h q may = (p : ℕ) → In may p ↔ ((p < 64) × (In h q × In h p → ⊥))
