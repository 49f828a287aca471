-- What a table is made ready for once, before its words are answered. The law stands in specs/Ready/Laws.antt.
--
-- Ready m list targets kinds == a table that obeys the rules, prepared for every word of its letters, and its kinds of states
-- Working m targets kinds rows steps sets == what is lent between two words: what is kept of the subset construction is right, and the sets are empty
use Rattle.std.specs.Prelude.{ℕ, ◌+◌, ◌≡◌, true, List}
use Rattle.fsbm.specs.Machine.{well_formed}
use Rattle.fsbm.specs.declared.machine.Machine.{Machine}
use Rattle.targets.specs.Prepared.{Whole}
use Rattle.images.specs.Graph.{graph, KindsOf}
use Rattle.images.specs.declared.Kinds.{Kinds}
use Rattle.subsets.specs.Rows.{Kept}
use Rattle.decide.specs.NormalSets.{Empty}
pub mod Laws

pub record Ready (m : Machine) (list targets : List ℕ) (kinds : Kinds) : Type 0 where
  pub good : well_formed m list ≡ true
  pub prepared : Whole m list targets
  pub sets : KindsOf m.marks m.states kinds

pub record Working (m : Machine) (targets : List ℕ) (kinds : Kinds) (rows steps sets : List ℕ) : Type 0 where
  pub kept : Kept (graph targets m.states kinds.buffering kinds.matching) (m.letters + 2) rows steps
  pub empty : Empty sets
