-- index_once == an index holds in one way only, so that a type can keep it
use Rattle.std.specs.Prelude.{ℕ, List}
use Rattle.std.proofs.Math.Bridge.{le_prop}
use native.Mathlib.Nat.{ℕ_set}
use Rattle.fsbm.specs.declared.machine.Machine.{Machine}
use Rattle.adjacency.specs.Index.{Index}

pub index_once : (m : Machine) (list first : List ℕ) → IsProp (Index m list first)
index_once m list first = hlevel (le_prop, ℕ_set)
