-- What `accepted` says: it is true exactly if some run within the bound accepts.
--
-- accepted_true   == accepted, if and only if a run of at most run_bound entries, each below 65536, accepts
use Rattle.std.specs.Prelude.{ℕ, ◌≤◌, ◌≡◌, ◌↔◌, true, List, length}
use Rattle.basics.specs.Search.{AllBelow}
use Rattle.basics.specs.Search.Laws.{exists_list_true}
use Rattle.fsbm.specs.Accepted.{accepted, run_bound}
use Rattle.fsbm.specs.Moves.{accepting}
use Rattle.fsbm.specs.declared.machine.Machine.{Machine}

module _ (m : Machine) (list w : List ℕ) where
  pub accepted_true : (accepted m list w ≡ true) ↔ ((run : List ℕ) × (length run ≤ run_bound m (length w)) × AllBelow 65536 run × (accepting m list w run ≡ true))
  unfolding accepted
  accepted_true = exists_list_true 65536 (run_bound m (length w)) (accepting m list w)
