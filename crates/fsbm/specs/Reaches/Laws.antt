-- What `reaches` says: it is true exactly if some written run within the bound leads there.
--
-- same_mode_law   == the test is equality
-- reaches_true   == reaches, if and only if a run of at most run_bound entries, each below 65536, leads there
use Rattle.std.specs.Prelude.{ℕ, ◌≤◌, ◌≡◌, ◌↔◌, true, List, length}
use Rattle.std.proofs.Common.{ap, eqb-true, eq-eqb}
use Rattle.basics.specs.Search.{AllBelow}
use Rattle.basics.specs.Search.Laws.{exists_list_true}
use Rattle.fsbm.specs.Moves.{mode_number}
use Rattle.fsbm.specs.Moves.Laws.{mode_same}
use Rattle.fsbm.specs.Accepted.{run_bound}
use Rattle.fsbm.specs.Reaches.{same_mode, leads, reaches}
use Rattle.fsbm.specs.declared.machine.Machine.{Machine}
use Rattle.fsbm.specs.declared.config.Mode.{Mode}

pub same_mode_law : (s t : Mode) → (same_mode s t ≡ true) ↔ (s ≡ t)
same_mode_law s t = (λ e. mode_same s t (eqb-true (mode_number s) (mode_number t) e), λ e. eq-eqb (mode_number s) (mode_number t) (ap mode_number e))

module _ (m : Machine) (list w : List ℕ) (p : ℕ) (t : Mode) (q : ℕ) where
  pub reaches_true : (reaches m list w p t q ≡ true) ↔ ((run : List ℕ) × (length run ≤ run_bound m (length w)) × AllBelow 65536 run × (leads m list w p t q run ≡ true))
  unfolding reaches
  reaches_true = exists_list_true 65536 (run_bound m (length w)) (leads m list w p t q)
