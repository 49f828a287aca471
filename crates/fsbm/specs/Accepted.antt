-- Whether a table accepts a word, and how long a run it may take. The laws stand in specs/Accepted/Laws.antt.
--
-- run_bound m n         == 3 × (states of m) × (n + 1): some accepting run of a word of n letters, if there is one, is no longer
-- accepted m list w    == some run of m on w accepts
use Rattle.std.specs.Prelude.{ℕ, ◌+◌, ◌*◌, List, Bool, length}
use Rattle.basics.specs.Search.{exists_list}
use Rattle.fsbm.specs.Moves.{accepting}
use Rattle.fsbm.specs.declared.machine.Machine.{Machine}
pub mod Laws

-- the number of entries, the start state counted as one
unfoldable pub run_bound : Machine → ℕ → ℕ
run_bound m n = 3 * m.states * (n + 1)

-- a search through all runs of at most that many entries, each a 16-bit number. It is never computed.
pub accepted : Machine → List ℕ → List ℕ → Bool
accepted m list w = exists_list 65536 (run_bound m (length w)) (accepting m list w)
