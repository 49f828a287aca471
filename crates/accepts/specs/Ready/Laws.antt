-- The law of specs/Ready.antt.
--
-- working_start == before the first word: no row is taken, no step is kept, and the sets are empty
use Rattle.std.specs.Prelude.{ℕ, ◌+◌, ◌<◌, ◌≡◌, true, List, length, get_or}
use Rattle.std.proofs.Common.{arith}
use Rattle.fsbm.specs.Machine.{well_formed}
use Rattle.fsbm.specs.Rules.{rules}
use Rattle.fsbm.specs.declared.machine.Machine.{Machine}
use Rattle.images.specs.Graph.{graph}
use Rattle.images.specs.declared.Kinds.{Kinds}
use Rattle.subsets.specs.Rows.Laws.{kept_start}
use Rattle.accepts.specs.Ready.{Working}

pub working_start : (m : Machine) (list targets : List ℕ) (kinds : Kinds) (rows steps sets : List ℕ) → well_formed m list ≡ true → 0 < length rows → get_or rows 0 0 ≡ 1 → ((i : ℕ) → get_or steps i 0 ≡ 0)
    → length sets ≡ 256 → ((k : ℕ) → get_or sets k 0 ≡ 0) → Working m targets kinds rows steps sets
working_start m list targets kinds rows steps sets good some one none size each =
    record {
      kept = kept_start (graph targets m.states kinds.buffering kinds.matching) (m.letters + 2) rows steps (let l = (rules m list good).letters_fit in omega arith) some one none;
      empty = record { size = size; each = each };
    }
