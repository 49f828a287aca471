-- What the sets of the positions of a word promise to whoever asks which states its runs reach, or looks for a run along them.
--
-- NormalSets m list w sets == the set of each position of w has the states that runs reach there in normal mode, and no others
-- Empty sets               == 256 empty sets
use Rattle.std.specs.Prelude.{ℕ, ◌≤◌, ◌≡◌, true, List, length, get_or}
use Rattle.fsbm.specs.Reaches.{reaches}
use Rattle.fsbm.specs.declared.machine.Machine.{Machine}
use Rattle.fsbm.specs.declared.config.Mode.TheVariants.{Normal}
use Rattle.images.specs.Graph.{Members}

abbrev pub NormalSets : Machine → List ℕ → List ℕ → List ℕ → Type 0
NormalSets m list w sets = (p : ℕ) → p ≤ length w → Members (get_or sets p 0) (λ q. reaches m list w p Normal q ≡ true)

pub record Empty (sets : List ℕ) : Type 0 where
  pub size : length sets ≡ 256
  pub each : (k : ℕ) → get_or sets k 0 ≡ 0
