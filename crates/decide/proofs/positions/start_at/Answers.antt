use mathlib.Core.Path.{refl}
use lib.ListN.{replicate}
use Rattle.basics.specs.Lists.Laws.{zeros_at}
use Rattle.decide.proofs.StageCases.{stage_start}
use native.Mathlib.Omega.{arith}
use Rattle.decide.proofs.positions.start_at.Goals as goal

pub returns : goal.returns
returns c = λ G w. stage_start G w _ (replicate 256 0) (record { size = refl; each = zeros_at 256 }) (omega arith)
