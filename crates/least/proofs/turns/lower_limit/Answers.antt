use native.Mathlib.Omega.{arith}
use mathlib.Core.Path.{sym, ◌∙◌, refl}
use Rattle.least.specs.Turns.Laws.{lowered_min}
use Rattle.least.proofs.turns.lower_limit.Goals as goal

pub returns : goal.returns
returns c = let a = c.saturating_add.ensures in let b = c.min.ensures in lowered_min (sym c.is_final.ensures ∙ c.if-not-is_final.false) c.requires refl (omega (arith, c.ranges.limit)) (omega arith)
