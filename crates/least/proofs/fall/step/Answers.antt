use native.Mathlib.Omega.{arith}
use mathlib.Core.Path.{sym, ◌∙◌}
use Rattle.stateset.specs.Set.{width}
use Rattle.stateset.specs.Set.Laws.{in_lt, has_in}
use Rattle.least.proofs.fall.step.Goals as goal

pub fall-requires : goal.fall-requires
fall-requires c = in_lt {w = width} {x = c.args.may} {q = c.from-to.result} (omega (arith, c.ranges.may)) ((has_in _ _).0 (sym c.member.ensures ∙ c.if-not-member.false))
