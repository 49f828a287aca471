use native.Mathlib.Omega.{arith}
use mathlib.Core.Path.{sym, ◌∙◌}
use Rattle.stateset.specs.Set.{width}
use Rattle.stateset.specs.Set.Laws.{in_lt, has_in}
use Rattle.blocks.proofs.numbers.Pairs.enter.Goals as goal

pub put-requires : goal.put-requires
put-requires c = in_lt {w = width} {x = c.args.may} {q = c.args.s} (omega (arith, c.ranges.may)) ((has_in _ _).0 (sym c.member.ensures ∙ c.if-not-member.false))
