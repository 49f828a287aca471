use native.Mathlib.Omega.{arith}
use mathlib.Core.Path.{sym, ◌∙◌}
use Rattle.stateset.specs.Set.{width}
use Rattle.stateset.specs.Set.Laws.{in_lt, has_in}
use Rattle.blocks.specs.Gathered.Laws.{pick_adds}
use Rattle.blocks.proofs.gather.pick.Goals as goal

pub offset_bounds-p-t : goal.offset_bounds-p-t
offset_bounds-p-t c = omega (arith, in_lt {w = width} {x = c.args.may} {q = c.args.t} (omega (arith, c.ranges.may)) ((has_in _ _).0 (sym c.member.ensures ∙ c.if-not-member.false)))

pub bounds-p-t : goal.bounds-p-t
bounds-p-t c = omega (arith, in_lt {w = width} {x = c.args.may} {q = c.args.t} (omega (arith, c.ranges.may)) ((has_in _ _).0 (sym c.member.ensures ∙ c.if-not-member.false)))

pub returns-then-not-member-2 : goal.returns-then-not-member-2
returns-then-not-member-2 c =
    pick_adds _ _ _ _ _ (omega (arith, c.ranges.got)) (sym c.member.ensures ∙ c.if-not-member.false) (omega (arith, c.told-p, in_lt {w = width} {x = c.args.may} {q = c.args.t} (omega (arith, c.ranges.may)) ((has_in _ _).0 (sym c.member.ensures ∙ c.if-not-member.false)))) (sym c.member-2.ensures ∙ c.if-not-member-2.true) c.add.ensures
    (in_lt {w = width} {x = c.args.may} {q = c.args.t} (omega (arith, c.ranges.may)) ((has_in _ _).0 (sym c.member.ensures ∙ c.if-not-member.false)))

pub offset_bounds-p-t-2 : goal.offset_bounds-p-t-2
offset_bounds-p-t-2 c = omega (arith, in_lt {w = width} {x = c.args.may} {q = c.args.t} (omega (arith, c.ranges.may)) ((has_in _ _).0 (sym c.member.ensures ∙ c.if-not-member.false)))

pub bounds-p-t-2 : goal.bounds-p-t-2
bounds-p-t-2 c = omega (arith, in_lt {w = width} {x = c.args.may} {q = c.args.t} (omega (arith, c.ranges.may)) ((has_in _ _).0 (sym c.member.ensures ∙ c.if-not-member.false)))
