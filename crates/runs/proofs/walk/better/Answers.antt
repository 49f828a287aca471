use Rattle.std.proofs.Common.{arith}
use Rattle.fsbm.specs.Rules.{rules as rules_of}
use Rattle.runs.proofs.WalkCases.{start_keeps}
use Rattle.runs.proofs.walk.better.Goals as goal

pub offset_bounds-row-best : goal.offset_bounds-row-best
offset_bounds-row-best c = omega (arith, (c.requires.1.is_initial _ c.in-Some.is).0, (rules_of _ _ c.args.t.now.obeys).states_fit)

pub bounds-row-best : goal.bounds-row-best
bounds-row-best c = omega (arith, (c.requires.1.is_initial _ c.in-Some.is).0, (rules_of _ _ c.args.t.now.obeys).states_fit)

pub returns : goal.returns
returns c = rw (← c.in-Some.is) (start_keeps c.args.t.now.machine c.args.row.now _ _ c.requires.1 _ c.in-Some.is c.if-row-q.false)
