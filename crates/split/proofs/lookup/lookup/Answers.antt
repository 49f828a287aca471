use Prim.Native.Nat.{◌<◌, ◌≤◌, ◌-◌}
use Rattle.std.proofs.Common.{rules, arith}
use borrow.Author.Tests.{tests}
use Rattle.fsbm.specs.Machine.{transition_at}
use Rattle.fsbm.specs.Rules.{rules as rules_of}
use Rattle.product.specs.Tables.{order}
use Rattle.split.specs.Lookup.{key_of}
use Rattle.split.specs.Lookup.Laws.{some_past, past_is}
use Rattle.split.proofs.lookup.lookup.Goals as goal

pub overflow_sub-result : goal.overflow_sub-result
overflow_sub-result c =
    let holds : 0 < c.partition_point-past.result → order (transition_at c.args.t.now.list.now (c.partition_point-past.result - 1)) ≤ key_of c.args.p c.args.x c.args.q =
    λ z. let p = c.partition_point-past.ensures.holds z in search (rules, tests) in
    let fails : c.partition_point-past.result < c.args.t.now.machine.transitions → key_of c.args.p c.args.x c.args.q < order (transition_at c.args.t.now.list.now c.partition_point-past.result) =
    λ z. let p = c.partition_point-past.ensures.fails z in search (rules, tests) in
    some_past c.args.t.now.machine c.args.t.now.list.now c.args.p c.args.x c.args.q (rules_of _ _ c.args.t.now.obeys) c.requires c.partition_point-past.result c.partition_point-past.ensures.within holds fails

pub overflow_cast-result : goal.overflow_cast-result
overflow_cast-result c = omega (arith, c.partition_point-past.ensures.within, (rules_of _ _ c.args.t.now.obeys).transitions_fit)

pub returns : goal.returns
returns c =
    let holds : 0 < c.partition_point-past.result → order (transition_at c.args.t.now.list.now (c.partition_point-past.result - 1)) ≤ key_of c.args.p c.args.x c.args.q =
    λ z. let p = c.partition_point-past.ensures.holds z in search (rules, tests) in
    let fails : c.partition_point-past.result < c.args.t.now.machine.transitions → key_of c.args.p c.args.x c.args.q < order (transition_at c.args.t.now.list.now c.partition_point-past.result) =
    λ z. let p = c.partition_point-past.ensures.fails z in search (rules, tests) in
    past_is c.args.t.now.machine c.args.t.now.list.now c.args.p c.args.x c.args.q (rules_of _ _ c.args.t.now.obeys) c.requires c.partition_point-past.result c.partition_point-past.ensures.within holds fails
