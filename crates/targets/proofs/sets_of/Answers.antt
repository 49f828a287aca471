use Prim.Native.Nat.{◌*◌, ◌≤◌}
use native.Mathlib.Omega.{arith}
use Rattle.fsbm.specs.Rules.{rules as rules_of}
use Rattle.fsbm.specs.declared.table.Table.{Table}
use Rattle.targets.specs.Prepared.Laws.{product_small}
use Rattle.targets.proofs.sets_of.Goals as goal

small : (t : Table) → (t.machine.states ≤ 64) × (t.machine.letters * t.machine.states ≤ 16000)
small t = let r = rules_of t.machine t.list.now t.obeys in (r.states_fit, product_small t.machine.states t.machine.letters r.states_fit r.letters_fit)

pub overflow_add-result : goal.overflow_add-result
overflow_add-result c = let z = small c.args.t.now in omega arith

pub overflow_mul-result : goal.overflow_mul-result
overflow_mul-result c = let z = small c.args.t.now in omega arith

pub overflow_add-result-2 : goal.overflow_add-result-2
overflow_add-result-2 c = let z = small c.args.t.now in omega arith

pub overflow_add-result-3 : goal.overflow_add-result-3
overflow_add-result-3 c = let z = small c.args.t.now in omega arith
