use Prim.Native.Nat.{◌≤◌}
use native.Mathlib.Omega.{arith}
use native.Mathlib.Nat.{mul-le-mul}
use lib.ListN.{get_or}
use Rattle.fsbm.specs.Rules.{rules as rules_of}
use Rattle.product.proofs.FaultCases.{letter_few, count_is}
use Rattle.product.proofs.fault.count_joined.Goals as goal

pub sum_products-total-requires : goal.sum_products-total-requires
sum_products-total-requires c = let t = rules_of c.args.first.now.machine c.args.first.now.list.now c.args.first.now.obeys in let s = rules_of c.args.second.now.machine c.args.second.now.list.now c.args.second.now.obeys in record { letters_bound = t.letters_fit; by_index = λ x lt. (omega (arith, c.tally-a.ensures x lt, letter_few c.args.first.now.list.now c.args.first.now.machine.transitions x, t.transitions_fit), omega (arith, c.tally-b.ensures x lt, letter_few c.args.second.now.list.now c.args.second.now.machine.transitions x, s.transitions_fit)) }

pub overflow_mul-result : goal.overflow_mul-result
overflow_mul-result c = let t = rules_of c.args.first.now.machine c.args.first.now.list.now c.args.first.now.obeys in let s = rules_of c.args.second.now.machine c.args.second.now.list.now c.args.second.now.obeys in let few : get_or c.tally-a.result 0 0 ≤ 4000 = omega (arith, c.tally-a.ensures 0 (omega arith), letter_few c.args.first.now.list.now c.args.first.now.machine.transitions 0, t.transitions_fit) in omega (arith, mul-le-mul few s.states_fit)

pub overflow_add-result : goal.overflow_add-result
overflow_add-result c = let t = rules_of c.args.first.now.machine c.args.first.now.list.now c.args.first.now.obeys in let s = rules_of c.args.second.now.machine c.args.second.now.list.now c.args.second.now.obeys in let few : get_or c.tally-a.result 0 0 ≤ 4000 = omega (arith, c.tally-a.ensures 0 (omega arith), letter_few c.args.first.now.list.now c.args.first.now.machine.transitions 0, t.transitions_fit) in omega (arith, mul-le-mul few s.states_fit, c.sum_products-total.ensures.upper_bound, t.letters_fit)

pub returns : goal.returns
returns c = count_is c.args.first.now.machine c.args.first.now.list.now c.args.second.now.machine c.args.second.now.list.now c.tally-a.result c.tally-b.result (rules_of c.args.first.now.machine c.args.first.now.list.now c.args.first.now.obeys) c.tally-a.ensures c.tally-b.ensures c.sum_products-total.result c.sum_products-total.ensures.value
