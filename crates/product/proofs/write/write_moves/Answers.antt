use Rattle.fsbm.specs.Rules.{rules as rules_of}
use Rattle.product.proofs.WriteCases.{epsilon_is, epsilon_writes, letters_length, letters_write, letters_fit}
use lib.ListN.{length}
use native.Mathlib.Omega.{arith}
use mathlib.Core.Path.{ap}
use Rattle.product.proofs.write.write_moves.Goals as goal

pub overflow_cast-n : goal.overflow_cast-n
overflow_cast-n c = omega (arith, (rules_of _ _ c.args.second.now.table.now.obeys).states_fit)

pub put-requires : goal.put-requires
put-requires c = let e = epsilon_is c.args.second.now.table.now.machine.states c.args.second.now.table.now.machine.transitions c.args.second.now.table.now.list.now c.args.r c.args.t c.if-t-eq0.true in omega (arith, ap length e, c.requires.t_in_bounds)

pub returns-then-t-eq0 : goal.returns-then-t-eq0
returns-then-t-eq0 c = let answer = epsilon_writes c.args.second.now.table.now.machine.states c.args.second.now.table.now.machine.transitions c.args.second.now.table.now.list.now c.args.r c.args.t c.args.list.now _ c.args.at c.pair-from.result c.pair.result c.if-t-eq0.true c.pair-from.ensures c.pair.ensures c.put.ensures in record { list_after = answer.0; value = answer.1 }

pub write_letter-requires-clause-lo_in_bounds : goal.write_letter-requires-clause-lo_in_bounds
write_letter-requires-clause-lo_in_bounds c = (letters_fit c.args.second.now.table.now.machine.states c.args.second.now.table.now.machine.transitions c.args.second.now.table.now.list.now c.args.r c.args.t c.requires.moving c.if-t-eq0.false c.from.ensures c.from-2.ensures c.from-lo.ensures c.lower-hi.ensures c.args.list.now c.args.at c.pair-2.result c.pair-2.ensures c.requires.t_in_bounds).1.1

pub overflow_mul-result : goal.overflow_mul-result
overflow_mul-result c = let w = letters_length c.args.second.now.table.now.machine.states c.args.second.now.table.now.machine.transitions c.args.second.now.table.now.list.now c.args.r c.args.t c.requires.moving c.if-t-eq0.false c.from.ensures c.from-2.ensures c.from-lo.ensures c.lower-hi.ensures in omega (arith, w, c.requires.t_in_bounds, c.well_formed)

pub overflow_add-result-2 : goal.overflow_add-result-2
overflow_add-result-2 c = let w = letters_length c.args.second.now.table.now.machine.states c.args.second.now.table.now.machine.transitions c.args.second.now.table.now.list.now c.args.r c.args.t c.requires.moving c.if-t-eq0.false c.from.ensures c.from-2.ensures c.from-lo.ensures c.lower-hi.ensures in omega (arith, w, c.requires.t_in_bounds, c.well_formed)

pub returns : goal.returns
returns c = let answer = letters_write c.args.second.now.table.now.machine.states c.args.second.now.table.now.machine.transitions c.args.second.now.table.now.list.now c.args.r c.args.t c.requires.moving c.if-t-eq0.false c.from.ensures c.from-2.ensures c.from-lo.ensures c.lower-hi.ensures c.args.list.now _ c.args.at c.pair-from.result c.pair-2.result c.pair-from.ensures c.pair-2.ensures c.write_letter.ensures in record { list_after = answer.0; value = answer.1 }
