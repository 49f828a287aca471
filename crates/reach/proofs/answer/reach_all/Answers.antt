use native.Mathlib.Omega.{arith}
use Rattle.basics.specs.Lists.Laws.{zeros_at}
use Rattle.fsbm.proofs.AnswerCases.{table_good}
use Rattle.fsbm.specs.Rules.{rules as rules_of}
use Rattle.targets.specs.Prepared.Laws.{product_small}
use Rattle.reach.proofs.answer.reach_all.Goals as goal

pub kinds_of-kinds-requires : goal.kinds_of-kinds-requires
kinds_of-kinds-requires c = (rules_of c.args.m c.args.list.now (table_good 255 c.args.m c.args.list.now c.args.word.now c.requires.0).0).states_fit

pub prepare_for-requires : goal.prepare_for-requires
prepare_for-requires c = ((table_good 255 c.args.m c.args.list.now c.args.word.now c.requires.0).2, omega (arith, (rules_of c.args.m c.args.list.now (table_good 255 c.args.m c.args.list.now c.args.word.now c.requires.0).0).states_fit, product_small c.args.m.states c.args.m.letters (rules_of c.args.m c.args.list.now (table_good 255 c.args.m c.args.list.now c.args.word.now c.requires.0).0).states_fit (rules_of c.args.m c.args.list.now (table_good 255 c.args.m c.args.list.now c.args.word.now c.requires.0).0).letters_fit), zeros_at 16130)

pub reach_prepared-requires : goal.reach_prepared-requires
reach_prepared-requires c = (c.requires.0, c.requires.1, c.prepare_for.ensures, c.kinds_of-kinds.ensures)

pub invariant_of-t : goal.invariant_of-t
invariant_of-t c = record { obeys = (table_good 255 c.args.m c.args.list.now c.args.word.now c.requires.0).0 }
