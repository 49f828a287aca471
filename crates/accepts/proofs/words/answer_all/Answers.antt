use native.Mathlib.Omega.{arith}
use Rattle.basics.specs.Lists.Laws.{zeros_at}
use Rattle.fsbm.specs.Rules.{rules as rules_of}
use Rattle.targets.specs.Prepared.Laws.{product_small}
use Rattle.accepts.proofs.words.answer_all.Goals as goal

pub prepare-kinds-requires : goal.prepare-kinds-requires
prepare-kinds-requires c = let r = rules_of c.args.m c.args.list.now c.requires.0 in (c.requires.0, omega (arith, r.states_fit, product_small c.args.m.states c.args.m.letters r.states_fit r.letters_fit), zeros_at 16130)

pub answer_prepared-requires : goal.answer_prepared-requires
answer_prepared-requires c = (c.prepare-kinds.ensures, c.requires.1, c.requires.2)
