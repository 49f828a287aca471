use Rattle.fsbm.specs.Rules.{rules as rules_of}
use Rattle.basics.specs.Lists.Laws.{zeros_at}
use native.Mathlib.Omega.{arith}
use Rattle.targets.specs.Prepared.Laws.{product_small}
use Rattle.listing.proofs.list_prepared.Goals as goal

pub prepare-kinds-requires : goal.prepare-kinds-requires
prepare-kinds-requires c = let r = rules_of c.args.m c.args.list.now c.requires.list_value in (c.requires.list_value, omega (arith, r.states_fit, product_small c.args.m.states c.args.m.letters r.states_fit r.letters_fit), zeros_at 16130)
