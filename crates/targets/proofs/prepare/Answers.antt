use Rattle.fsbm.specs.Rules.{rules as rules_of}
use Rattle.targets.specs.Prepared.Laws.{made_good, made_whole}
use native.Mathlib.Omega.{arith}
use mathlib.Core.Bool.{true, false}
use lib.ListN.{get_or-replicate}
use Rattle.targets.proofs.prepare.Goals as goal

pub close_states-requires : goal.close_states-requires
close_states-requires c = (made_good c.args.t.now.machine _ _ _ _ _ c.args.t.now.obeys c.fill.ensures, c.fill.ensures.none_closed)

pub returns : goal.returns
returns c = (made_whole c.args.t.now.machine _ _ _ _ _ c.requires.2 c.fill.ensures c.close_states.ensures (λ x le. get_or-replicate 256 x true false (omega (arith, (rules_of c.args.t.now.machine c.args.t.now.list.now c.args.t.now.obeys).letters_fit))), c.close_states.ensures.all)
