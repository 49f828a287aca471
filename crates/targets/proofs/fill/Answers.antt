use Rattle.fsbm.specs.Rules.{rules as rules_of}
use Rattle.targets.specs.Prepared.Laws.{made}
use native.Mathlib.Omega.{arith}
use Rattle.targets.proofs.fill.Goals as goal

pub sources-set-requires : goal.sources-set-requires
sources-set-requires c = ((rules_of c.args.t.now.machine c.args.t.now.list.now c.args.t.now.obeys).states_fit, omega (arith, c.fill_rows.ensures.room))

pub returns : goal.returns
returns c = made c.args.t.now.machine _ _ _ _ c.args.t.now.obeys c.fill_rows.ensures c.sources-set.ensures
