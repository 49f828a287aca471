use Rattle.std.proofs.Common.{arith}
use Rattle.fsbm.specs.Rules.{rules}
use Rattle.fsbm.proofs.table.Table.transition.Goals as goal

pub present_transition-requires : goal.present_transition-requires
present_transition-requires c = omega (arith, (rules _ _ c.args.self.now.obeys).list_fits, c.requires)
