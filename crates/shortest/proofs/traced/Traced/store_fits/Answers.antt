use native.Mathlib.Omega.{arith}
use mathlib.Core.Path.{ap}
use Rattle.fsbm.specs.Rules.{rules as rules_of}
use Rattle.fsbm.specs.declared.machine.Transition.{Transition}
use Rattle.shortest.proofs.traced.Traced.store_fits.Goals as goal

pub number-requires : goal.number-requires
number-requires c = let T = rules_of _ _ c.args.self.now.searched.now.ready.good in let l = T.from_below c.args.k c.requires.0 in (omega (arith, c.from-then-u-eq0.ensures, ap (λ (t : Transition). t.from) c.transition-u.ensures, T.states_fit, l), c.requires.1)
