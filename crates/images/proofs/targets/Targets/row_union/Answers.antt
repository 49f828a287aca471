use Rattle.std.proofs.Common.{◌+◌}
use Rattle.images.proofs.SetCases.{members_is}
use Rattle.images.proofs.Sweeps.{swept_taken}
use Rattle.images.proofs.targets.Targets.row_union.Goals as goal

pub loop-p-preserved : goal.loop-p-preserved
loop-p-preserved c = (c.loop-p.invariant.0, c.loop-p.invariant.1, swept_taken _ _ c.loop-p.invariant.2 c.in-Some.ensures.steps (record { fits = c.args.self.now.fits (c.args.row + c.in-Some.p); members = λ q. (λ h. h, λ h. h) }) (members_is c.union-all.ensures))
