use Rattle.images.proofs.SetCases.{none_marked}
use Rattle.images.proofs.kinds_of.Goals as goal

pub loop-q-init : goal.loop-q-init
loop-q-init c =
    let z = c.default-kinds.ensures in (
      c.requires,
      record { initial = none_marked _ _ z.0; finals = none_marked _ _ z.1.0; buffering = none_marked _ _ z.1.1.0; matching = none_marked _ _ z.1.1.1 },
    )
