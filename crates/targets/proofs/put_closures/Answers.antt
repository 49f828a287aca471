use Rattle.images.proofs.SetCases.{members_is}
use Rattle.targets.specs.Prepared.Laws.{closing_good, closing_turn}
use Rattle.targets.proofs.put_closures.Goals as goal

pub new-t-requires : goal.new-t-requires
new-t-requires c = closing_good _ _ _ _ c.loop-p.invariant.0 _ _ c.loop-p.invariant.2 c.loop-p.invariant.1

pub loop-p-preserved : goal.loop-p-preserved
loop-p-preserved c =
    let closure = rw c.new-t.ensures at c.close_position-own.ensures in
    (c.loop-p.invariant.0, c.loop-p.invariant.1, closing_turn _ _ _ _ c.loop-p.invariant.0 _ _ c.loop-p.invariant.2 _ _ c.loop-p-test.true (members_is c.single-alone.ensures) closure)
