use mathlib.Core.Path.{refl, ◌∙◌}
use native.Mathlib.Omega.{arith}
use lib.ListN.{length-set}
use Rattle.basics.specs.Lists.Laws.{put_none, copied_more, copied}
use Rattle.stream.proofs.copy.Goals as goal

pub loop-i-init : goal.loop-i-init
loop-i-init c = (omega arith, put_none 0 c.args.out.now, refl)

pub bounds-out-i : goal.bounds-out-i
bounds-out-i c = omega arith

pub loop-i-preserved : goal.loop-i-preserved
loop-i-preserved c = (omega arith, copied_more c.args.bytes.now c.args.out.now c.loop-i.out c.loop-i.i c.requires c.loop-i.invariant.1 c.loop-i-test.true, length-set c.loop-i.out c.loop-i.i _ ∙ c.loop-i.invariant.2)

pub shape_of-out : goal.shape_of-out
shape_of-out c = c.loop-i.invariant.2

pub returns : goal.returns
returns c = copied c.args.bytes.now c.args.out.now c.loop-i.out c.loop-i.i c.requires c.loop-i.invariant.1 c.loop-i-test.false
