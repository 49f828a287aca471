use Rattle.std.proofs.Common.{sym, arith}
use Rattle.columns.specs.Held.Laws.{held_start}
use Rattle.columns.proofs.Passes.{so_far_fits, turned, column_narrow, passed}
use Rattle.columns.proofs.pass.Goals as goal

pub loop-b-init : goal.loop-b-init
loop-b-init c = sym held_start

pub next-held-requires : goal.next-held-requires
next-held-requires c = so_far_fits _ _ _ c.loop-b.invariant (column_narrow c.args.bytes.now c.args.at c.args.width c.requires.1 _ (omega arith))

pub loop-b-preserved : goal.loop-b-preserved
loop-b-preserved c = turned _ _ _ c.loop-b.invariant _ (omega arith) c.next-held.ensures

pub returns : goal.returns
returns c = passed c.args.bytes.now c.args.at c.args.width _ _ _ (omega arith) c.loop-b.invariant c.loop-b-test.false
