use Rattle.std.proofs.Common.{refl, arith}
use Rattle.basics.specs.Each.Laws.{each_none, each_more}
use Rattle.sheet.specs.Format.{transition_line}
use Rattle.sheet.specs.Format.Laws.{transition_wide}
use Rattle.sheet_writer.proofs.WriteCases.{transition_short, transition_piece}
use Rattle.sheet_writer.proofs.write_transitions.Goals as goal

pub loop-k-init : goal.loop-k-init
loop-k-init c = each_none _ _ _

pub write_three-requires : goal.write_three-requires
write_three-requires c =
    let s = transition_short c.args.t.now.list.now c.loop-k.k _ c.transition-s.ensures _ _ _ c.from.ensures c.from-in-loop-k.ensures c.from-in-loop-k-2.ensures c.args.t.now.machine c.args.t.now.obeys c.loop-k-test.true in (omega arith, s.0, s.1, s.2)

pub loop-k-preserved : goal.loop-k-preserved
loop-k-preserved c =
    each_more 16 c.args.start (transition_line c.args.t.now.list.now) (transition_wide c.args.t.now.list.now) c.args.sheet.now c.loop-k.sheet c.write_three.new.sheet _ c.loop-k.k _ c.loop-k.invariant c.write_three.ensures
    (transition_piece c.args.t.now.list.now c.loop-k.k _ c.transition-s.ensures _ _ _ c.from.ensures c.from-in-loop-k.ensures c.from-in-loop-k-2.ensures)
    refl (omega arith)
