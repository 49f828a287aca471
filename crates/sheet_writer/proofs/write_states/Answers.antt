use Rattle.std.proofs.Common.{◌∙◌, refl, arith}
use Rattle.basics.specs.Each.Laws.{each_none, each_more}
use Rattle.sheet.specs.Format.{state_line}
use Rattle.sheet.specs.Format.Laws.{state_wide}
use Rattle.sheet_writer.proofs.WriteCases.{state_piece}
use Rattle.sheet_writer.proofs.write_states.Goals as goal

pub loop-q-init : goal.loop-q-init
loop-q-init c = each_none 16 _ _

pub loop-q-preserved : goal.loop-q-preserved
loop-q-preserved c =
    each_more 11 16 (state_line c.args.t.now.machine.marks) (state_wide c.args.t.now.machine.marks) c.args.sheet.now c.loop-q.sheet c.write_state.new.sheet _ c.loop-q.q _ c.loop-q.invariant c.write_state.ensures (state_piece c.args.t.now.machine.marks c.loop-q.q c.from.result (c.from.ensures ∙ c.mark-mark.ensures)) refl (omega arith)
