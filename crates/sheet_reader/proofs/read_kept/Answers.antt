use Rattle.std.proofs.Common.{arith, length-take}
use Rattle.std.proofs.lemmas.Result.{err_from_is_err_and}
use Rattle.basics.specs.Lists.Laws.{put_none, copied_more, copied}
use Rattle.sheet_reader.proofs.ReadCases.{fault_state, fault_transition, fault_bytes, fault_none, list_copied, rest_fault_lem, rest_bytes, rest_short, rest_read}
use Rattle.sheet_reader.proofs.read_kept.Goals as goal

pub returns-in_err-read_states : goal.returns-in_err-read_states
returns-in_err-read_states g c =
    let p = err_from_is_err_and c.from_residual.result c.from_residual.ensures.1 in rw (p.1, p.2) (rest_fault_lem c.args.sheet.now c.args.list.now c.read_states.new.marks _ _ (fault_state c.args.sheet.now c.args.header c.requires.0 c.in_err-read_states.ensures.0) c.in_err-read_states.ensures.0 c.in_err-read_states.ensures.1)

pub returns-in_err-read_transitions : goal.returns-in_err-read_transitions
returns-in_err-read_transitions g c =
    let p = err_from_is_err_and c.from_residual-in_err-read_transitions.result c.from_residual-in_err-read_transitions.ensures.1 in rw (p.1, p.2) (rest_fault_lem c.args.sheet.now c.args.list.now c.read_states.new.marks _ _ (fault_transition c.args.sheet.now c.args.header c.requires.0 c.in_ok-read_states.ensures.0 c.in_err-read_transitions.ensures.0) c.in_err-read_transitions.ensures.0 c.in_err-read_transitions.ensures.1)

pub returns-then-end-sheet : goal.returns-then-end-sheet
returns-then-end-sheet g c = rest_bytes c.args.sheet.now c.args.list.now c.read_states.new.marks (fault_bytes c.args.sheet.now c.args.header c.requires.0 c.in_ok-read_states.ensures.0 c.in_ok-read_transitions.ensures.0 c.if-end-sheet.true)

pub returns-then-list-needed : goal.returns-then-list-needed
returns-then-list-needed g c = rest_short c.args.sheet.now c.args.list.now c.read_states.new.marks (fault_none c.args.sheet.now c.args.header c.requires.0 c.in_ok-read_states.ensures.0 c.in_ok-read_transitions.ensures.0 c.if-end-sheet.false) _ c.requires.0.transitions c.if-list-needed.true

pub loop-i-init : goal.loop-i-init
loop-i-init g c = put_none 0 _

pub loop-i-preserved : goal.loop-i-preserved
loop-i-preserved g c = rw c.from.ensures (copied_more _ c.args.list.now c.loop-i.list c.loop-i.i (simp length-take (omega arith)) c.loop-i.invariant c.loop-i-test.true)

pub returns : goal.returns
returns g c =
    rest_read c.args.sheet.now c.args.list.now c.read_states.new.marks (fault_none c.args.sheet.now c.args.header c.requires.0 c.in_ok-read_states.ensures.0 c.in_ok-read_transitions.ensures.0 c.if-end-sheet.false) _ c.requires.0.transitions _ c.loop-i.list c.if-list-needed.false c.requires.0.states c.in_ok-read_states.ensures.1
    (list_copied c.args.sheet.now c.args.header c.requires.0 _ _ c.args.list.now c.loop-i.list c.in_ok-read_transitions.ensures.1 (copied _ c.args.list.now c.loop-i.list c.loop-i.i (simp length-take (omega arith)) c.loop-i.invariant c.loop-i-test.false))
