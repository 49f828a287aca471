use Rattle.std.proofs.Common.{arith, ◌<◌, ◌+◌, length}
use lib.Seq.{lt-length-set}
use Rattle.copies.proofs.CopyCases.{writing_start, writing_position, writing_copy, writing_same, writing_end, copy_room, kept_other, kept_empty, kept_copy}
use Rattle.copies.proofs.write_copies.Goals as goal
use Rattle.copies.proofs.write_copies.Goals.{Then-stored-ne0, then-entry+then-stored-ne0, else-entry, else-entry-via-then-entry+else-stored-ne0, else-entry-via-else-entry}

-- at a copy with letters there is room for its two numbers
room : (c : Then-stored-ne0) → c.loop-i.k + 1 < length c.loop-i.copies
room c = copy_room c.args.t.now.machine.transitions c.args.t.now.list.now c.args.run.now c.loop-i.invariant c.passed-s.result c.passed-s.ensures c.loop-i-test.true (kept_copy c.args.t.now.machine.transitions c.args.t.now.list.now c.args.run.now c.loop-i.s c.passed-s.result c.loop-i.i c.passed-s.ensures c.loop-i-test.true c.if-entry.true (omega (arith, c.if-stored-ne0.true)))

pub loop-i-init : goal.loop-i-init
loop-i-init c = writing_start c.args.t.now.machine.transitions c.args.t.now.list.now c.args.run.now c.args.copies.now c.requires.0 c.requires.1

pub loop-i-preserved : goal.loop-i-preserved
loop-i-preserved c =
    elim c.if-entry.branch [
      | then-entry+then-stored-ne0 w ↦ rw (w.copies-is, w.k-is) (writing_copy c.args.t.now.machine.transitions c.args.t.now.list.now c.args.run.now c.loop-i.invariant c.passed-s.result c.passed-s.ensures c.loop-i-test.true (kept_copy c.args.t.now.machine.transitions c.args.t.now.list.now c.args.run.now c.loop-i.s c.passed-s.result c.loop-i.i c.passed-s.ensures c.loop-i-test.true w.if-entry.true (omega (arith, w.if-stored-ne0.true))))
      | else-entry w ↦
          rw (w.copies-is, w.k-is) (elim w.else-entry.branch [
            | else-entry-via-then-entry+else-stored-ne0 w' ↦ writing_same c.args.t.now.machine.transitions c.args.t.now.list.now c.args.run.now c.loop-i.invariant c.passed-s.result c.passed-s.ensures c.loop-i-test.true (kept_empty c.args.t.now.machine.transitions c.args.t.now.list.now c.args.run.now c.loop-i.s c.passed-s.result c.loop-i.i c.passed-s.ensures c.loop-i-test.true w'.if-entry.true (omega (arith, w'.if-stored-ne0.false)))
            | else-entry-via-else-entry w' ↦ writing_same c.args.t.now.machine.transitions c.args.t.now.list.now c.args.run.now c.loop-i.invariant c.passed-s.result c.passed-s.ensures c.loop-i-test.true (kept_other c.args.t.now.machine.transitions c.args.t.now.list.now c.args.run.now c.loop-i.s c.passed-s.result c.loop-i.i c.passed-s.ensures c.loop-i-test.true w'.if-entry.false)
          ])
    ]

pub passed-s-requires : goal.passed-s-requires
passed-s-requires c = writing_position c.args.t.now.machine.transitions c.args.t.now.list.now c.args.run.now c.loop-i.invariant

pub overflow_cast-copies : goal.overflow_cast-copies
overflow_cast-copies c = omega (arith, c.loop-i.invariant.forward, writing_position c.args.t.now.machine.transitions c.args.t.now.list.now c.args.run.now c.loop-i.invariant)

pub bounds-copies-k : goal.bounds-copies-k
bounds-copies-k c = omega (arith, room c)

pub overflow_cast-copies-then-stored-ne0 : goal.overflow_cast-copies-then-stored-ne0
overflow_cast-copies-then-stored-ne0 c = omega (arith, writing_position c.args.t.now.machine.transitions c.args.t.now.list.now c.args.run.now c.loop-i.invariant)

pub bounds-copies-k-then-stored-ne0 : goal.bounds-copies-k-then-stored-ne0
bounds-copies-k-then-stored-ne0 c = lt-length-set c.loop-i.copies c.loop-i.k _ (room c)

pub returns : goal.returns
returns c = writing_end c.args.t.now.machine.transitions c.args.t.now.list.now c.args.run.now c.loop-i.invariant c.loop-i-test.false
