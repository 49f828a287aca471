use Rattle.std.proofs.Common.{arith}
use Rattle.copies.proofs.CopyCases.{counting_start, counting_position, counting_copy, counting_same, counting_end, kept_other, kept_empty, kept_copy}
use Rattle.copies.proofs.count_copies.Goals as goal
use Rattle.copies.proofs.count_copies.Goals.{then-entry+then-start-end, else-entry, else-entry-via-then-entry+else-start-end, else-entry-via-else-entry}

pub loop-i-init : goal.loop-i-init
loop-i-init c = counting_start c.args.t.now.machine.transitions c.args.t.now.list.now c.args.run.now c.requires

pub passed-s-requires : goal.passed-s-requires
passed-s-requires c = counting_position c.args.t.now.machine.transitions c.args.t.now.list.now c.args.run.now c.loop-i.invariant

pub overflow_add-count : goal.overflow_add-count
overflow_add-count c = omega (arith, c.loop-i.invariant.few, c.loop-i-test.true, c.well_formed)

pub loop-i-preserved : goal.loop-i-preserved
loop-i-preserved c =
    elim c.if-entry.branch [
      | then-entry+then-start-end w ↦ rw w.count-is (counting_copy c.args.t.now.machine.transitions c.args.t.now.list.now c.args.run.now c.loop-i.invariant c.passed-s.result c.passed-s.ensures c.loop-i-test.true (kept_copy c.args.t.now.machine.transitions c.args.t.now.list.now c.args.run.now c.loop-i.s c.passed-s.result c.loop-i.i c.passed-s.ensures c.loop-i-test.true w.if-entry.true w.if-start-end.true))
      | else-entry w ↦
          rw w.count-is (elim w.else-entry.branch [
            | else-entry-via-then-entry+else-start-end w' ↦ counting_same c.args.t.now.machine.transitions c.args.t.now.list.now c.args.run.now c.loop-i.invariant c.passed-s.result c.passed-s.ensures c.loop-i-test.true (kept_empty c.args.t.now.machine.transitions c.args.t.now.list.now c.args.run.now c.loop-i.s c.passed-s.result c.loop-i.i c.passed-s.ensures c.loop-i-test.true w'.if-entry.true w'.if-start-end.false)
            | else-entry-via-else-entry w' ↦ counting_same c.args.t.now.machine.transitions c.args.t.now.list.now c.args.run.now c.loop-i.invariant c.passed-s.result c.passed-s.ensures c.loop-i-test.true (kept_other c.args.t.now.machine.transitions c.args.t.now.list.now c.args.run.now c.loop-i.s c.passed-s.result c.loop-i.i c.passed-s.ensures c.loop-i-test.true w'.if-entry.false)
          ])
    ]

pub returns : goal.returns
returns c = counting_end c.args.t.now.machine.transitions c.args.t.now.list.now c.args.run.now c.loop-i.invariant c.loop-i-test.false
