use Rattle.std.proofs.Common.{refl, sym, ap, ◌∙◌, arith}
use Rattle.fsbm.specs.Moves.{start_at}
use Rattle.page.specs.Page.Laws.{some_entry}
use Rattle.page.proofs.PageCases.{extends_next, follow_start, follow_placed, follow_ranges, follow_on, follow_here, follow_next, follow_end, laid_first, laid_end}
use Rattle.page.proofs.write_lines.Goals as goal

pub bounds-run-0 : goal.bounds-run-0
bounds-run-0 c = some_entry c.args.t.now.machine c.args.t.now.list.now c.args.word.now c.args.run.now c.args.t.now.obeys c.requires.2

pub write_entry-requires : goal.write_entry-requires
write_entry-requires c =
    let f = follow_start c.args.t.now.machine c.args.t.now.list.now c.args.word.now c.args.run.now c.args.t.now.obeys c.requires.2 c.start_at-c.result (c.start_at-c.ensures ∙ ap start_at c.from.ensures) (record { plain = 0; stored = 0 }) refl refl in
    let r = follow_ranges c.args.t.now.machine c.args.t.now.list.now c.args.word.now c.args.run.now c.args.t.now.obeys c.requires.2 f c.requires.0 in
    (omega (arith, f.within, c.requires.3), omega arith, r.0, r.1, r.2, r.3)

pub loop-i-init : goal.loop-i-init
loop-i-init c = (λ before same h. h, follow_start c.args.t.now.machine c.args.t.now.list.now c.args.word.now c.args.run.now c.args.t.now.obeys c.requires.2 c.start_at-c.result (c.start_at-c.ensures ∙ ap start_at c.from.ensures) (record { plain = 0; stored = 0 }) refl refl)

pub after_entry-next-requires : goal.after_entry-next-requires
after_entry-next-requires c = let r = follow_ranges c.args.t.now.machine c.args.t.now.list.now c.args.word.now c.args.run.now c.args.t.now.obeys c.requires.2 c.loop-i.invariant.1 c.requires.0 in (r.1, r.2, r.3)

pub write_entry-requires-in-loop-i : goal.write_entry-requires-in-loop-i
write_entry-requires-in-loop-i c =
    let r = follow_ranges c.args.t.now.machine c.args.t.now.list.now c.args.word.now c.args.run.now c.args.t.now.obeys c.requires.2 (follow_next c.args.t.now.machine c.args.t.now.list.now c.args.word.now c.args.run.now c.args.t.now.obeys c.requires.2 c.loop-i.invariant.1 c.loop-i-test.true c.after_entry-next.result (c.after_entry-next.ensures c.args.word.now) c.counted-tally.result c.counted-tally.ensures) c.requires.0 in
    (omega arith, omega arith, r.0, r.1, r.2, r.3)

pub counted-tally-requires : goal.counted-tally-requires
counted-tally-requires c = (follow_on c.args.t.now.machine c.args.t.now.list.now c.args.word.now c.args.run.now c.args.t.now.obeys c.requires.2 c.loop-i.invariant.1 c.loop-i-test.true c.after_entry-next.result (c.after_entry-next.ensures c.args.word.now), omega (arith, c.loop-i.invariant.1.few), omega (arith, c.loop-i.invariant.1.few))

pub loop-i-preserved : goal.loop-i-preserved
loop-i-preserved c =
    let f = follow_next c.args.t.now.machine c.args.t.now.list.now c.args.word.now c.args.run.now c.args.t.now.obeys c.requires.2 c.loop-i.invariant.1 c.loop-i-test.true c.after_entry-next.result (c.after_entry-next.ensures c.args.word.now) c.counted-tally.result c.counted-tally.ensures in (
      extends_next c.args.t.now.machine c.args.t.now.list.now c.args.word.now c.args.run.now c.write_entry.new.page c.loop-i.page c.write_entry-in-loop-i.new.page _ c.loop-i.i c.after_entry-next.result c.loop-i.invariant.0 (follow_here c.args.t.now.machine c.args.t.now.list.now c.args.word.now c.args.run.now c.loop-i.i f) refl c.write_entry-in-loop-i.ensures (omega arith),
      f,
    )

pub write_last-requires : goal.write_last-requires
write_last-requires c =
    let p = (follow_placed c.args.t.now.machine c.args.t.now.list.now c.args.word.now c.args.run.now c.args.t.now.obeys c.requires.2 c.loop-i.invariant.1).in_word in
    (omega arith, omega (arith, c.loop-i.invariant.1.few, p, c.requires.0), omega (arith, c.loop-i.invariant.1.few, p, c.requires.0), c.requires.0)

pub returns : goal.returns
returns c =
    let first = laid_first c.args.t.now.machine c.args.t.now.list.now c.args.word.now c.args.run.now c.args.page.now c.write_entry.new.page c.start_at-c.result (c.start_at-c.ensures ∙ ap start_at c.from.ensures) c.write_entry.ensures (omega (arith, c.requires.3, some_entry c.args.t.now.machine c.args.t.now.list.now c.args.word.now c.args.run.now c.args.t.now.obeys c.requires.2)) in
    laid_end c.args.t.now.machine c.args.t.now.list.now c.args.word.now c.args.run.now c.args.page.now c.loop-i.page c.write_last.new.page _ c.loop-i.i c.loop-i.tally (c.loop-i.invariant.0 c.args.page.now (sym c.write_entry.auto.page) first) c.loop-i.invariant.1.within c.loop-i-test.false (omega arith)
    (follow_end c.args.t.now.machine c.args.t.now.list.now c.args.word.now c.args.run.now c.args.t.now.obeys c.requires.2 c.loop-i.invariant.1 c.loop-i-test.false) c.write_last.ensures c.requires.3
