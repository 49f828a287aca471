use Rattle.std.proofs.Common.{rules, sym, ◌∙◌, arith}
use Rattle.std.proofs.lemmas.Result.{err_from_is_err_and}
use Rattle.page.proofs.PageCases.{early, tested, not_accepting, no_room, laid, page_says}
use Rattle.page.proofs.write_page.Goals as goal

pub returns-in_err-fault : goal.returns-in_err-fault
returns-in_err-fault c = let p = err_from_is_err_and c.from_residual.result c.from_residual.ensures.1 in rw (p.1, p.2) (page_says c.args.m c.args.list.now c.args.word.now c.args.run.now c.args.page.now _ _ (early c.args.m c.args.list.now c.args.word.now c.args.run.now c.args.page.now _ c.in_err-fault.ensures))

pub invariant_of-t : goal.invariant_of-t
invariant_of-t c = record { obeys = (tested c.args.m c.args.list.now c.args.word.now c.args.run.now c.args.page.now c.in_ok-fault.ensures).0 }

pub overflow_mul-needed : goal.overflow_mul-needed
overflow_mul-needed c = omega (arith, (tested c.args.m c.args.list.now c.args.word.now c.args.run.now c.args.page.now c.in_ok-fault.ensures).2)

pub overflow_add-needed : goal.overflow_add-needed
overflow_add-needed c = omega (arith, (tested c.args.m c.args.list.now c.args.word.now c.args.run.now c.args.page.now c.in_ok-fault.ensures).2)

pub returns-then-not-accepts : goal.returns-then-not-accepts
returns-then-not-accepts c = page_says c.args.m c.args.list.now c.args.word.now c.args.run.now c.args.page.now _ _ (not_accepting c.args.m c.args.list.now c.args.word.now c.args.run.now c.args.page.now c.in_ok-fault.ensures (sym c.is_accepting_run-accepts.ensures ∙ c.if-not-accepts.true))

pub returns-then-page-needed : goal.returns-then-page-needed
returns-then-page-needed c = page_says c.args.m c.args.list.now c.args.word.now c.args.run.now c.args.page.now _ _ (no_room c.args.m c.args.list.now c.args.word.now c.args.run.now c.args.page.now c.in_ok-fault.ensures (sym c.is_accepting_run-accepts.ensures ∙ search rules) c.if-page-needed.true)

pub write_lines-requires : goal.write_lines-requires
write_lines-requires c = let t = tested c.args.m c.args.list.now c.args.word.now c.args.run.now c.args.page.now c.in_ok-fault.ensures in (t.1, t.2, (sym c.is_accepting_run-accepts.ensures ∙ c.if-not-accepts.false), c.if-page-needed.false)

pub returns : goal.returns
returns c = page_says c.args.m c.args.list.now c.args.word.now c.args.run.now c.args.page.now _ _ (laid c.args.m c.args.list.now c.args.word.now c.args.run.now c.args.page.now c.in_ok-fault.ensures (sym c.is_accepting_run-accepts.ensures ∙ c.if-not-accepts.false) c.if-page-needed.false _ c.write_lines.ensures)
