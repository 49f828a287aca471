use Rattle.std.proofs.Common.{sym, ◌∙◌, arith}
use Rattle.std.proofs.lemmas.Result.{err_from_is_err_and}
use Rattle.fsbm.proofs.AnswerCases.{table_good}
use Rattle.fsbm.specs.Answers.Laws.{passed_ok}
use Rattle.copies.specs.Copies.{longest_copied}
use Rattle.copies.proofs.CopyCases.{entries_fit, count_few, early, not_accepting, no_room, listed, copies_says}
use Rattle.copies.proofs.list_copies.Goals as goal

pub returns-in_err-table_and_word : goal.returns-in_err-table_and_word
returns-in_err-table_and_word c =
    let p = err_from_is_err_and c.from_residual.result c.from_residual.ensures.1 in
    rw (p.1, p.2) (copies_says c.args.m c.args.list.now c.args.word.now c.args.run.now c.args.copies.now _ _ (early c.args.m c.args.list.now c.args.word.now c.args.run.now c.args.copies.now _ c.in_err-table_and_word.ensures))

pub invariant_of-t : goal.invariant_of-t
invariant_of-t c = record { obeys = (table_good longest_copied c.args.m c.args.list.now c.args.word.now (passed_ok _ c.in_ok-table_and_word.ensures)).0 }

pub returns-then-not-is_accepting_run : goal.returns-then-not-is_accepting_run
returns-then-not-is_accepting_run c = copies_says c.args.m c.args.list.now c.args.word.now c.args.run.now c.args.copies.now _ _ (not_accepting c.args.m c.args.list.now c.args.word.now c.args.run.now c.args.copies.now c.in_ok-table_and_word.ensures (sym c.is_accepting_run.ensures ∙ c.if-not-is_accepting_run.true))

pub count_copies-count-requires : goal.count_copies-count-requires
count_copies-count-requires c = (entries_fit c.args.m c.args.list.now c.args.word.now c.args.run.now c.args.copies.now c.in_ok-table_and_word.ensures (sym c.is_accepting_run.ensures ∙ c.if-not-is_accepting_run.false)).1

pub overflow_mul-needed : goal.overflow_mul-needed
overflow_mul-needed c = omega (arith, count_few c.args.m c.args.list.now c.args.word.now c.args.run.now c.args.copies.now c.in_ok-table_and_word.ensures (sym c.is_accepting_run.ensures ∙ c.if-not-is_accepting_run.false) c.count_copies-count.result c.count_copies-count.ensures)

pub returns-then-copies-needed : goal.returns-then-copies-needed
returns-then-copies-needed c = copies_says c.args.m c.args.list.now c.args.word.now c.args.run.now c.args.copies.now _ _ (no_room c.args.m c.args.list.now c.args.word.now c.args.run.now c.args.copies.now c.in_ok-table_and_word.ensures (sym c.is_accepting_run.ensures ∙ c.if-not-is_accepting_run.false) c.count_copies-count.result c.count_copies-count.ensures c.if-copies-needed.true)

pub write_copies-requires : goal.write_copies-requires
write_copies-requires c = ((entries_fit c.args.m c.args.list.now c.args.word.now c.args.run.now c.args.copies.now c.in_ok-table_and_word.ensures (sym c.is_accepting_run.ensures ∙ c.if-not-is_accepting_run.false)).1, omega (arith, c.count_copies-count.ensures, c.if-copies-needed.false))

pub total_back-requires : goal.total_back-requires
total_back-requires c = (omega arith, count_few c.args.m c.args.list.now c.args.word.now c.args.run.now c.args.copies.now c.in_ok-table_and_word.ensures (sym c.is_accepting_run.ensures ∙ c.if-not-is_accepting_run.false) c.count_copies-count.result c.count_copies-count.ensures)

pub returns : goal.returns
returns c = copies_says c.args.m c.args.list.now c.args.word.now c.args.run.now c.args.copies.now _ _ (listed c.args.m c.args.list.now c.args.word.now c.args.run.now c.args.copies.now c.in_ok-table_and_word.ensures (sym c.is_accepting_run.ensures ∙ c.if-not-is_accepting_run.false) c.count_copies-count.result c.count_copies-count.ensures c.if-copies-needed.false _ c.write_copies.ensures c.total_back.result c.total_back.ensures)
