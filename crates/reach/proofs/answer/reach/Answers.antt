use Rattle.std.proofs.Common.{arith}
use Rattle.std.proofs.lemmas.Result.{err_from_is_err_and}
use Rattle.fsbm.proofs.AnswerCases.{table_good}
use Rattle.fsbm.specs.Answers.Laws.{passed_ok}
use Rattle.reach.proofs.AnswerCases.{refused_input, refused_slice, written}
use Rattle.reach.proofs.answer.reach.Goals as goal

pub returns-in_err-table_and_word : goal.returns-in_err-table_and_word
returns-in_err-table_and_word c =
    let p = err_from_is_err_and c.from_residual.result c.from_residual.ensures.1 in
    rw (p.1, p.2) (refused_input c.args.m c.args.list.now c.args.word.now c.args.sets.now _ c.in_err-table_and_word.ensures)

pub overflow_add-word : goal.overflow_add-word
overflow_add-word c = omega (arith, (table_good 255 c.args.m c.args.list.now c.args.word.now (passed_ok _ c.in_ok-table_and_word.ensures)).1)

pub sets_before-needed-requires : goal.sets_before-needed-requires
sets_before-needed-requires c = omega (arith, (table_good 255 c.args.m c.args.list.now c.args.word.now (passed_ok _ c.in_ok-table_and_word.ensures)).1)

pub returns-then-sets-needed : goal.returns-then-sets-needed
returns-then-sets-needed c = refused_slice c.args.m c.args.list.now c.args.word.now c.args.sets.now (passed_ok _ c.in_ok-table_and_word.ensures) _ c.sets_before-needed.ensures c.if-sets-needed.true

pub reach_all-requires : goal.reach_all-requires
reach_all-requires c = (passed_ok _ c.in_ok-table_and_word.ensures, omega (arith, c.if-sets-needed.false, c.sets_before-needed.ensures))

pub returns : goal.returns
returns c = written c.args.m c.args.list.now c.args.word.now c.args.sets.now (passed_ok _ c.in_ok-table_and_word.ensures) _ c.sets_before-needed.ensures c.if-sets-needed.false _ c.reach_all.ensures
