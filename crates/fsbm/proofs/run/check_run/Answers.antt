use Rattle.std.proofs.Common.{Bool, ◌∙◌, ap, Ok}
use Rattle.std.proofs.lemmas.Result.{err_from_is_err_and}
use Rattle.fsbm.specs.Answers.Laws.{handed_on, passed_ok, unless_done}
use Rattle.fsbm.proofs.AnswerCases.{check_says, table_good}
use Rattle.fsbm.proofs.run.check_run.Goals as goal

pub returns-in_err-table_and_word : goal.returns-in_err-table_and_word
returns-in_err-table_and_word c = check_says _ _ _ _ _ (handed_on _ (err_from_is_err_and c.from_residual.result c.from_residual.ensures.1) c.in_err-table_and_word.ensures _)

pub invariant_of-t : goal.invariant_of-t
invariant_of-t c = record { obeys = (table_good 1048576 c.args.m c.args.list.now c.args.word.now (passed_ok _ c.in_ok-table_and_word.ensures)).0 }

pub returns : goal.returns
returns c = check_says _ _ _ _ _ (ap (λ (b : Bool). Ok b) c.is_accepting_run.ensures ∙ unless_done _ _ (passed_ok _ c.in_ok-table_and_word.ensures))
