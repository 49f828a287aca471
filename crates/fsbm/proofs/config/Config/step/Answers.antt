use Rattle.std.proofs.Common.{refl, ◌∙◌, ap, Ok}
use Rattle.std.proofs.lemmas.Result.{err_from_is_err_and}
use Rattle.fsbm.specs.declared.config.Move.{Move}
use Rattle.fsbm.specs.Answers.Laws.{handed_on, passed_ok, unless_done}
use Rattle.fsbm.proofs.AnswerCases.{step_says}
use Rattle.fsbm.proofs.config.Config.step.Goals as goal

pub returns-in_err-table_and_word : goal.returns-in_err-table_and_word
returns-in_err-table_and_word c = step_says _ _ _ _ _ _ (handed_on _ (err_from_is_err_and c.from_residual.result c.from_residual.ensures.1) c.in_err-table_and_word.ensures _)

pub returns : goal.returns
returns c = step_says _ _ _ _ _ _ (ap (λ (v : Move). Ok v) (c.moved.ensures c.args.m refl refl refl) ∙ unless_done _ _ (passed_ok _ c.in_ok-table_and_word.ensures))
