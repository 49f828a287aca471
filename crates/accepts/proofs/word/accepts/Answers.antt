use Rattle.std.proofs.Common.{Bool, ◌∙◌, ap, arith, Ok}
use Rattle.std.proofs.lemmas.Result.{err_from_is_err_and}
use Rattle.fsbm.proofs.AnswerCases.{table_good}
use Rattle.fsbm.specs.Answers.Laws.{handed_on, passed_ok, unless_done}
use Rattle.fsbm.specs.Rules.{rules as rules_of}
use Rattle.targets.specs.Prepared.Laws.{product_small}
use Rattle.accepts.proofs.DecisionCases.{says}
use Rattle.accepts.proofs.word.accepts.Goals as goal

pub returns-in_err-table_and_word : goal.returns-in_err-table_and_word
returns-in_err-table_and_word c = says c.args.m c.args.list.now c.args.word.now _ (handed_on _ (err_from_is_err_and c.from_residual.result c.from_residual.ensures.1) c.in_err-table_and_word.ensures _)

pub invariant_of-t : goal.invariant_of-t
invariant_of-t c = record { obeys = (table_good 255 c.args.m c.args.list.now c.args.word.now (passed_ok _ c.in_ok-table_and_word.ensures)).0 }

pub accepts_within-requires : goal.accepts_within-requires
accepts_within-requires c = (passed_ok _ c.in_ok-table_and_word.ensures, omega (arith, c.sets_of-sets.ensures, c.if-sets-le-SMALL.true), omega arith)

pub returns-then-sets-le-SMALL : goal.returns-then-sets-le-SMALL
returns-then-sets-le-SMALL c = says c.args.m c.args.list.now c.args.word.now _ (ap (λ (b : Bool). Ok b) c.accepts_within.ensures ∙ unless_done _ _ (passed_ok _ c.in_ok-table_and_word.ensures))

pub returns-then-sets-le-MEDIUM : goal.returns-then-sets-le-MEDIUM
returns-then-sets-le-MEDIUM c = says c.args.m c.args.list.now c.args.word.now _ (ap (λ (b : Bool). Ok b) c.accepts_within-then-sets-le-MEDIUM.ensures ∙ unless_done _ _ (passed_ok _ c.in_ok-table_and_word.ensures))

pub accepts_within-requires-2 : goal.accepts_within-requires-2
accepts_within-requires-2 c = let r = rules_of c.args.m c.args.list.now (table_good 255 c.args.m c.args.list.now c.args.word.now (passed_ok _ c.in_ok-table_and_word.ensures)).0 in (passed_ok _ c.in_ok-table_and_word.ensures, omega (arith, r.states_fit, product_small c.args.m.states c.args.m.letters r.states_fit r.letters_fit), omega arith)

pub returns : goal.returns
returns c = says c.args.m c.args.list.now c.args.word.now _ (ap (λ (b : Bool). Ok b) c.accepts_within-2.ensures ∙ unless_done _ _ (passed_ok _ c.in_ok-table_and_word.ensures))
