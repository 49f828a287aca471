use Rattle.std.proofs.Common.{refl, arith}
use Rattle.std.proofs.lemmas.Result.{err_from_is_err_and}
use Rattle.fsbm.proofs.AnswerCases.{table_good}
use Rattle.fsbm.specs.Accepted.{run_bound}
use Rattle.fsbm.specs.Answers.Laws.{passed_ok}
use Rattle.fsbm.specs.Rules.{rules as rules_of}
use Rattle.targets.specs.Prepared.Laws.{product_small}
use Rattle.recognize.proofs.RecognizeCases.{needed_fits, refused_table, refused_slice}
use Rattle.recognize.proofs.recognize.Goals as goal

pub returns-in_err-table_and_word : goal.returns-in_err-table_and_word
returns-in_err-table_and_word c =
    let p = err_from_is_err_and c.from_residual.result c.from_residual.ensures.1 in
    rw (p.1, p.2) (refused_table c.args.m c.args.list.now c.args.word.now c.args.run.now _ c.in_err-table_and_word.ensures)

pub overflow_mul-needed : goal.overflow_mul-needed
overflow_mul-needed c = omega (arith, (rules_of c.args.m c.args.list.now (table_good 255 c.args.m c.args.list.now c.args.word.now (passed_ok _ c.in_ok-table_and_word.ensures)).0).states_fit)

pub overflow_mul-needed-2 : goal.overflow_mul-needed-2
overflow_mul-needed-2 c = let good = table_good 255 c.args.m c.args.list.now c.args.word.now (passed_ok _ c.in_ok-table_and_word.ensures) in omega (arith, needed_fits c.args.m c.args.list.now c.args.word.now good.0 good.1)

pub returns-then-room-needed : goal.returns-then-room-needed
unfolding run_bound
returns-then-room-needed c = refused_slice c.args.m c.args.list.now c.args.word.now c.args.run.now (passed_ok _ c.in_ok-table_and_word.ensures) _ refl c.if-room-needed.true

pub invariant_of-t : goal.invariant_of-t
invariant_of-t c = record { obeys = (table_good 255 c.args.m c.args.list.now c.args.word.now (passed_ok _ c.in_ok-table_and_word.ensures)).0 }

pub recognize_within-requires : goal.recognize_within-requires
unfolding run_bound
recognize_within-requires c = (passed_ok _ c.in_ok-table_and_word.ensures, c.if-room-needed.false, omega (arith, c.sets_of-sets.ensures, c.if-sets-le-SMALL.true), omega arith)

pub recognize_within-requires-then-sets-le-MEDIUM : goal.recognize_within-requires-then-sets-le-MEDIUM
unfolding run_bound
recognize_within-requires-then-sets-le-MEDIUM c = (passed_ok _ c.in_ok-table_and_word.ensures, c.if-room-needed.false, omega (arith, c.sets_of-sets.ensures, c.if-sets-le-MEDIUM.true), omega arith)

pub recognize_within-requires-2 : goal.recognize_within-requires-2
unfolding run_bound
recognize_within-requires-2 c =
    let r = rules_of c.args.m c.args.list.now (table_good 255 c.args.m c.args.list.now c.args.word.now (passed_ok _ c.in_ok-table_and_word.ensures)).0 in
    (passed_ok _ c.in_ok-table_and_word.ensures, c.if-room-needed.false, omega (arith, r.states_fit, product_small c.args.m.states c.args.m.letters r.states_fit r.letters_fit), omega arith)
