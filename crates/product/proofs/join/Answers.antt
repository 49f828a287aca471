use Rattle.std.proofs.Common.{◌∙◌, ap, sym, subst, Err, Result, arith}
use Rattle.std.proofs.lemmas.Result.{err_from_is_err_and}
use Rattle.fsbm.specs.declared.machine.Machine.{Machine}
use Rattle.fsbm.specs.declared.answer.Refusal.{Refusal}
use Rattle.product.specs.Product.{joined_count, join_fault}
use Rattle.fsbm.specs.Answers.Laws.{unless_ok, unless_err}
use Rattle.product.specs.Tables.{joinable}
use Rattle.product.proofs.JoinCases.{Joins, refused_fault, refused_room, long_enough, joins}
use Rattle.product.proofs.join.Goals as goal

pub returns-in_err-transitions : goal.returns-in_err-transitions
returns-in_err-transitions c =
    let p = err_from_is_err_and c.from_residual.result c.from_residual.ensures.1 in
    let n = unless_err _ _ c.in_err-transitions.ensures in
    let r =
    subst (λ (x : Result Machine Refusal). Joins c.args.first c.args.first_list.now c.args.second c.args.second_list.now c.args.list.now x c.args.list.now)
    (sym (p.1 ∙ ap (λ (f : Refusal). Err f) (p.2 ∙ n.1)))
    (refused_fault c.args.first c.args.first_list.now c.args.second c.args.second_list.now c.args.list.now n.0) in
    record { answer = r.answer; values = r.values; written = r.written }

pub overflow_mul-needed : goal.overflow_mul-needed
overflow_mul-needed c =
    let ok = unless_ok (join_fault c.args.first c.args.first_list.now c.args.second c.args.second_list.now) (joined_count c.args.first c.args.first_list.now c.args.second c.args.second_list.now) c.in_ok-transitions.ensures in
    omega (arith, (joinable c.args.first c.args.first_list.now c.args.second c.args.second_list.now ok.0).few_transitions, ok.1)

pub returns-then-list-needed : goal.returns-then-list-needed
returns-then-list-needed c =
    let ok = unless_ok _ _ c.in_ok-transitions.ensures in
    let r = refused_room c.args.first c.args.first_list.now c.args.second c.args.second_list.now c.args.list.now ok.0 _ ok.1 c.if-list-needed.true in
    record { answer = r.answer; values = r.values; written = r.written }

pub invariant_of-one : goal.invariant_of-one
invariant_of-one c = record { obeys = (joinable c.args.first c.args.first_list.now c.args.second c.args.second_list.now (unless_ok _ _ c.in_ok-transitions.ensures).0).good₁ }

pub invariant_of-two : goal.invariant_of-two
invariant_of-two c = record { obeys = (joinable c.args.first c.args.first_list.now c.args.second c.args.second_list.now (unless_ok _ _ c.in_ok-transitions.ensures).0).good₂ }

pub write_product-requires-clause-second_list_in_bounds : goal.write_product-requires-clause-second_list_in_bounds
write_product-requires-clause-second_list_in_bounds c =
    let ok = unless_ok _ _ c.in_ok-transitions.ensures in
    long_enough c.args.first c.args.first_list.now c.args.second c.args.second_list.now c.args.list.now ok.0 _ ok.1 c.if-list-needed.false

pub joined_marks-marks-requires : goal.joined_marks-marks-requires
joined_marks-marks-requires c = let j = joinable c.args.first c.args.first_list.now c.args.second c.args.second_list.now (unless_ok _ _ c.in_ok-transitions.ensures).0 in record { states_bound = j.few_states; le_states = j.second.some_state }

pub overflow_mul-result : goal.overflow_mul-result
overflow_mul-result c = omega (arith, (joinable c.args.first c.args.first_list.now c.args.second c.args.second_list.now (unless_ok _ _ c.in_ok-transitions.ensures).0).few_states)

pub returns : goal.returns
returns c =
    let ok = unless_ok _ _ c.in_ok-transitions.ensures in
    let r = joins c.args.first c.args.first_list.now c.args.second c.args.second_list.now c.args.list.now ok.0 _ ok.1 c.if-list-needed.false c.joined_marks-marks.result c.joined_marks-marks.ensures _ c.write_product.ensures in
    record { answer = r.answer; values = r.values; written = r.written }
