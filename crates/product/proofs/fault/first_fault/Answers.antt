use Rattle.std.proofs.Common.{◌∙◌, ap, Err, arith}
use Rattle.std.proofs.lemmas.Result.{err_from_is_err_and}
use Rattle.fsbm.specs.declared.answer.Refusal.{Refusal}
use Rattle.product.proofs.FaultCases.{made_good, not_made, tables, bad_first, bad_second, not_plain, states_fit, letters_differ, many_states, many_transitions, counted_lem}
use Rattle.product.proofs.fault.first_fault.Goals as goal

pub returns-in_err-one : goal.returns-in_err-one
returns-in_err-one c =
    let p = err_from_is_err_and c.from_residual.result c.from_residual.ensures.1 in
    let n = not_made c.args.first c.args.first_list.now _ c.new.ensures c.in_err-one.ensures.value in
    p.1 ∙ (ap (λ (f : Refusal). Err f) (p.2 ∙ n.1) ∙ bad_first _ _ _ _ n.0)

pub returns-in_err-two : goal.returns-in_err-two
returns-in_err-two c =
    let p = err_from_is_err_and c.from_residual-in_err-two.result c.from_residual-in_err-two.ensures.1 in
    let n = not_made c.args.second c.args.second_list.now _ c.new-2.ensures c.in_err-two.ensures.value in
    p.1 ∙ (ap (λ (f : Refusal). Err f) (p.2 ∙ n.1) ∙ bad_second _ _ _ _ (made_good c.args.first c.args.first_list.now _ c.new.ensures c.in_ok-one.ensures.ok_part) n.0)

pub returns-then-not-is_plain : goal.returns-then-not-is_plain
returns-then-not-is_plain c = not_plain c.args.first c.args.first_list.now c.args.second c.args.second_list.now (tables c.args.first c.args.first_list.now c.args.second c.args.second_list.now c.new.ensures c.new-2.ensures c.in_ok-one.ensures.ok_part c.in_ok-two.ensures.ok_part) c.is_plain.ensures c.if-not-is_plain.true

pub returns-then-first-second : goal.returns-then-first-second
returns-then-first-second c = letters_differ c.args.first c.args.first_list.now c.args.second c.args.second_list.now (tables c.args.first c.args.first_list.now c.args.second c.args.second_list.now c.new.ensures c.new-2.ensures c.in_ok-one.ensures.ok_part c.in_ok-two.ensures.ok_part) c.is_plain.ensures c.if-not-is_plain.false c.if-first-second.true

pub overflow_mul-first : goal.overflow_mul-first
overflow_mul-first c = omega (arith, states_fit c.args.first c.args.first_list.now c.args.second c.args.second_list.now (tables c.args.first c.args.first_list.now c.args.second c.args.second_list.now c.new.ensures c.new-2.ensures c.in_ok-one.ensures.ok_part c.in_ok-two.ensures.ok_part))

pub returns-then-first-second-gt-MAX_STATES : goal.returns-then-first-second-gt-MAX_STATES
returns-then-first-second-gt-MAX_STATES c =
    many_states c.args.first c.args.first_list.now c.args.second c.args.second_list.now (tables c.args.first c.args.first_list.now c.args.second c.args.second_list.now c.new.ensures c.new-2.ensures c.in_ok-one.ensures.ok_part c.in_ok-two.ensures.ok_part) c.is_plain.ensures c.if-not-is_plain.false c.if-first-second.false
    c.if-first-second-gt-MAX_STATES.true

pub returns-then-transitions-gt-MAX_TRANSITIONS : goal.returns-then-transitions-gt-MAX_TRANSITIONS
returns-then-transitions-gt-MAX_TRANSITIONS c =
    many_transitions c.args.first c.args.first_list.now c.args.second c.args.second_list.now (tables c.args.first c.args.first_list.now c.args.second c.args.second_list.now c.new.ensures c.new-2.ensures c.in_ok-one.ensures.ok_part c.in_ok-two.ensures.ok_part) c.is_plain.ensures c.if-not-is_plain.false c.if-first-second.false
    c.if-first-second-gt-MAX_STATES.false c.count_joined-transitions.ensures c.if-transitions-gt-MAX_TRANSITIONS.true

pub returns : goal.returns
returns c =
    counted_lem c.args.first c.args.first_list.now c.args.second c.args.second_list.now (tables c.args.first c.args.first_list.now c.args.second c.args.second_list.now c.new.ensures c.new-2.ensures c.in_ok-one.ensures.ok_part c.in_ok-two.ensures.ok_part) c.is_plain.ensures c.if-not-is_plain.false c.if-first-second.false
    c.if-first-second-gt-MAX_STATES.false c.count_joined-transitions.ensures c.if-transitions-gt-MAX_TRANSITIONS.false
