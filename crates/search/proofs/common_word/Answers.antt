use Rattle.std.proofs.Common.{Option, Result, arith, ◌∙◌, replicate, subst, sym}
use Rattle.std.proofs.lemmas.Result.{err_from_is_err_and}
use Rattle.fsbm.specs.declared.answer.Refusal.{Refusal}
use Rattle.common.specs.Common.{CommonWord}
use Rattle.common.specs.declared.Lengths.{Lengths}
use Rattle.found.proofs.SearchCases.{join_refuses, join_gives, fault}
use Rattle.search.proofs.common_word.Goals as goal

pub returns-in_err-m : goal.returns-in_err-m
returns-in_err-m c =
    let p = err_from_is_err_and c.from_residual.result c.from_residual.ensures.1 in
    let r = join_refuses c.args.first c.args.first_list.now c.args.second c.args.second_list.now (replicate 12000 0) (omega arith) c.in_err-m.ensures.answer in
    subst
    (λ (x : Result (Option Lengths) Refusal). CommonWord c.args.first c.args.first_list.now c.args.second c.args.second_list.now c.args.word.now c.args.word.now c.args.first_run.now c.args.first_run.now c.args.second_run.now c.args.second_run.now x)
    (sym p.1)
    (fault c.args.first c.args.first_list.now c.args.second c.args.second_list.now c.args.word.now c.args.first_run.now c.args.second_run.now _ (p.2 ∙ r.0) r.1)

pub search-requires : goal.search-requires
search-requires c =
    join_gives c.args.first c.args.first_list.now c.args.second c.args.second_list.now (replicate 12000 0) (omega arith) c.in_ok-m.ensures.answer c.in_ok-m.ensures.values c.in_ok-m.ensures.written
