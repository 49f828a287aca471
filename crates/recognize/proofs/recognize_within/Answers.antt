use Rattle.std.proofs.Common.{sym, ◌∙◌, arith, ℕ}
use Rattle.std.proofs.lemmas.List.{length-replicate}
use Rattle.basics.specs.Lists.Laws.{zeros_at}
use Rattle.fsbm.proofs.AnswerCases.{table_good}
use Rattle.fsbm.specs.Rules.{rules as rules_of}
use Rattle.recognize.proofs.RecognizeCases.{says_no_lem, says_yes, fewest_front}
use Rattle.recognize.proofs.recognize_within.Goals as goal

pub kinds_of-kinds-requires : goal.kinds_of-kinds-requires
kinds_of-kinds-requires g c = (rules_of c.args.m c.args.list.now (table_good 255 c.args.m c.args.list.now c.args.word.now c.requires.0).0).states_fit

pub whole_as_slice-reach : goal.whole_as_slice-reach
whole_as_slice-reach g c = omega (arith, c.requires.3)

pub shared_whole_as_slice-write_run : goal.shared_whole_as_slice-write_run
shared_whole_as_slice-write_run g c = omega (arith, c.requires.3)

pub reach-reached-requires : goal.reach-reached-requires
reach-reached-requires g c = (c.requires.0, omega (arith, c.requires.2, length-replicate {A = ℕ} g.row.SETS 0), zeros_at g.row.SETS, c.kinds_of-kinds.ensures)

pub returns-then-not-reached : goal.returns-then-not-reached
returns-then-not-reached g c = says_no_lem c.args.m c.args.list.now c.args.word.now c.args.run.now c.requires.0 c.requires.1 (sym c.if-not-reached.true ∙ c.reach-reached.ensures.0)

pub invariant_of-t : goal.invariant_of-t
invariant_of-t g c = record { obeys = (table_good 255 c.args.m c.args.list.now c.args.word.now c.requires.0).0 }

pub write_run-requires : goal.write_run-requires
write_run-requires g c = ((table_good 255 c.args.m c.args.list.now c.args.word.now c.requires.0).1, sym c.reach-reached.ensures.0 ∙ c.if-not-reached.false, c.requires.1, c.kinds_of-kinds.ensures, c.reach-reached.ensures.2, c.reach-reached.ensures.1)

pub returns : goal.returns
returns g c =
    let written = fewest_front c.args.m c.args.list.now c.args.word.now c.args.run.now _ _ (sym c.reach-reached.ensures.0 ∙ c.if-not-reached.false) c.write_run.ensures in
    says_yes c.args.m c.args.list.now c.args.word.now c.args.run.now c.requires.0 c.requires.1 (sym (c.if-not-reached.false) ∙ c.reach-reached.ensures.0) _ c.write_run.result written.fits written.bounded written.front written.accepts
