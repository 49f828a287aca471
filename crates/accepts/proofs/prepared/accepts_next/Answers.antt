use Rattle.std.proofs.Common.{Bool, ◌∙◌, ap, Ok}
use Rattle.std.proofs.lemmas.Result.{err_from_is_err_and}
use Rattle.fsbm.proofs.AnswerCases.{word_good}
use Rattle.fsbm.specs.Answers.Laws.{handed_on, passed_ok, unless_done}
use Rattle.accepts.proofs.DecisionCases.{word_says}
use Rattle.accepts.proofs.prepared.accepts_next.Goals as goal

pub returns-in_err-word_fault : goal.returns-in_err-word_fault
returns-in_err-word_fault c = (word_says c.args.m c.args.list.now c.args.word.now _ c.requires.0.good (handed_on _ (err_from_is_err_and c.from_residual.result c.from_residual.ensures.1) c.in_err-word_fault.ensures _), c.requires.1)

pub invariant_of-t : goal.invariant_of-t
invariant_of-t c = record { obeys = c.requires.0.good }

pub decide_next-requires : goal.decide_next-requires
decide_next-requires c = let (short, letters) = word_good 255 c.args.m.letters c.args.word.now (passed_ok _ c.in_ok-word_fault.ensures) in (short, c.requires.0.prepared c.args.word.now letters, c.requires.0.sets, c.requires.1.kept, c.requires.1.empty)

pub returns : goal.returns
returns c = (word_says c.args.m c.args.list.now c.args.word.now _ c.requires.0.good (ap (λ (b : Bool). Ok b) c.decide_next.ensures.0 ∙ unless_done _ _ (passed_ok _ c.in_ok-word_fault.ensures)), record { kept = c.decide_next.ensures.1; empty = c.decide_next.ensures.2 })
