use Rattle.std.proofs.Common.{sym, ap, ◌∙◌}
use Rattle.fsbm.specs.Answers.{passed}
use Rattle.page.proofs.PageCases.{fault_word}
use Rattle.page.proofs.fault.Goals as goal

pub returns : goal.returns
returns c =
    c.word_fault.ensures
    ∙ ap passed (fault_word c.args.m c.args.list.now c.args.word.now c.args.run.now (sym c.is_well_formed.ensures ∙ c.if-not-is_well_formed.false) c.if-run-gt-LONGEST_RUN.false)
