use Rattle.std.proofs.Common.{sym, ◌∙◌, ap, arith}
use lib.Seq.{length-take-le}
use Rattle.fsbm.specs.Answers.Laws.{passed_ok}
use Rattle.fsbm.specs.Rules.{rules as rules_of}
use Rattle.accepts.specs.Decision.{decision}
use Rattle.lines.specs.Line.Laws.{short_line, turned_down, line_answered}
use Rattle.lines.specs.Steps.{as_byte, answer_of}
use Rattle.lines.proofs.LineCases.{as_byte_kept, as_byte_good}
use Rattle.lines.proofs.answer_line.Goals as goal

pub returns-in-Err : goal.returns-in-Err
returns-in-Err c = (c.answer_of.ensures ∙ turned_down c.args.m c.args.list.now c.args.line.now c.in-Err.refusal (sym c.in-Err.is ∙ c.read_word.ensures.refusal), c.requires.1)

pub slice_bounds-word-end : goal.slice_bounds-word-end
slice_bounds-word-end c = let s = short_line c.args.line.now (passed_ok _ (sym c.in_default.is ∙ c.read_word.ensures.refusal)) in omega (arith, c.read_word.auto.word)

pub slice_bounds-accepts_next-end : goal.slice_bounds-accepts_next-end
slice_bounds-accepts_next-end c =
    let s = short_line c.args.line.now (passed_ok _ (sym c.in_default.is ∙ c.read_word.ensures.refusal)) in
    sym (length-take-le _ c.read_word.new.word (omega (arith, c.read_word.auto.word)))

pub returns : goal.returns
returns c =
    let few = (rules_of c.args.m c.args.list.now c.requires.0.good).letters_fit in
    let numbers = passed_ok _ (sym c.in_default.is ∙ c.read_word.ensures.refusal) in
    let word_of = c.accepts_next-decided.ensures.0 ∙ ap (decision c.args.m c.args.list.now) (c.read_word.ensures.word_read numbers) in
    let answered = line_answered c.args.m c.args.list.now c.args.line.now c.requires.0.good numbers as_byte (as_byte_good c.args.m.letters few) (as_byte_kept c.args.m.letters few) in
    (c.answer_of-2.ensures ∙ (ap answer_of word_of ∙ answered), c.accepts_next-decided.ensures.1)
