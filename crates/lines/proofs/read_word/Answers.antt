use Rattle.std.proofs.Common.{refl, sym, ◌∙◌, arith, length, ◌/◌}
use Rattle.fsbm.specs.Answers.{refusal}
use Rattle.lines.specs.Line.{letter_at}
use Rattle.lines.proofs.LineCases.{read_none, read_stops, read_more, word_refused, word_taken, fault_long, fault_part, fault_column}
use Rattle.lines.proofs.read_word.Goals as goal

pub returns-then-line-gt-LONGEST : goal.returns-then-line-gt-LONGEST
unfolding refusal
returns-then-line-gt-LONGEST c = word_refused c.args.line.now 9 c.args.word.now (omega arith) (fault_long c.args.line.now c.if-line-gt-LONGEST.true) _ refl

pub returns-then-line-ne0 : goal.returns-then-line-ne0
unfolding refusal
returns-then-line-ne0 c = word_refused c.args.line.now 2 c.args.word.now (omega arith) (fault_part c.args.line.now c.if-line-gt-LONGEST.false c.if-line-ne0.true) _ refl

pub loop-k-init : goal.loop-k-init
loop-k-init c = read_none c.args.line.now (length c.args.line.now / 5) c.args.word.now c.requires

pub bounds-word-k : goal.bounds-word-k
bounds-word-k c = omega (arith, c.loop-k.invariant.room, c.loop-k-test.true, c.if-line-gt-LONGEST.false)

pub loop-k-preserved : goal.loop-k-preserved
unfolding letter_at
loop-k-preserved c = read_more c.args.line.now (length c.args.line.now / 5) c.loop-k.word c.loop-k.k c.loop-k.invariant c.loop-k-test.true c.in-Some.v (sym c.in-Some.is ∙ c.number.ensures) (omega (arith, c.if-line-gt-LONGEST.false)) c.byte.result c.byte.ensures

pub returns-in_default : goal.returns-in_default
unfolding refusal letter_at
returns-in_default c =
    let none = read_stops c.args.line.now (length c.args.line.now / 5) c.loop-k.word c.loop-k.k c.loop-k.invariant c.loop-k-test.true (sym c.in_default.is ∙ c.number.ensures) in
    word_refused c.args.line.now 2 c.loop-k.word (omega arith) (fault_column c.args.line.now c.if-line-gt-LONGEST.false c.if-line-ne0.false none) _ refl

pub returns : goal.returns
returns c = word_taken c.args.line.now c.loop-k.word c.loop-k.k c.loop-k.invariant c.loop-k-test.false c.if-line-gt-LONGEST.false c.if-line-ne0.false
