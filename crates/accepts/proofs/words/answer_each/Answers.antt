use mathlib.Core.Path.{refl, ◌∙◌}
use native.Mathlib.Omega.{arith}
use Rattle.accepts.proofs.WordsCases.{answering_none, next_good, answering_more, answering_all}
use Rattle.accepts.proofs.words.answer_each.Goals as goal

pub loop-k-init : goal.loop-k-init
loop-k-init c = (answering_none c.args.m c.args.list.now c.args.letters.now c.args.ends.now c.args.answers.now c.requires.2, c.requires.1, refl, refl)

pub slice_bounds-word-count : goal.slice_bounds-word-count
slice_bounds-word-count c = let (a, b) = next_good c.args.m c.args.list.now c.args.letters.now c.args.ends.now c.args.answers.now c.loop-k.answers c.loop-k.from c.loop-k.k c.loop-k.invariant.0 c.loop-k-test.true c.requires.3 in omega (arith, a)

pub slice_bounds-word-start : goal.slice_bounds-word-start
slice_bounds-word-start c = let (a, b) = next_good c.args.m c.args.list.now c.args.letters.now c.args.ends.now c.args.answers.now c.loop-k.answers c.loop-k.from c.loop-k.k c.loop-k.invariant.0 c.loop-k-test.true c.requires.3 in omega (arith, a, b)

pub slice_bounds-word-end : goal.slice_bounds-word-end
slice_bounds-word-end c = let (a, b) = next_good c.args.m c.args.list.now c.args.letters.now c.args.ends.now c.args.answers.now c.loop-k.answers c.loop-k.from c.loop-k.k c.loop-k.invariant.0 c.loop-k-test.true c.requires.3 in omega (arith, a, b)

pub accepts_next-decided-requires : goal.accepts_next-decided-requires
accepts_next-decided-requires c = (c.requires.0, c.loop-k.invariant.1)

pub bounds-answers-k : goal.bounds-answers-k
bounds-answers-k c = omega (arith, c.loop-k.invariant.0.size, c.loop-k-test.true, c.requires.3)

pub loop-k-preserved : goal.loop-k-preserved
loop-k-preserved c = (answering_more c.args.m c.args.list.now c.args.letters.now c.args.ends.now c.args.answers.now c.loop-k.answers c.loop-k.from c.loop-k.k c.loop-k.invariant.0 c.loop-k-test.true c.requires.3 c.byte_of.result c.accepts_next-decided.result c.accepts_next-decided.ensures.0 c.byte_of.ensures, c.accepts_next-decided.ensures.1, c.rows-1.given ∙ c.loop-k.invariant.2, c.steps-1.given ∙ c.loop-k.invariant.3)

pub shape_of-rows : goal.shape_of-rows
shape_of-rows c = c.loop-k.invariant.2

pub shape_of-steps : goal.shape_of-steps
shape_of-steps c = c.loop-k.invariant.3

pub shape_of-answers : goal.shape_of-answers
shape_of-answers c = c.loop-k.invariant.0.size

pub returns : goal.returns
returns c = answering_all c.args.m c.args.list.now c.args.letters.now c.args.ends.now c.args.answers.now c.loop-k.answers c.loop-k.from c.loop-k.k c.loop-k.invariant.0 c.loop-k-test.false
