use mathlib.Core.Path.{sym, ◌∙◌}
use Rattle.accepts.proofs.WordsCases.{refused_table, refused_ends, refused_slice, answered}
use Rattle.accepts.proofs.words.accept_words.Goals as goal

pub returns-then-not-is_well_formed : goal.returns-then-not-is_well_formed
returns-then-not-is_well_formed c = refused_table c.args.m c.args.list.now c.args.letters.now c.args.ends.now c.args.answers.now (sym c.is_well_formed.ensures ∙ c.if-not-is_well_formed.true)

pub returns-then-not-are_good : goal.returns-then-not-are_good
returns-then-not-are_good c = refused_ends c.args.m c.args.list.now c.args.letters.now c.args.ends.now c.args.answers.now (sym c.is_well_formed.ensures ∙ c.if-not-is_well_formed.false) (sym c.are_good.ensures ∙ c.if-not-are_good.true)

pub returns-then-answers-count : goal.returns-then-answers-count
returns-then-answers-count c = refused_slice c.args.m c.args.list.now c.args.letters.now c.args.ends.now c.args.answers.now (sym c.is_well_formed.ensures ∙ c.if-not-is_well_formed.false) (sym c.are_good.ensures ∙ c.if-not-are_good.false) c.if-answers-count.true

pub answer_all-requires : goal.answer_all-requires
answer_all-requires c = ((sym c.is_well_formed.ensures ∙ c.if-not-is_well_formed.false), (sym c.are_good.ensures ∙ c.if-not-are_good.false), c.if-answers-count.false)

pub returns : goal.returns
returns c = answered c.args.m c.args.list.now c.args.letters.now c.args.ends.now c.args.answers.now (sym c.is_well_formed.ensures ∙ c.if-not-is_well_formed.false) (sym c.are_good.ensures ∙ c.if-not-are_good.false) c.if-answers-count.false _ c.answer_all.ensures
