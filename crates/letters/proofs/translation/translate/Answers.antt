use Rattle.std.proofs.Common.{sym, ◌∙◌}
use Rattle.letters.proofs.TranslationCases.{translate_broken, translate_says}
use Rattle.letters.proofs.translation.translate.Goals as goal

pub returns-then-not-is_good : goal.returns-then-not-is_good
returns-then-not-is_good c = translate_broken c.args.a c.args.bytes.now c.args.word.now (sym c.is_good.ensures ∙ c.if-not-is_good.true)

pub returns : goal.returns
returns c = translate_says c.args.a c.args.bytes.now c.args.word.now (sym c.is_good.ensures ∙ c.if-not-is_good.false) _ _ c.translate_by.ensures
