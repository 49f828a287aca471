use Rattle.spelling.proofs.WordCases.{translate_says}
use Rattle.spelling.proofs.translate.Goals as goal

pub returns : goal.returns
returns c = translate_says c.args.bytes.now c.args.word.now _ _ c.translate_by.ensures
