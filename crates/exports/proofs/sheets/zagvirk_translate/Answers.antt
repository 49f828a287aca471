use Rattle.std.proofs.Common.{ap, ◌∙◌}
use Rattle.exports.specs.Records.{counted}
use Rattle.exports.proofs.sheets.zagvirk_translate.Goals as goal

pub returns : goal.returns
returns c = (c.from.ensures ∙ ap counted c.translate.ensures.2, c.translate.ensures.1)
