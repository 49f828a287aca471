use Rattle.std.proofs.Common.{ap, ◌∙◌}
use Rattle.exports.specs.Records.{counted}
use Rattle.exports.proofs.sheets.zagvirk_write_sheet.Goals as goal

pub returns : goal.returns
returns c = (c.from.ensures ∙ ap counted c.write_sheet.ensures.2, c.write_sheet.ensures.1)
