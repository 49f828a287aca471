use Rattle.std.proofs.Common.{ap, ◌∙◌}
use Rattle.exports.specs.Records.{machine_record}
use Rattle.exports.proofs.sheets.zagvirk_read_sheet.Goals as goal

pub returns : goal.returns
returns c = (c.from.ensures ∙ ap machine_record c.read_sheet.ensures.2, c.read_sheet.ensures.1)
