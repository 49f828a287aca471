use Rattle.std.proofs.Common.{ap, ◌∙◌}
use Rattle.exports.specs.Records.{counted}
use Rattle.exports.proofs.pages.zagvirk_write_page.Goals as goal

pub returns : goal.returns
returns c = record { answer = c.from.ensures ∙ ap counted c.write_page.ensures.2; written = c.write_page.ensures.1 }
