use Rattle.std.proofs.Common.{ap, ◌∙◌}
use Rattle.exports.specs.Records.{counted}
use Rattle.exports.proofs.yes_or_no.zagvirk_accept_words.Goals as goal

pub returns : goal.returns
returns c = (c.from.ensures ∙ ap counted c.accept_words.ensures.1, c.accept_words.ensures.2)
