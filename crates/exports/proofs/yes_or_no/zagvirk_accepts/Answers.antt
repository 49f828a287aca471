use Rattle.std.proofs.Common.{ap, ◌∙◌}
use Rattle.exports.specs.YesOrNo.{decided_record}
use Rattle.exports.proofs.yes_or_no.zagvirk_accepts.Goals as goal

pub returns : goal.returns
returns c = c.from.ensures ∙ ap decided_record c.accepts.ensures.1
