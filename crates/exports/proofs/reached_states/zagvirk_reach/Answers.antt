use Rattle.std.proofs.Common.{ap, ◌∙◌}
use Rattle.exports.specs.Records.{counted}
use Rattle.exports.proofs.reached_states.zagvirk_reach.Goals as goal

pub returns : goal.returns
returns c = (c.from.ensures ∙ ap counted c.reach.ensures.1, c.reach.ensures.2)
