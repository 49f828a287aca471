use Rattle.std.proofs.Common.{ap, ◌∙◌}
use Rattle.exports.specs.Run.{checked_record}
use Rattle.exports.proofs.run.zagvirk_check_run.Goals as goal

pub returns : goal.returns
returns c = c.from.ensures ∙ ap checked_record c.check_run.ensures.1
