use Rattle.std.proofs.Common.{ap, ◌∙◌}
use Rattle.exports.specs.Records.{machine_record}
use Rattle.exports.proofs.products.zagvirk_join.Goals as goal

pub returns : goal.returns
returns c = record { answer = c.from.ensures ∙ ap machine_record c.join.ensures.values; written = c.join.ensures.written }
