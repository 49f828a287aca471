use Rattle.std.proofs.Common.{ap, ◌∙◌}
use Rattle.exports.specs.Products.{copy_list_record}
use Rattle.exports.proofs.products.zagvirk_list_copies.Goals as goal

pub returns : goal.returns
returns c = record { answer = c.from.ensures ∙ ap copy_list_record c.list_copies.ensures.2; written = c.list_copies.ensures.1 }
