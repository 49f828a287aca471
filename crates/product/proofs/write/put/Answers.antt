use Rattle.basics.specs.Lists.Laws.{put_three}
use Rattle.product.proofs.write.put.Goals as goal

pub returns : goal.returns
returns c = put_three c.args.list.now c.args.k c.args.from c.args.letter c.args.to c.requires
