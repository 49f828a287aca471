use Rattle.columns.proofs.Passes.{numbered}
use Rattle.columns.proofs.number.Goals as goal

pub returns : goal.returns
returns c = numbered c.args.bytes.now c.args.at c.args.width c.requires.1 _ _ c.pass.ensures c.number.ensures
