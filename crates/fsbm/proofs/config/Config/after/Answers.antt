use Rattle.fsbm.proofs.ConfigCases.{after_normal, after_buffering, after_emptying}
use Rattle.fsbm.specs.Moves.{after}
use Rattle.fsbm.proofs.config.Config.after.Goals as goal

pub returns-in-Normal : goal.returns-in-Normal
unfolding after
returns-in-Normal c = rw c.in-Normal.is (after_normal c.args.self c.args.t c.advance.result c.advance.ensures)

pub returns-in-Buffering : goal.returns-in-Buffering
unfolding after
returns-in-Buffering c = rw c.in-Buffering.is (after_buffering c.args.self c.args.t c.advance.result c.advance.ensures c.advance-in-Buffering.result c.advance-in-Buffering.ensures)

pub returns-in-Emptying : goal.returns-in-Emptying
unfolding after
returns-in-Emptying c = rw c.in-Emptying.is (after_emptying c.args.self c.args.t c.advance.result c.advance.ensures c.advance-in-Emptying.result c.advance-in-Emptying.ensures)
