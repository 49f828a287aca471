use Rattle.fsbm.specs.declared.config.Mode.TheVariants.{Buffering, Emptying}
use Rattle.images.specs.Graph.{Free}
use Rattle.images.specs.Moves.{graph_of}
use Rattle.images.proofs.SetCases.{members_is}
use Rattle.subsets.specs.Rows.Laws.{begun_from}
use Rattle.subsets.proofs.begun.Goals as goal

pub returns-in-Normal : goal.returns-in-Normal
returns-in-Normal c = rw c.in-Normal.is c.close_position.ensures

pub returns-in-Buffering : goal.returns-in-Buffering
returns-in-Buffering c = rw c.in-Buffering.is (begun_from c.args.set c.args.t.now.buffering _ c.close_set.result (Free (graph_of c.args.t.now) Buffering) (members_is c.intersection.ensures) (rw c.in-Buffering.is at c.close_set.ensures))

pub returns-in-Emptying : goal.returns-in-Emptying
returns-in-Emptying c = rw c.in-Emptying.is (begun_from c.args.set c.args.t.now.matching _ c.close_set-in-Emptying.result (Free (graph_of c.args.t.now) Emptying) (members_is c.intersection-in-Emptying.ensures) (rw c.in-Emptying.is at c.close_set-in-Emptying.ensures))
