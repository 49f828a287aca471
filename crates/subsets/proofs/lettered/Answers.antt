use Rattle.fsbm.specs.declared.config.Mode.TheVariants.{Normal}
use Rattle.images.specs.Graph.{Edge}
use Rattle.images.specs.Moves.{graph_of}
use Rattle.subsets.specs.Rows.Laws.{reads_normal, reads_copying}
use Rattle.subsets.proofs.lettered.Goals as goal

pub returns-in-Normal : goal.returns-in-Normal
returns-in-Normal c = rw c.in-Normal.is (reads_normal c.args.x c.args.set c.read_set.result (Edge (graph_of c.args.t.now) Normal c.args.x) (rw c.in-Normal.is at c.read_set.ensures))

pub returns-in-Buffering : goal.returns-in-Buffering
returns-in-Buffering c = reads_copying (graph_of c.args.t.now) c.args.mode c.args.x c.args.set c.advance.result c.in-Buffering.is c.advance.ensures
