use Prim.Native.Nat.{◌-◌}
use native.Mathlib.Omega.{arith}
use Rattle.images.specs.Moves.{graph_of}
use Rattle.subsets.specs.Rows.Laws.{begun_image, reads_image}
use Rattle.subsets.proofs.image.Goals as goal

pub returns-then-column-eq0 : goal.returns-then-column-eq0
returns-then-column-eq0 c = begun_image (graph_of c.args.t.now) c.args.mode c.args.set c.begun.result c.args.column c.if-column-eq0.true c.begun.ensures

pub lettered-requires : goal.lettered-requires
lettered-requires c = (c.requires.1 (c.args.column - 1) (omega (arith, c.if-column-eq0.false)))

pub returns : goal.returns
returns c = reads_image (graph_of c.args.t.now) c.args.mode c.args.set c.lettered.result c.args.column (c.args.column - 1) (omega (arith, c.if-column-eq0.false)) c.lettered.ensures
