use Prim.Native.Nat.{ℕ}
use mathlib.Core.Path.{sym, subst}
use Rattle.images.specs.Graph.{Members, From}
use Rattle.subsets.specs.Rows.{Image}
use Rattle.images.specs.Moves.{graph_of}
use Rattle.subsets.proofs.Memo.found_anew.Goals as goal

pub returns : goal.returns
returns c = (subst (λ (s : ℕ). Members s (From c.args.from.set (Image (graph_of c.args.t.now) c.args.mode c.args.column))) (sym c.keep.ensures.0) c.image-set.ensures, c.keep.ensures.1 (graph_of c.args.t.now) c.requires.2 c.image-set.ensures, c.keep.ensures.2)
