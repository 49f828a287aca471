use mathlib.Core.Path.{refl, subst}
use Prim.Native.Nat.{ℕ, ◌+◌}
use native.Mathlib.Omega.{arith}
use lib.ListN.{get_or}
use Rattle.images.specs.Graph.{Room}
use Rattle.images.specs.Moves.{graph_of}
use Rattle.subsets.specs.Rows.Laws.{row_taken, found_right, image_reads}
use Rattle.subsets.proofs.Memo.read.Goals as goal

pub known-requires : goal.known-requires
known-requires c = c.requires.1.sized

pub offset_bounds-self-row : goal.offset_bounds-self-row
offset_bounds-self-row c = omega (arith, row_taken c.args.self.now.columns c.args.self.now.rows.now c.args.self.now.steps.now c.args.mode (1 + c.from-column.result) c.args.from.set c.args.from.row c.in-Some.row c.in-Some.ensures c.requires.1.sized, c.requires.1.sized.numbered)

pub bounds-self-row : goal.bounds-self-row
bounds-self-row c = omega (arith, row_taken c.args.self.now.columns c.args.self.now.rows.now c.args.self.now.steps.now c.args.mode (1 + c.from-column.result) c.args.from.set c.args.from.row c.in-Some.row c.in-Some.ensures c.requires.1.sized, c.requires.1.sized.counted)

pub returns-in-Some : goal.returns-in-Some
returns-in-Some c = (image_reads (graph_of c.args.t.now) c.args.mode c.args.from.set (get_or c.args.self.now.rows.now c.in-Some.row 0) (1 + c.from-column.result) c.args.x (omega (arith, c.from-column.ensures)) (found_right c.args.self.now.columns c.args.self.now.rows.now c.args.self.now.steps.now c.args.mode (1 + c.from-column.result) c.args.from.set c.args.from.row c.in-Some.row c.in-Some.ensures (graph_of c.args.t.now) c.requires.1.right), c.requires.1, record { columns = refl; rows = refl; steps = refl })

pub found_anew-requires : goal.found_anew-requires
found_anew-requires c = (omega arith, (λ x e. subst (λ (n : ℕ). Room c.args.t.now.sets.now c.args.t.now.states n) (omega (arith, e, c.from-column.ensures)) c.requires.0), c.requires.1)

pub returns-in-None : goal.returns-in-None
returns-in-None c = (image_reads (graph_of c.args.t.now) c.args.mode c.args.from.set c.found_anew.result.set (1 + c.from-column.result) c.args.x (omega (arith, c.from-column.ensures)) c.found_anew.ensures.0, c.found_anew.ensures.1, c.found_anew.ensures.2)
