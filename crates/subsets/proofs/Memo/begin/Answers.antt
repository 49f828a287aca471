use mathlib.Core.Path.{refl}
use native.Mathlib.Omega.{arith}
use lib.ListN.{get_or}
use Rattle.images.specs.Moves.{graph_of}
use Rattle.subsets.specs.Rows.Laws.{row_taken, found_right, image_begun}
use Rattle.subsets.proofs.Memo.begin.Goals as goal

pub known-requires : goal.known-requires
known-requires c = c.requires.sized

pub offset_bounds-self-row : goal.offset_bounds-self-row
offset_bounds-self-row c = omega (arith, row_taken c.args.self.now.columns c.args.self.now.rows.now c.args.self.now.steps.now c.args.mode 0 c.args.from.set c.args.from.row c.in-Some.row c.in-Some.ensures c.requires.sized, c.requires.sized.numbered)

pub bounds-self-row : goal.bounds-self-row
bounds-self-row c = omega (arith, row_taken c.args.self.now.columns c.args.self.now.rows.now c.args.self.now.steps.now c.args.mode 0 c.args.from.set c.args.from.row c.in-Some.row c.in-Some.ensures c.requires.sized, c.requires.sized.counted)

pub returns-in-Some : goal.returns-in-Some
returns-in-Some c = (image_begun (graph_of c.args.t.now) c.args.mode c.args.from.set (get_or c.args.self.now.rows.now c.in-Some.row 0) 0 refl (found_right c.args.self.now.columns c.args.self.now.rows.now c.args.self.now.steps.now c.args.mode 0 c.args.from.set c.args.from.row c.in-Some.row c.in-Some.ensures (graph_of c.args.t.now) c.requires.right), c.requires, record { columns = refl; rows = refl; steps = refl })

pub found_anew-requires : goal.found_anew-requires
found_anew-requires c = (omega arith, (λ x e. absurd (omega arith)), c.requires)

pub returns-in-None : goal.returns-in-None
returns-in-None c = (image_begun (graph_of c.args.t.now) c.args.mode c.args.from.set c.found_anew.result.set 0 refl c.found_anew.ensures.0, c.found_anew.ensures.1, c.found_anew.ensures.2)
