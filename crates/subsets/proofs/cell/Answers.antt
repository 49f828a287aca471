use mathlib.Core.Path.{◌∙◌, ap}
use Prim.Native.Nat.{ℕ, ◌+◌, ◌*◌}
use native.Mathlib.Omega.{arith}
use Rattle.fsbm.specs.Moves.Laws.{mode_below}
use Rattle.subsets.specs.Rows.Laws.{cell_small}
use Rattle.subsets.proofs.cell.Goals as goal

pub overflow_mul-result-2 : goal.overflow_mul-result-2
overflow_mul-result-2 c = omega (arith, cell_small (c.args.row * 3 + c.from.result) c.args.columns (let l = mode_below c.args.mode in omega (arith, c.number.ensures, c.from.ensures, c.requires.1)) c.requires.0)

pub overflow_add-result-2 : goal.overflow_add-result-2
overflow_add-result-2 c = omega (arith, cell_small (c.args.row * 3 + c.from.result) c.args.columns (let l = mode_below c.args.mode in omega (arith, c.number.ensures, c.from.ensures, c.requires.1)) c.requires.0)

pub overflow_add-result-3 : goal.overflow_add-result-3
overflow_add-result-3 c = omega (arith, cell_small (c.args.row * 3 + c.from.result) c.args.columns (let l = mode_below c.args.mode in omega (arith, c.number.ensures, c.from.ensures, c.requires.1)) c.requires.0, c.requires.2, c.requires.0)

pub returns : goal.returns
returns c = ap (λ (z : ℕ). 1021 + (c.args.row * 3 + z) * c.args.columns + c.args.column) (c.from.ensures ∙ c.number.ensures)
