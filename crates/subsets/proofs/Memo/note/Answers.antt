use mathlib.Core.Path.{sym, refl}
use Prim.Native.Nat.{ℕ}
use native.Mathlib.Omega.{arith}
use lib.ListN.{set}
use mathlib.Core.Path.{subst}
use Rattle.subsets.specs.Rows.{Noted}
use Rattle.subsets.specs.Rows.Laws.{cell_inside, step_noted}
use Rattle.subsets.proofs.Memo.note.Goals as goal

pub overflow_cast-self : goal.overflow_cast-self
overflow_cast-self c = omega (arith, c.requires.1.taken, c.requires.0.numbered)

pub cell-requires : goal.cell-requires
cell-requires c = let own = c.has_row.ensures (c.if-not-has_row.false) in (c.requires.0.few, omega (arith, own.taken, c.requires.0.numbered), c.if-self-column.false)

pub offset_bounds-self-cell : goal.offset_bounds-self-cell
offset_bounds-self-cell c = let own = c.has_row.ensures (c.if-not-has_row.false) in record { fits = omega (arith, cell_inside c.args.self.now.columns c.args.self.now.rows.now c.args.self.now.steps.now c.args.from.row c.args.mode c.args.column c.requires.0 c.if-self-column.false own.some own.taken, c.cell.ensures, c.well_formed) }

pub bounds-self-cell : goal.bounds-self-cell
bounds-self-cell c = let own = c.has_row.ensures (c.if-not-has_row.false) in omega (arith, cell_inside c.args.self.now.columns c.args.self.now.rows.now c.args.self.now.steps.now c.args.from.row c.args.mode c.args.column c.requires.0 c.if-self-column.false own.some own.taken, c.cell.ensures)

pub returns : goal.returns
returns c = (subst (λ (k : ℕ). Noted c.args.self.now.columns c.args.self.now.rows.now c.args.self.now.steps.now (set c.args.self.now.steps.now k c.args.to.row) c.args.mode c.args.column c.args.from.set c.args.to.set) (sym c.cell.ensures) (step_noted c.args.self.now.columns c.args.self.now.rows.now c.args.self.now.steps.now c.args.mode c.args.column c.args.from.set c.args.from.row c.args.to.set c.args.to.row c.requires.0 c.if-self-column.false (c.has_row.ensures (c.if-not-has_row.false)) c.requires.1), refl, record { columns = refl; rows = refl; steps = refl })
