use Rattle.fsbm.proofs.ConfigCases.{ranges, move_unplaced, move_change, move_not_taken, move_taken}
use mathlib.Core.Path.{sym, ◌∙◌}
use native.Mathlib.Omega.{arith}
use Rattle.fsbm.proofs.config.Config.moved.Goals as goal

pub returns-then-not-is_well_placed : goal.returns-then-not-is_well_placed
returns-then-not-is_well_placed c = λ m es et em. c.stay.ensures ∙ move_unplaced m c.args.states c.args.transitions c.args.marks.now es et em c.args.list.now c.args.word.now c.args.self c.args.entry (sym c.is_well_placed.ensures ∙ c.if-not-is_well_placed.true)

pub returns-then-transitions-k : goal.returns-then-transitions-k
returns-then-transitions-k c = λ m es et em. c.change_mode.ensures ∙ move_change m c.args.states c.args.transitions c.args.marks.now es et em c.args.list.now c.args.word.now c.args.self c.args.entry (sym c.is_well_placed.ensures ∙ c.if-not-is_well_placed.false) c.if-transitions-k.true

pub returns-then-not-may_take : goal.returns-then-not-may_take
returns-then-not-may_take c = λ m es et em. c.stay-then-not-may_take.ensures ∙ move_not_taken m c.args.states c.args.transitions c.args.marks.now es et em c.args.list.now c.args.word.now c.args.self c.args.entry (sym c.is_well_placed.ensures ∙ c.if-not-is_well_placed.false) c.if-transitions-k.false c.transition_at-t.result c.transition_at-t.ensures (sym c.may_take.ensures ∙ c.if-not-may_take.true)

pub after-requires : goal.after-requires
after-requires c = let p = ranges c.args.states c.args.word.now c.args.self (sym c.is_well_placed.ensures ∙ c.if-not-is_well_placed.false) in (omega (arith, p.0, c.well_formed), p.1, p.2)

pub returns : goal.returns
returns c = λ m es et em. move_taken m c.args.states c.args.transitions c.args.marks.now es et em c.args.list.now c.args.word.now c.args.self c.args.entry (sym c.is_well_placed.ensures ∙ c.if-not-is_well_placed.false) c.if-transitions-k.false c.transition_at-t.result c.transition_at-t.ensures (sym c.may_take.ensures ∙ c.if-not-may_take.false) c.after.result c.after.ensures
