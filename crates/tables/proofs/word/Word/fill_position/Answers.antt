use Rattle.std.proofs.Common.{◌+◌, arith, refl}
use Rattle.std.proofs.lemmas.Bool.{false≢true}
use Rattle.fsbm.specs.Rules.{rules as rules_of}
use Rattle.tables.specs.Tables.Laws.{position_before}
use Rattle.tables.proofs.FillCases.{filling_placed, unreached_best, blank_best, onward_best, begins_some}
use Rattle.tables.proofs.word.Word.fill_position.Goals as goal

pub returns-then-near-eq0 : goal.returns-then-near-eq0
returns-then-near-eq0 c =
    filling_placed c.args.self.now.moves.table.machine c.args.self.now.moves.table.list.now c.args.self.now.sets.now c.args.self.now.letters.now c.args.p c.unreached.result c.args.t.now _ (omega (arith, c.requires.0)) c.requires.1.positions c.position_rows.ensures.put (rules_of _ _ c.args.self.now.moves.table.obeys) c.args.ends.now.rows.now _ c.args.ends.now.left.now _ _ c.requires.1.ending.rows c.requires.1.ending.counts c.requires.1.each c.requires.1.ending.each c.count_shared.ensures
    (unreached_best c.args.self.now.moves.table.machine c.args.self.now.moves.table.list.now c.args.self.now.sets.now c.args.self.now.letters.now c.args.p c.unreached.ensures (blank_best c.args.self.now.moves.table.machine c.args.self.now.moves.table.list.now c.args.self.now.sets.now c.args.self.now.letters.now _ _ _ c.args.self.now.known.given c.args.t.now c.args.p _ c.requires.0 c.near_at-near.ensures.0 c.if-near-eq0.true (c.requires.1.each (c.args.p + 1) (omega arith) (omega (arith, c.requires.0))))) c.position_rows.ensures

pub returns : goal.returns
returns c =
    filling_placed c.args.self.now.moves.table.machine c.args.self.now.moves.table.list.now c.args.self.now.sets.now c.args.self.now.letters.now c.args.p c.position_layer-position.result c.args.t.now _ (omega (arith, c.requires.0)) c.requires.1.positions c.position_rows-2.ensures.put (rules_of _ _ c.args.self.now.moves.table.obeys) c.starting_row-starting.new.ends.rows.now _ c.starting_row-starting.new.ends.left.now _ _ c.starting_row-starting.ensures.ending.rows c.starting_row-starting.ensures.ending.counts c.requires.1.each c.starting_row-starting.ensures.ending.each c.count_shared.ensures
    (position_before c.args.self.now.moves.table.machine c.args.self.now.moves.table.list.now c.args.self.now.sets.now c.args.self.now.letters.now c.args.p _ _ _ _ _ _ _ c.requires.0 c.near_at-near.ensures.0 c.from.ensures (onward_best c.args.self.now.moves.table.machine c.args.self.now.moves.table.list.now c.args.self.now.sets.now c.args.self.now.letters.now c.args.t.now (c.args.p + 1) (c.requires.1.each (c.args.p + 1) (omega arith) (omega (arith, c.requires.0))) _ refl)
    (λ some. rw c.or_blank-storing.ensures (c.starting_row-starting.ensures.row (begins_some c.args.self.now.moves.table.machine c.args.self.now.moves.table.list.now c.args.self.now.sets.now c.args.self.now.letters.now _ _ _ c.args.self.now.known.given c.args.p _ _ c.requires.0 c.near_at-near.ensures.0 c.intersection-starts.ensures some))) _ (λ h. false≢true h) c.position_layer-position.ensures) c.position_rows-2.ensures
