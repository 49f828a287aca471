use Rattle.std.proofs.Common.{ℕ, ◌+◌, ◌≤◌, [], length, arith, refl}
use Rattle.fsbm.specs.Rules.{rules as rules_of}
use Rattle.tables.specs.Tables.Laws.{position_end}
use Rattle.tables.proofs.FillCases.{filling_placed}
use Rattle.tables.proofs.word.Word.fill_end.Goals as goal

pub returns : goal.returns
returns c = λ counts shared.
    filling_placed c.args.self.now.moves.table.machine c.args.self.now.moves.table.list.now c.args.self.now.sets.now c.args.self.now.letters.now (length c.args.self.now.letters.now) c.end_layer-position.result c.args.t.now _ (omega arith) c.requires.positions c.position_rows.ensures.put (rules_of _ _ c.args.self.now.moves.table.obeys) c.args.ends.now.rows.now _ c.args.ends.now.left.now _ counts c.requires.rows c.requires.counts
    (λ (k : ℕ) (a : length c.args.self.now.letters.now + 1 ≤ k) (b : k ≤ length c.args.self.now.letters.now). absurd (omega arith)) (λ (k : ℕ) (a : length c.args.self.now.letters.now + 1 ≤ k) (b : k ≤ length c.args.self.now.letters.now). absurd (omega arith)) shared
    (position_end c.args.self.now.moves.table.machine c.args.self.now.moves.table.list.now c.args.self.now.sets.now c.args.self.now.letters.now (length c.args.self.now.letters.now) _ [] [] _ _ _ refl c.near_at.ensures.0 _ refl (c.end_layer-position.ensures [] [])) c.position_rows.ensures
