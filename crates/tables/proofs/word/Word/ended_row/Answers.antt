use Rattle.std.proofs.Common.{arith, ap, length, length-set, ◌∙◌, sym, subst}
use Rattle.tables.specs.Tables.Laws.{empty_start}
use Rattle.tables.specs.Tables.{EmptyRow}
use Rattle.tables.proofs.CopyCases.{ended_anew, row_same}
use Rattle.tables.proofs.word.Word.ended_row.Goals as goal

pub extended_end-requires-2 : goal.extended_end-requires-2
extended_end-requires-2 c =
    let rows = ap length c.begin.ensures.0 ∙ length-set _ _ _ in
    let left = ap length c.begin.ensures.1 ∙ length-set _ _ _ in
    (omega arith, c.requires.0, c.requires.1, omega (arith, c.requires.4), omega (arith, c.requires.5), subst (EmptyRow c.args.self.now.moves.table.machine c.args.self.now.moves.table.list.now c.args.self.now.sets.now c.args.self.now.letters.now c.args.e 0) (sym (row_same _ _ _ _ c.requires.4 c.begin.ensures.0)) (empty_start c.args.self.now.moves.table.machine c.args.self.now.moves.table.list.now c.args.self.now.sets.now c.args.self.now.letters.now c.args.t.now c.args.e c.requires.3))

pub returns : goal.returns
returns c = ended_anew c.args.self.now.moves.table.machine c.args.self.now.moves.table.list.now c.args.self.now.sets.now c.args.self.now.letters.now c.args.e c.args.d _ _ _ _ _ _ _ _ c.requires.4 c.requires.5 (empty_start c.args.self.now.moves.table.machine c.args.self.now.moves.table.list.now c.args.self.now.sets.now c.args.self.now.letters.now c.args.t.now c.args.e c.requires.3) c.begin.ensures.0 c.begin.ensures.1 c.extended_end-2.ensures
