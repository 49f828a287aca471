use Rattle.std.proofs.Common.{◌+◌, ◌-◌, arith}
use Rattle.tables.specs.Tables.Laws.{empty_start}
use Rattle.runs.proofs.lookup.Lookup.refresh.Goals as goal

pub emptying_rows-requires : goal.emptying_rows-requires
emptying_rows-requires c =
    let (mode, inside, equal) = c.requires.matching c.in-65534.is in
    let e = c.args.c.position + (c.args.c.end - c.args.c.start) in
    (omega arith, inside, omega (arith, inside, c.requires.sized.emptied_rows, c.requires.placed.0, c.requires.placed.1), empty_start c.args.self.now.word.moves.table.machine c.args.self.now.word.moves.table.list.now c.args.self.now.word.sets.now c.args.self.now.word.letters.now c.args.self.now.positions.now e (c.requires.positions e inside))
