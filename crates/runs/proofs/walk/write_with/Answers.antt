use Rattle.std.proofs.Common.{length, arith, refl}
use Rattle.fsbm.specs.Rules.{rules as rules_of}
use Rattle.runs.specs.Walk.Laws.{some_start, begun}
use Rattle.runs.proofs.walk.write_with.Goals as goal

pub unwrap-q-requires : goal.unwrap-q-requires
unwrap-q-requires c = some_start c.args.word.now.moves.table.machine c.args.word.now.moves.table.list.now c.args.word.now.sets.now c.args.word.now.letters.now c.fill.new.t _ _ c.args.word.now.moves.table.obeys c.requires.4 c.requires.0 (c.fill.ensures 0 (omega arith)) refl c.start.ensures

pub offset_bounds-t-q : goal.offset_bounds-t-q
offset_bounds-t-q c = let b = begun c.args.word.now.moves.table.machine c.args.word.now.moves.table.list.now c.args.word.now.sets.now c.args.word.now.letters.now c.fill.new.t _ c.start.result c.args.word.now.moves.table.obeys c.requires.4 c.requires.0 (c.fill.ensures 0 (omega arith)) refl c.start.ensures c.unwrap-q.result (length c.args.run.now) c.unwrap-q.ensures c.args.word.now.short c.requires.1 in omega (arith, b.below, (rules_of _ _ c.args.word.now.moves.table.obeys).states_fit)

pub bounds-t-q : goal.bounds-t-q
bounds-t-q c = let b = begun c.args.word.now.moves.table.machine c.args.word.now.moves.table.list.now c.args.word.now.sets.now c.args.word.now.letters.now c.fill.new.t _ c.start.result c.args.word.now.moves.table.obeys c.requires.4 c.requires.0 (c.fill.ensures 0 (omega arith)) refl c.start.ensures c.unwrap-q.result (length c.args.run.now) c.unwrap-q.ensures c.args.word.now.short c.requires.1 in omega (arith, b.below, (rules_of _ _ c.args.word.now.moves.table.obeys).states_fit)

pub walk-requires : goal.walk-requires
walk-requires c =
    let b = begun c.args.word.now.moves.table.machine c.args.word.now.moves.table.list.now c.args.word.now.sets.now c.args.word.now.letters.now c.fill.new.t _ c.start.result c.args.word.now.moves.table.obeys c.requires.4 c.requires.0 (c.fill.ensures 0 (omega arith)) refl c.start.ensures c.unwrap-q.result (length c.args.run.now) c.unwrap-q.ensures c.args.word.now.short c.requires.1 in
    (b.below, b.is_initial, record { positions = omega (arith, c.requires.3.positions); emptied_rows = c.requires.3.emptied_rows; stored_rows = c.requires.3.stored_rows }, c.fill.ensures, b.best, b.small, b.room, b.fewest)
