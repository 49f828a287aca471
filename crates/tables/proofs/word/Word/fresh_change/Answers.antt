use Rattle.std.proofs.Common.{arith}
use Rattle.fsbm.specs.Rules.{rules as rules_of}
use Rattle.std.specs.Prelude.{Some}
use Rattle.tables.specs.Tables.Laws.{empty_start}
use Rattle.tables.proofs.CopyCases.{change_none, change_same, change_blank}
use Rattle.tables.proofs.word.Word.fresh_change.Goals as goal

pub returns-then-not-halves_match : goal.returns-then-not-halves_match
returns-then-not-halves_match c = change_none c.args.self.now.moves.table.machine c.args.self.now.moves.table.list.now c.args.self.now.sets.now c.args.self.now.letters.now c.args.i c.args.d (rules_of _ _ c.args.self.now.moves.table.obeys).states_fit (omega (arith, c.requires.0)) (c.halves_match.ensures.unequal c.if-not-halves_match.true)

pub extend-requires : goal.extend-requires
extend-requires c = (omega arith, omega arith, c.requires.0, empty_start _ _ _ _ c.args.t.now _ c.requires.2)

pub returns-in-Ok : goal.returns-in-Ok
returns-in-Ok c = change_same c.args.self.now.moves.table.machine c.args.self.now.moves.table.list.now c.args.self.now.sets.now c.args.self.now.letters.now c.args.i c.args.d c.requires.0 (c.halves_match.ensures.equal c.if-not-halves_match.false) (Some _) c.in-Ok.ensures

pub returns-in-Err : goal.returns-in-Err
returns-in-Err c = change_blank c.args.self.now.moves.table.machine c.args.self.now.moves.table.list.now c.args.self.now.sets.now c.args.self.now.letters.now c.args.i c.args.d c.requires.0 (c.halves_match.ensures.equal c.if-not-halves_match.false) _ c.in-Err.ensures
