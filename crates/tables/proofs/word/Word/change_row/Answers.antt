use Rattle.std.proofs.Common.{arith}
use Rattle.fsbm.specs.Rules.{rules as rules_of}
use Rattle.tables.proofs.CopyCases.{change_unmatched, change_ended}
use Rattle.tables.proofs.word.Word.change_row.Goals as goal

pub returns-then-from-d : goal.returns-then-from-d
returns-then-from-d c = change_unmatched _ _ _ _ _ _ (rules_of _ _ c.args.self.now.moves.table.obeys).states_fit c.requires.0 (omega (arith, c.args.self.now.short)) c.requires.1 _ c.requires.4 (omega (arith, c.if-from-d.true, c.from.ensures)) _ _ c.requires.5

pub returns : goal.returns
returns c = change_ended _ _ _ _ _ _ c.requires.0 (omega (arith, c.args.self.now.short)) c.requires.1 _ c.requires.4 (omega (arith, c.if-from-d.false, c.from.ensures)) _ _ _ _ _ c.requires.5 c.ended_row.ensures
