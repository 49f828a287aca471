use Rattle.fsbm.specs.Rules.{rules as rules_of}
use Rattle.tables.proofs.CopyCases.{stored_none}
use Rattle.tables.proofs.word.Word.stored_row.Goals as goal

pub returns-then-is_none-2 : goal.returns-then-is_none-2
returns-then-is_none-2 c = stored_none _ _ _ _ _ (rules_of _ _ c.args.self.now.moves.table.obeys) c.if-is_none.ensures c.if-is_none-2.ensures
