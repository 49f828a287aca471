use Rattle.fsbm.specs.Rules.{rules as rules_of}
use Rattle.tables.proofs.word.Word.position_rows.Goals as goal

pub ends-requires : goal.ends-requires
ends-requires c = (rules_of _ _ c.args.self.now.moves.table.obeys).states_fit
