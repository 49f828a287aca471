use Rattle.std.proofs.Common.{arith}
use Rattle.fsbm.specs.Rules.{rules as rules_of}
use Rattle.runs.proofs.WalkCases.{entry_change}
use Rattle.runs.proofs.lookup.Lookup.entry.Goals as goal

pub overflow_cast-result : goal.overflow_cast-result
overflow_cast-result c = omega (arith, (c.scan.ensures.found _ c.in-Some.is).0, (rules_of _ _ c.args.self.now.word.moves.table.obeys).transitions_fit)

pub returns-in-None : goal.returns-in-None
returns-in-None c = entry_change c.args.self.now.word.moves.table.machine c.args.self.now.word.moves.table.list.now c.args.self.now.word.sets.now c.args.self.now.word.letters.now _ _ c.in-None.ensures c.args.self.now.word.moves.table.obeys c.requires.0 c.requires.2 c.requires.3 _ c.change_entry.ensures
