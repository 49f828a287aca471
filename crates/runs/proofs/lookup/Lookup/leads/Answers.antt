use Rattle.std.proofs.Common.{refl, arith}
use Rattle.fsbm.specs.Rules.{rules as rules_of}
use Rattle.runs.proofs.WalkCases.{leads_next, leads_elsewhere}
use Rattle.runs.proofs.lookup.Lookup.leads.Goals as goal

pub returns-then-from-c : goal.returns-then-from-c
returns-then-from-c c = leads_elsewhere c.args.self.now.word.moves.table.machine c.args.self.now.word.moves.table.list.now c.args.self.now.word.sets.now c.args.self.now.word.letters.now _ _ _ c.requires.2 _ c.transition.ensures (rw c.from.ensures at c.if-from-c.true)

pub overflow_cast-k : goal.overflow_cast-k
overflow_cast-k c = omega (arith, c.requires.2, (rules_of _ _ c.args.self.now.word.moves.table.obeys).transitions_fit)

pub cost-requires : goal.cost-requires
cost-requires c = leads_next c.args.self.now.word.moves.table.machine c.args.self.now.word.moves.table.list.now c.args.self.now.word.sets.now c.args.self.now.word.letters.now _ _ _ (c.moved-v.ensures c.args.self.now.word.moves.table.machine refl refl refl) _ _ _ c.args.self.now.word.moves.table.obeys c.requires.0 c.requires.1 c.requires.2 c.if-v.true
