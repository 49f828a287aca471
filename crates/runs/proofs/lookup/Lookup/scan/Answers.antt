use Rattle.std.proofs.Common.{◌+◌, arith}
use Rattle.fsbm.specs.Rules.{placed, rules as rules_of}
use Rattle.runs.proofs.WalkCases.{scan_start, scan_found, scan_more, scan_none}
use Rattle.runs.proofs.lookup.Lookup.scan.Goals as goal

pub offset_bounds-first-c : goal.offset_bounds-first-c
offset_bounds-first-c c = let P = placed c.args.self.now.word.moves.table.machine c.args.self.now.word.letters.now c.args.c c.requires.0 in omega (arith, P.state_below, (rules_of _ _ c.args.self.now.word.moves.table.obeys).states_fit)

pub bounds-first-c : goal.bounds-first-c
bounds-first-c c = let P = placed c.args.self.now.word.moves.table.machine c.args.self.now.word.letters.now c.args.c c.requires.0 in omega (arith, P.state_below, (rules_of _ _ c.args.self.now.word.moves.table.obeys).states_fit)

pub overflow_add-c : goal.overflow_add-c
overflow_add-c c = let P = placed c.args.self.now.word.moves.table.machine c.args.self.now.word.letters.now c.args.c c.requires.0 in omega (arith, P.state_below, (rules_of _ _ c.args.self.now.word.moves.table.obeys).states_fit)

pub offset_bounds-first-c-2 : goal.offset_bounds-first-c-2
offset_bounds-first-c-2 c = let P = placed c.args.self.now.word.moves.table.machine c.args.self.now.word.letters.now c.args.c c.requires.0 in omega (arith, P.state_below, (rules_of _ _ c.args.self.now.word.moves.table.obeys).states_fit)

pub bounds-first-c-2 : goal.bounds-first-c-2
bounds-first-c-2 c = let P = placed c.args.self.now.word.moves.table.machine c.args.self.now.word.letters.now c.args.c c.requires.0 in omega (arith, P.state_below, (rules_of _ _ c.args.self.now.word.moves.table.obeys).states_fit)

pub loop-k-init : goal.loop-k-init
loop-k-init c = let P = placed c.args.self.now.word.moves.table.machine c.args.self.now.word.letters.now c.args.c c.requires.0 in rw c.from-k.ensures (scan_start c.args.self.now.word.moves.table.machine c.args.self.now.word.moves.table.list.now c.args.self.now.word.sets.now c.args.self.now.word.letters.now c.args.c c.args.d c.args.self.now.index.first c.args.self.now.indexed (omega (arith, P.state_below)))

pub returns-then-leads : goal.returns-then-leads
returns-then-leads c = let P = placed c.args.self.now.word.moves.table.machine c.args.self.now.word.letters.now c.args.c c.requires.0 in scan_found c.args.self.now.word.moves.table.machine c.args.self.now.word.moves.table.list.now c.args.self.now.word.sets.now c.args.self.now.word.letters.now _ _ _ _ (omega (arith, c.from-k-end.ensures, c.args.self.now.indexed.within (c.args.c.state + 1) (omega (arith, P.state_below)))) c.loop-k.invariant c.leads.ensures c.if-leads.true

pub loop-k-preserved : goal.loop-k-preserved
loop-k-preserved c = scan_more c.args.self.now.word.moves.table.machine c.args.self.now.word.moves.table.list.now c.args.self.now.word.sets.now c.args.self.now.word.letters.now _ _ _ _ c.loop-k.invariant c.leads.ensures c.if-leads.false

pub returns : goal.returns
returns c = let P = placed c.args.self.now.word.moves.table.machine c.args.self.now.word.letters.now c.args.c c.requires.0 in scan_none c.args.self.now.word.moves.table.machine c.args.self.now.word.moves.table.list.now c.args.self.now.word.sets.now c.args.self.now.word.letters.now _ _ _ _ c.args.self.now.indexed P.state_below (omega (arith, c.from-k-end.ensures, c.loop-k-test.false)) c.loop-k.invariant
