use Rattle.std.proofs.Common.{arith}
use Rattle.fsbm.specs.Rules.{placed, rules as rules_of}
use Rattle.runs.specs.Walk.Laws.{best_normal, best_begun, best_past, best_buffering, best_emptying}
use Rattle.runs.proofs.WalkCases.{best_at}
use Rattle.runs.proofs.lookup.Lookup.cost.Goals as goal

pub overflow_mul-c : goal.overflow_mul-c
overflow_mul-c c = let P = placed c.args.self.now.word.moves.table.machine c.args.self.now.word.letters.now c.args.c c.requires.0 in omega (arith, P.in_word, c.requires.1.sized.positions, c.well_formed)

pub number-requires : goal.number-requires
number-requires c = let P = placed c.args.self.now.word.moves.table.machine c.args.self.now.word.letters.now c.args.c c.requires.0 in (omega (arith, P.in_word, c.requires.1.sized.positions), omega (arith, P.state_below, (rules_of _ _ c.args.self.now.word.moves.table.obeys).states_fit))

pub overflow_sub-d : goal.overflow_sub-d
overflow_sub-d c = let P = placed c.args.self.now.word.moves.table.machine c.args.self.now.word.letters.now c.args.c c.requires.0 in omega (arith, P.forward, P.behind)

pub overflow_mul-c-then-d-eq0 : goal.overflow_mul-c-then-d-eq0
overflow_mul-c-then-d-eq0 c = let P = placed c.args.self.now.word.moves.table.machine c.args.self.now.word.letters.now c.args.c c.requires.0 in omega (arith, P.in_word, c.requires.1.sized.positions, c.well_formed)

pub overflow_add-c : goal.overflow_add-c
overflow_add-c c = let P = placed c.args.self.now.word.moves.table.machine c.args.self.now.word.letters.now c.args.c c.requires.0 in omega (arith, P.in_word, c.requires.1.sized.positions, c.well_formed)

pub number-requires-then-d-eq0 : goal.number-requires-then-d-eq0
number-requires-then-d-eq0 c = let P = placed c.args.self.now.word.moves.table.machine c.args.self.now.word.letters.now c.args.c c.requires.0 in (omega (arith, P.in_word, c.requires.1.sized.positions), omega (arith, P.state_below, (rules_of _ _ c.args.self.now.word.moves.table.obeys).states_fit))

pub returns-then-d-eq0 : goal.returns-then-d-eq0
returns-then-d-eq0 c = let P = placed c.args.self.now.word.moves.table.machine c.args.self.now.word.letters.now c.args.c c.requires.0 in best_at _ _ c.number-then-d-eq0.ensures (best_begun _ _ _ _ _ _ _ _ c.requires.1 P c.in-Buffering.is c.if-d-eq0.true)

pub overflow_add-c-in-Buffering : goal.overflow_add-c-in-Buffering
overflow_add-c-in-Buffering c = let P = placed c.args.self.now.word.moves.table.machine c.args.self.now.word.letters.now c.args.c c.requires.0 in omega (arith, P.in_word, P.forward, P.behind, c.requires.1.sized.positions, c.well_formed)

pub returns-then-self-c : goal.returns-then-self-c
returns-then-self-c c = let P = placed c.args.self.now.word.moves.table.machine c.args.self.now.word.letters.now c.args.c c.requires.0 in best_past _ _ _ _ _ _ _ _ c.requires.1 P c.in-Buffering.is (rules_of _ _ c.args.self.now.word.moves.table.obeys).states_fit c.if-self-c.true

pub number-requires-in-Buffering : goal.number-requires-in-Buffering
number-requires-in-Buffering c = let P = placed c.args.self.now.word.moves.table.machine c.args.self.now.word.letters.now c.args.c c.requires.0 in (omega (arith, P.forward, P.behind, c.if-self-c.false, c.requires.1.sized.stored_rows), omega (arith, P.state_below, (rules_of _ _ c.args.self.now.word.moves.table.obeys).states_fit))

pub overflow_sub-c : goal.overflow_sub-c
overflow_sub-c c = let P = placed c.args.self.now.word.moves.table.machine c.args.self.now.word.letters.now c.args.c c.requires.0 in omega (arith, P.forward)

pub number-requires-in-Emptying : goal.number-requires-in-Emptying
number-requires-in-Emptying c = let P = placed c.args.self.now.word.moves.table.machine c.args.self.now.word.letters.now c.args.c c.requires.0 in (omega (arith, P.forward, P.behind, (c.requires.1.matching c.in-Emptying.is).inside, c.requires.1.sized.emptied_rows), omega (arith, P.state_below, (rules_of _ _ c.args.self.now.word.moves.table.obeys).states_fit))

pub returns-in-Normal : goal.returns-in-Normal
returns-in-Normal c = let P = placed c.args.self.now.word.moves.table.machine c.args.self.now.word.letters.now c.args.c c.requires.0 in best_at _ _ c.number.ensures (best_normal _ _ _ _ _ _ _ _ c.requires.1 P c.in-Normal.is)

pub returns-else-self-c : goal.returns-else-self-c
returns-else-self-c c = let P = placed c.args.self.now.word.moves.table.machine c.args.self.now.word.letters.now c.args.c c.requires.0 in best_at _ _ c.number-in-Buffering.ensures (best_buffering _ _ _ _ _ _ _ _ c.requires.1 P c.in-Buffering.is (omega (arith, c.if-d-eq0.false)) c.if-self-c.false)

pub returns-in-Emptying : goal.returns-in-Emptying
returns-in-Emptying c = let P = placed c.args.self.now.word.moves.table.machine c.args.self.now.word.letters.now c.args.c c.requires.0 in best_at _ _ c.number-in-Emptying.ensures (best_emptying _ _ _ _ _ _ _ _ c.requires.1 P c.in-Emptying.is)
