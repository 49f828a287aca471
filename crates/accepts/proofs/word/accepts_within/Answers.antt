use Rattle.std.proofs.Common.{arith, ℕ}
use Rattle.std.proofs.lemmas.List.{length-replicate}
use Rattle.basics.specs.Lists.Laws.{zeros_at}
use Rattle.fsbm.proofs.AnswerCases.{table_good}
use Rattle.fsbm.specs.Rules.{rules as rules_of}
use Rattle.accepts.proofs.word.accepts_within.Goals as goal

pub kinds_of-kinds-requires : goal.kinds_of-kinds-requires
kinds_of-kinds-requires g c = (rules_of c.args.m c.args.list.now (table_good 255 c.args.m c.args.list.now c.args.word.now c.requires.0).0).states_fit

pub whole_as_slice-reach : goal.whole_as_slice-reach
whole_as_slice-reach g c = omega (arith, c.requires.2)

pub reach-requires : goal.reach-requires
reach-requires g c = (c.requires.0, omega (arith, c.requires.1, length-replicate {A = ℕ} g.row.SETS 0), zeros_at g.row.SETS, c.kinds_of-kinds.ensures)
