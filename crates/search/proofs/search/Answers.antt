use Rattle.fsbm.specs.Rules.{rules as rules_of}
use Rattle.found.proofs.SearchCases.{joined_good, none}
use Rattle.search.proofs.BarrenCases.{barren_past}
use Rattle.search.proofs.search.Goals as goal

pub kinds_of-kinds-requires : goal.kinds_of-kinds-requires
kinds_of-kinds-requires c = (rules_of c.args.m c.args.list.now (joined_good c.requires)).states_fit

pub invariant_of-table : goal.invariant_of-table
invariant_of-table c = record { obeys = joined_good c.requires }

pub returns-then-is_barren : goal.returns-then-is_barren
returns-then-is_barren c = none c.args.first c.args.first_list.now c.args.second c.args.second_list.now c.args.word.now c.args.first_run.now c.args.second_run.now c.requires.fine (barren_past c.requires (c.is_barren.ensures c.if-is_barren.true))

pub new-searched-requires : goal.new-searched-requires
new-searched-requires c = c.kinds_of-kinds.ensures

pub costs-weights-requires : goal.costs-weights-requires
costs-weights-requires c = c.blank-pairs.ensures.past c.new-searched.result.table.machine

pub answer-requires : goal.answer-requires
answer-requires c = record {
  joined = rw c.new-searched.ensures.0 c.requires;
  past = c.costs-weights.ensures.0;
  top = c.costs-weights.ensures.1.top;
  limit = c.costs-weights.ensures.1.limit;
  least = c.costs-weights.ensures.1.settled;
  best = c.best-f.ensures;
}
