use Prim.Native.Nat.{◌+◌}
use native.Mathlib.Omega.{arith}
use mathlib.Core.Path.{◌≡◌, sym}
use Rattle.std.proofs.Common.{None, rules}
use lib.Seq.{length-take-le}
use Rattle.found.proofs.AnswerCases.{says_none, says_word, says_first, says_second, says_found, length_fits, entries_fit, writable}
use Rattle.found.proofs.answer.answer.Goals as goal

pub returns-in_default : goal.returns-in_default
returns-in_default c = let e : c.args.f ≡ None = search rules in says_none c.args.first c.args.first_list.now c.args.second c.args.second_list.now c.args.searched.now.table.machine c.args.searched.now.table.list.now c.args.weights.now.least c.args.pairs.now.numbers c.args.word.now c.args.first_run.now c.args.second_run.now (rw e at c.requires)

pub returns-then-word-n : goal.returns-then-word-n
returns-then-word-n c = says_word c.args.first c.args.first_list.now c.args.second c.args.second_list.now c.args.searched.now.table.machine c.args.searched.now.table.list.now c.args.weights.now.least c.args.pairs.now.numbers c.args.word.now c.args.first_run.now c.args.second_run.now c.in-Some.f (rw c.in-Some.is at c.requires) c.cost-c.result c.cost-c.ensures c.letters_of-n.result c.letters_of-n.ensures c.if-word-n.true

pub run_length-needed-requires : goal.run_length-needed-requires
run_length-needed-requires c = length_fits c.args.first c.args.first_list.now c.args.second c.args.second_list.now c.args.searched.now.table.machine c.args.searched.now.table.list.now c.args.weights.now.least c.args.pairs.now.numbers c.args.word.now c.args.first_run.now c.args.second_run.now c.in-Some.f (rw c.in-Some.is at c.requires) c.cost-c.result c.cost-c.ensures c.letters_of-n.result c.letters_of-n.ensures

pub returns-then-first_run-needed : goal.returns-then-first_run-needed
returns-then-first_run-needed c = says_first c.args.first c.args.first_list.now c.args.second c.args.second_list.now c.args.searched.now.table.machine c.args.searched.now.table.list.now c.args.weights.now.least c.args.pairs.now.numbers c.args.word.now c.args.first_run.now c.args.second_run.now c.in-Some.f (rw c.in-Some.is at c.requires) c.cost-c.result c.cost-c.ensures c.letters_of-n.result c.letters_of-n.ensures c.if-word-n.false c.run_length-needed.result c.run_length-needed.ensures c.if-first_run-needed.true

pub returns-then-second_run-plain : goal.returns-then-second_run-plain
returns-then-second_run-plain c = says_second c.args.first c.args.first_list.now c.args.second c.args.second_list.now c.args.searched.now.table.machine c.args.searched.now.table.list.now c.args.weights.now.least c.args.pairs.now.numbers c.args.word.now c.args.first_run.now c.args.second_run.now c.in-Some.f (rw c.in-Some.is at c.requires) c.cost-c.result c.cost-c.ensures c.letters_of-n.result c.letters_of-n.ensures c.if-word-n.false c.run_length-needed.result c.run_length-needed.ensures c.if-first_run-needed.false c.if-second_run-plain.true

pub slice_bounds-write_runs-end-2 : goal.slice_bounds-write_runs-end-2
slice_bounds-write_runs-end-2 c = sym (length-take-le c.letters_of-n.result c.args.word.now c.if-word-n.false)

pub slice_bounds-write_runs-end-3 : goal.slice_bounds-write_runs-end-3
slice_bounds-write_runs-end-3 c = entries_fit c.args.first c.args.first_list.now c.args.second c.args.second_list.now c.args.searched.now.table.machine c.args.searched.now.table.list.now c.args.weights.now.least c.args.pairs.now.numbers c.args.word.now c.args.first_run.now c.args.second_run.now c.in-Some.f (rw c.in-Some.is at c.requires) c.cost-c.result c.cost-c.ensures c.letters_of-n.result c.letters_of-n.ensures c.if-word-n.false c.run_length-needed.result c.run_length-needed.ensures c.if-first_run-needed.false c.if-second_run-plain.false c.entries_of-e.result c.entries_of-e.ensures

pub slice_bounds-write_runs-end-4 : goal.slice_bounds-write_runs-end-4
slice_bounds-write_runs-end-4 c = sym (length-take-le c.entries_of-e.result c.args.first_run.now (entries_fit c.args.first c.args.first_list.now c.args.second c.args.second_list.now c.args.searched.now.table.machine c.args.searched.now.table.list.now c.args.weights.now.least c.args.pairs.now.numbers c.args.word.now c.args.first_run.now c.args.second_run.now c.in-Some.f (rw c.in-Some.is at c.requires) c.cost-c.result c.cost-c.ensures c.letters_of-n.result c.letters_of-n.ensures c.if-word-n.false c.run_length-needed.result c.run_length-needed.ensures c.if-first_run-needed.false c.if-second_run-plain.false c.entries_of-e.result c.entries_of-e.ensures))

pub slice_bounds-write_runs-end-6 : goal.slice_bounds-write_runs-end-6
slice_bounds-write_runs-end-6 c = sym (length-take-le _ c.args.second_run.now c.if-second_run-plain.false)

pub write_runs-requires : goal.write_runs-requires
write_runs-requires c = writable c.args.first c.args.first_list.now c.args.second c.args.second_list.now c.args.searched.now.table.machine c.args.searched.now.table.list.now c.args.weights.now.least c.args.pairs.now.numbers c.args.word.now c.args.first_run.now c.args.second_run.now c.in-Some.f (rw c.in-Some.is at c.requires) c.cost-c.result c.cost-c.ensures c.letters_of-n.result c.letters_of-n.ensures c.if-word-n.false c.run_length-needed.result c.run_length-needed.ensures c.if-first_run-needed.false c.if-second_run-plain.false c.entries_of-e.result c.entries_of-e.ensures

pub returns : goal.returns
returns c = says_found c.args.first c.args.first_list.now c.args.second c.args.second_list.now c.args.searched.now.table.machine c.args.searched.now.table.list.now c.args.weights.now.least c.args.pairs.now.numbers c.args.word.now c.args.first_run.now c.args.second_run.now c.in-Some.f (rw c.in-Some.is at c.requires) c.cost-c.result c.cost-c.ensures c.letters_of-n.result c.letters_of-n.ensures c.if-word-n.false c.run_length-needed.result c.run_length-needed.ensures c.if-first_run-needed.false c.if-second_run-plain.false c.entries_of-e.result c.entries_of-e.ensures _ _ _ (omega (arith, c.word-1.given, length-take-le c.letters_of-n.result c.args.word.now c.if-word-n.false)) (omega (arith, c.first_run-1.given, length-take-le c.entries_of-e.result c.args.first_run.now (entries_fit c.args.first c.args.first_list.now c.args.second c.args.second_list.now c.args.searched.now.table.machine c.args.searched.now.table.list.now c.args.weights.now.least c.args.pairs.now.numbers c.args.word.now c.args.first_run.now c.args.second_run.now c.in-Some.f (rw c.in-Some.is at c.requires) c.cost-c.result c.cost-c.ensures c.letters_of-n.result c.letters_of-n.ensures c.if-word-n.false c.run_length-needed.result c.run_length-needed.ensures c.if-first_run-needed.false c.if-second_run-plain.false c.entries_of-e.result c.entries_of-e.ensures))) (omega (arith, c.second_run-1.given, length-take-le (c.letters_of-n.result + 1) c.args.second_run.now c.if-second_run-plain.false)) c.write_runs.ensures
