use Rattle.std.proofs.Common.{◌≡◌, true, length, drop}
use Rattle.fsbm.specs.Moves.{well_placed, accepting_from}
use Rattle.fsbm.proofs.run.accepts_from.Given as goal

abbrev pub invariant-loop-entry : goal.invariant-loop-entry
invariant-loop-entry l = record {
  placed : well_placed l.t.machine.states (length l.word) l.c ≡ true;
  same : accepting_from l.t.machine l.t.list.now l.word l.c (drop l.entry-index l.entries) ≡ accepting_from l.t.machine l.t.list.now l.word l.initial.c l.entries;
}
