use Rattle.std.proofs.Common.{sym, ◌∙◌, ap, length, drop, ◌-◌, arith, length-drop}
use lib.Seq.{take_all}
use borrow.Author.Tests.{lt-ltb, le-ltb}
use Rattle.basics.specs.Search.Loops.{pass, stop}
use Rattle.fsbm.specs.Moves.{well_placed, accepting_from}
use Rattle.fsbm.specs.declared.config.Config.{Config}
use Rattle.fsbm.proofs.ConfigCases.{run_empty, run_first, start_well_placed}
use Rattle.fsbm.proofs.run.is_accepting_run.Goals as goal

pub returns-in_default : goal.returns-in_default
returns-in_default c = run_empty _ _ _ _ c.in_default.len_below

pub returns-then-t-q : goal.returns-then-t-q
returns-then-t-q c = stop _ (le-ltb _ _ c.if-t-q.true) ∙ run_first _ _ _ _ c.in-len1-up.len_at_least

pub accepts_from-requires : goal.accepts_from-requires
accepts_from-requires c = ap (λ (z : Config). well_placed c.args.t.now.machine.states (length c.args.word.now) z) c.start_at.ensures ∙ start_well_placed c.args.t.now.machine c.args.word.now _ c.if-t-q.false

pub returns-then-is_initial : goal.returns-then-is_initial
returns-then-is_initial c = pass (lt-ltb _ _ c.if-t-q.false) (pass (sym c.is_initial.ensures ∙ c.if-is_initial.true) (c.accepts_from.ensures ∙ ap (accepting_from c.args.t.now.machine c.args.t.now.list.now c.args.word.now c.start_at.result) (take_all (length c.args.run.now - 1) (drop 1 c.args.run.now) (omega (arith, length-drop 1 c.args.run.now))) ∙ ap (λ (z : Config). accepting_from c.args.t.now.machine c.args.t.now.list.now c.args.word.now z (drop 1 c.args.run.now)) c.start_at.ensures)) ∙ run_first _ _ _ _ c.in-len1-up.len_at_least

pub returns-else-is_initial : goal.returns-else-is_initial
returns-else-is_initial c = c.if-is_initial.false ∙ (pass (lt-ltb _ _ c.if-t-q.false) (stop _ (sym c.is_initial.ensures ∙ c.if-is_initial.false)) ∙ run_first _ _ _ _ c.in-len1-up.len_at_least)
