use Rattle.std.proofs.Common.{refl, sym, ◌∙◌, arith, ◌≡◌, true}
use borrow.Author.Tests.{not-true, not-false}
use Rattle.std.proofs.Common.{get_or, length, drop, ◌+◌}
use Rattle.fsbm.specs.Moves.{move, well_placed, accepting_from}
use Rattle.fsbm.specs.declared.config.Move.{Move}
use Rattle.fsbm.proofs.ConfigCases.{ranges, move_change, move_not_taken, move_taken, run_end, run_on, run_off}
use Rattle.fsbm.proofs.run.accepts_from.Goals as goal
use Rattle.fsbm.proofs.run.accepts_from.Goals.{then-t-k+else-not-v, else-t-k+else-not-may_take}

pub returns-then-not-v : goal.returns-then-not-v
returns-then-not-v c = run_off c.args.t.now.machine c.args.t.now.list.now c.args.word.now c.args.entries.now c.loop-entry.c c.loop-entry.entry-index c.change_mode-v.result (c.change_mode-v.ensures ∙ move_change c.args.t.now.machine _ _ _ refl refl refl c.args.t.now.list.now c.args.word.now c.loop-entry.c _ c.loop-entry.invariant.placed c.if-t-k.true) c.loop-entry-test.true c.loop-entry.invariant.same (not-true _ c.if-not-v.true)

pub returns-then-not-may_take : goal.returns-then-not-may_take
returns-then-not-may_take c = run_off c.args.t.now.machine c.args.t.now.list.now c.args.word.now c.args.entries.now c.loop-entry.c c.loop-entry.entry-index _ (move_not_taken c.args.t.now.machine _ _ _ refl refl refl c.args.t.now.list.now c.args.word.now c.loop-entry.c _ c.loop-entry.invariant.placed c.if-t-k.false c.transition-s.result c.transition-s.ensures (sym c.may_take.ensures ∙ c.if-not-may_take.true)) c.loop-entry-test.true c.loop-entry.invariant.same refl

pub after-c-requires : goal.after-c-requires
after-c-requires c = let p = ranges _ c.args.word.now c.loop-entry.c c.loop-entry.invariant.placed in (omega (arith, p.0, c.well_formed), p.1, p.2)

pub loop-entry-preserved : goal.loop-entry-preserved
loop-entry-preserved c =
    elim c.if-t-k.branch [
      | then-t-k+else-not-v w ↦ let h = on w.change_mode-v.result (w.change_mode-v.ensures ∙ move_change c.args.t.now.machine _ _ _ refl refl refl c.args.t.now.list.now c.args.word.now c.loop-entry.c _ c.loop-entry.invariant.placed w.if-t-k.true) (not-false _ w.if-not-v.false) w.c-is in record { placed = h.0; same = h.1 }
      | else-t-k+else-not-may_take w ↦ let h = on _ (move_taken c.args.t.now.machine _ _ _ refl refl refl c.args.t.now.list.now c.args.word.now c.loop-entry.c _ c.loop-entry.invariant.placed w.if-t-k.false w.transition-s.result w.transition-s.ensures (sym w.may_take.ensures ∙ w.if-not-may_take.false) w.after-c.result w.after-c.ensures) refl w.c-is in record { placed = h.0; same = h.1 }
    ]
  where
    on : (v : Move) → v ≡ move c.args.t.now.machine c.args.t.now.list.now c.args.word.now c.loop-entry.c (get_or c.args.entries.now c.loop-entry.entry-index 0) → v.allowed ≡ true → c.if-t-k.c ≡ v.config
        → (well_placed c.args.t.now.machine.states (length c.args.word.now) c.if-t-k.c ≡ true) × (accepting_from c.args.t.now.machine c.args.t.now.list.now c.args.word.now c.if-t-k.c (drop (c.loop-entry.entry-index + 1) c.args.entries.now) ≡ accepting_from c.args.t.now.machine c.args.t.now.list.now c.args.word.now c.args.first c.args.entries.now)
    on v at-v allowed is =
        let h = run_on c.args.t.now.machine c.args.t.now.list.now c.args.word.now c.args.entries.now c.loop-entry.c c.loop-entry.entry-index v at-v c.loop-entry-test.true c.loop-entry.invariant.same c.args.t.now.obeys allowed in
        rw is h

pub returns : goal.returns
returns c = c.is_accepting.ensures ∙ (run_end c.args.t.now.machine c.args.t.now.list.now c.args.word.now c.args.entries.now c.loop-entry.c c.loop-entry.entry-index c.loop-entry-test.false ∙ c.loop-entry.invariant.same)
