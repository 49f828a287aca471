-- The law of specs/Closed.antt.
--
-- yields_stays, run_stays == a move, a run stays in the sets
-- closed_empty         == a machine with such sets has an empty language
use Rattle.std.specs.Prelude.{ℕ, List}
use Rattle.fsbm.specs.Published.{FSBM, Configuration, Yields, normal, buffer, empty, begins_buffering, begins_emptying, returns_to_normal, Run, done, InLanguage}
use Rattle.fsbm.specs.declared.config.Mode.{Mode}
use Rattle.fsbm.specs.declared.config.Mode.TheVariants.{Normal, Buffering, Emptying}
use Rattle.emptiness.specs.Closed.{Closed}

module _ {M : FSBM} {At : Mode → ℕ → Type 0} (c : Closed M At) where
  yields_stays : {D D' : Configuration} → Yields M D D' → At D.mode D.state → At D'.mode D'.state
  yields_stays (normal {p = p} {x = x} {q = q} δ a b) = c.moves Normal p x q δ (a, b)
  yields_stays (buffer {p = p} {x = x} {q = q} δ a b) = c.moves Buffering p x q δ (a, b)
  yields_stays (empty {p = p} {x = x} {q = q} δ a b) = c.moves Emptying p x q δ (a, b)
  yields_stays (begins_buffering {q = q} is) = c.changes Normal q is
  yields_stays (begins_emptying {q = q} is) = c.changes Buffering q is
  yields_stays (returns_to_normal {q = q} is) = c.changes Emptying q is

  run_stays : {D D' : Configuration} → Run M D D' → At D.mode D.state → At D'.mode D'.state
  run_stays done a = a
  run_stays (Run.more y r) a = run_stays r (yields_stays y a)

  pub closed_empty : (w : List ℕ) → InLanguage M w → ⊥
  closed_empty w l = c.last l.last l.last_final (run_stays l.run (c.first l.first l.first_initial))
