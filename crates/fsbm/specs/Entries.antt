-- The written form of a published run (document 01, "A written run"): the start state, then one entry a move.
--
-- entry_of m list y       == the entry that names the published move y: the number of its transition, or the entry of the change of mode
-- entries_of m list r     == the entries of the moves of the published run r, in order
-- WrittenRun m list w es == es is the start state and the entries of a published accepting run of w that starts there
use Rattle.std.specs.Prelude.{ℕ, ◌≡◌, List, [], ◌∷◌}
use Rattle.fsbm.specs.Moves.{begin_buffering, begin_emptying, back_to_normal}
use Rattle.fsbm.specs.Published.{fsbm_of, Configuration, Yields, normal, buffer, empty, begins_buffering, begins_emptying, returns_to_normal, Run, done, more, InLanguage}
use Rattle.fsbm.specs.declared.machine.Machine.{Machine}

module _ (m : Machine) (list : List ℕ) where
  unfoldable pub entry_of : {D D' : Configuration} → Yields (fsbm_of m list) D D' → ℕ
  entry_of (normal t apart outside) = t.number
  entry_of (buffer t apart outside) = t.number
  entry_of (empty t from to) = t.number
  entry_of (begins_buffering is) = begin_buffering
  entry_of (begins_emptying is) = begin_emptying
  entry_of (returns_to_normal is) = back_to_normal

  unfoldable pub entries_of : {D D' : Configuration} → Run (fsbm_of m list) D D' → List ℕ
  entries_of done = []
  entries_of (more y r) = entry_of y ∷ entries_of r

-- the published accepting run, and that it is the one written
pub record WrittenRun (m : Machine) (list w es : List ℕ) : Type 0 where
  pub accepting_run : InLanguage (fsbm_of m list) w
  pub written : es ≡ accepting_run.first ∷ entries_of m list accepting_run.run
