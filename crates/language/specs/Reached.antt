-- The configurations that runs on a word reach, computed. The laws stand in specs/Reached/Laws.antt.
--
-- same_config c d          == c and d agree in every field (a Bool)
-- entries n               == every entry that can name a move of a machine of n transitions
-- successors m list w c   == the configurations after c, one for each allowed entry
-- starts m                == the configurations that a run may start in
-- reached m list w        == every configuration that a run of at most run_bound moves reaches
-- decided m list w        == some reached configuration accepts
use Rattle.std.specs.Prelude.{ℕ, List, ◌∷◌, Bool, ◌&&◌, length, eqb}
use Rattle.basics.specs.Search.{any_in}
use Rattle.graphs.specs.Reach.{reach}
use Rattle.fsbm.specs.Machine.{initial}
use Rattle.fsbm.specs.Moves.{well_placed, reads_letter, passes, reads_stored, may_take, after, changes, move, start_at, accepts, begin_buffering, begin_emptying, back_to_normal}
use Rattle.fsbm.specs.Accepted.{run_bound}
use Rattle.fsbm.specs.Reaches.{same_mode}
use Rattle.fsbm.specs.declared.machine.Machine.{Machine}
use Rattle.fsbm.specs.declared.config.Config.{Config}
use Rattle.language.specs.Chosen.{numbers, chosen}
pub mod Laws

unfoldable pub same_config : Config → Config → Bool
same_config c d =
    eqb c.position d.position
    && (eqb c.state d.state && (same_mode c.mode d.mode && (eqb c.start d.start && eqb c.end d.end)))

unfoldable pub entries : ℕ → List ℕ
unfolding numbers
entries n = begin_buffering ∷ begin_emptying ∷ back_to_normal ∷ numbers n

unfoldable pub successors : Machine → List ℕ → List ℕ → Config → List Config
unfolding chosen entries move well_placed passes reads_stored may_take after changes reads_letter
successors m list w c = chosen (λ e. (move m list w c e).allowed) (λ e. (move m list w c e).config) (entries m.transitions)

unfoldable pub starts : Machine → List Config
unfolding chosen numbers
starts m = chosen (initial m.marks) start_at (numbers m.states)

unfoldable pub reached : Machine → List ℕ → List ℕ → List Config
unfolding reach successors same_config starts run_bound
reached m list w = reach (successors m list w) same_config (run_bound m (length w)) (starts m)

unfoldable pub decided : Machine → List ℕ → List ℕ → Bool
unfolding any_in reached accepts
decided m list w = any_in (accepts m.marks (length w)) (reached m list w)
