-- The laws of specs/Reaching.antt.
--
-- reached_in  == a state is in the set of a position and a mode, if and only if some run reaches it there
-- set_is      == a set of states with the same members is that set
-- sets_length == how many numbers the sets take
-- set_at_lem      == the set of a position and a mode stands at its index in a slice that the sets were put into
use Rattle.std.specs.Prelude.{ℕ, ◌+◌, ◌*◌, ◌≤◌, ◌≡◌, refl, ◌↔◌, true, length}
use Rattle.std.proofs.Math.Path.{ap}
use Rattle.std.proofs.Common.{◌∙◌}
use mathlib.Core.List.{List, ◌++◌}
use native.Mathlib.Omega.{arith}
use Rattle.std.proofs.Math.ListN.{drop, get_or}
use Rattle.basics.specs.Each.Laws.{each_length, each_elem}
use Rattle.basics.specs.Lists.{put}
use Rattle.basics.specs.Lists.Laws.{put_zero}
use Rattle.stateset.specs.Set.{In}
use Rattle.stateset.specs.Set.Laws.{same_members, collected_is}
use Rattle.fsbm.specs.Machine.{well_formed}
use Rattle.fsbm.specs.Moves.{mode_number}
use Rattle.fsbm.specs.Moves.Laws.{mode_below}
use Rattle.fsbm.specs.Reaches.{reaches}
use Rattle.fsbm.specs.Rules.{rules}
use Rattle.fsbm.specs.declared.machine.Machine.{Machine}
use Rattle.fsbm.specs.declared.config.Mode.{Mode}
use Rattle.fsbm.specs.declared.config.Mode.TheVariants.{Normal, Buffering, Emptying}
use Rattle.language.specs.Reaches.{reaches_below}
use Rattle.reach.specs.Reaching.{set_at, sets_needed, reached_set, position_sets, reached_sets}

module _ (m : Machine) (list w : List ℕ) where
  pub reached_in : well_formed m list ≡ true → (p : ℕ) (t : Mode) (q : ℕ) → In (reached_set m list w p t) q ↔ (reaches m list w p t q ≡ true)
  unfolding reached_set
  reached_in good p t q =
      let is = (collected_is m.states (reaches m list w p t)).members q in (
        λ h. (is.0 h).2,
        λ e. let lt = reaches_below m list w good p t q e in is.1 (lt, let few = (rules m list good).states_fit in omega arith, e),
      )

  pub set_is : well_formed m list ≡ true → (p : ℕ) (t : Mode) (set : ℕ) → ((q : ℕ) → In set q ↔ (reaches m list w p t q ≡ true)) → set ≡ reached_set m list w p t
  set_is good p t set members = same_members set (reached_set m list w p t) (λ q. (λ h. (reached_in good p t q).1 ((members q).0 h), λ h. (members q).1 ((reached_in good p t q).0 h)))

  pub sets_length : length (reached_sets m list w) ≡ sets_needed w
  unfolding reached_sets
  sets_length = each_length 3 (position_sets m list w) (λ k. omega arith) (length w + 1)

  pub set_at_lem : (before : List ℕ) (p : ℕ) (t : Mode) → p ≤ length w → get_or (put 0 before (reached_sets m list w)) (set_at p t) 0 ≡ reached_set m list w p t
  unfolding reached_sets
  set_at_lem before p t le =
      ap (λ (l : List ℕ). get_or l (set_at p t) 0) (put_zero before (reached_sets m list w))
      ∙ (ap (λ (n : ℕ). get_or (reached_sets m list w ++ drop (length (reached_sets m list w)) before) n 0) (place t)
      ∙ (each_elem 3 (position_sets m list w) (λ k. refl) (length w + 1) p (mode_number t) (drop (length (reached_sets m list w)) before) (omega arith) (mode_below t) ∙ own t))
    where
      place : (t : Mode) → set_at p t ≡ 3 * p + mode_number t
      place t = omega arith

      own : (t : Mode) → get_or (position_sets m list w p) (mode_number t) 0 ≡ reached_set m list w p t
      own Normal = refl
      own Buffering = refl
      own Emptying = refl
