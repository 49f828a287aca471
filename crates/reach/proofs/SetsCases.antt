-- The sets of all positions: put_sets, and that they are the sets which reach promises.
--
-- sets_turn  == one position more is put
-- store_at, match_at == what is added from the sets of normal mode is what runs reach while storing, while matching
-- sets_are   == the sets of all positions are those that reach promises
use Prim.Native.Nat.{ℕ, ◌+◌, ◌≤◌, ◌<◌}
use mathlib.Core.Path.{◌≡◌, refl}
use mathlib.Core.Logic.{◌↔◌, ◌⊎◌, inl, inr}
use mathlib.Core.Bool.{true}
use mathlib.Core.List.{List, [], ◌∷◌}
use native.Mathlib.Omega.{arith}
use lib.ListN.{length, get_or, set, replicate}
use Rattle.basics.specs.Each.{each_below}
use Rattle.basics.specs.Each.Laws.{each_same, each_more}
use Rattle.basics.specs.Lists.{put}
use Rattle.basics.specs.Lists.Laws.{put_three, zeros_at}
use Rattle.stateset.specs.Set.{In}
use Rattle.fsbm.specs.Machine.{well_formed}
use Rattle.fsbm.specs.Reaches.{reaches}
use Rattle.fsbm.specs.declared.machine.Machine.{Machine}
use Rattle.fsbm.specs.declared.config.Mode.{Mode}
use Rattle.fsbm.specs.declared.config.Mode.TheVariants.{Normal, Buffering, Emptying}
use Rattle.images.specs.Graph.{Graph, graph, KindsOf}
use Rattle.images.specs.declared.Kinds.{Kinds}
use Rattle.images.proofs.SetCases.{none_in}
use Rattle.targets.specs.Prepared.{Prepared}
use Rattle.decide.specs.Reach.{StoringAt, MatchingAt, At, Stage}
use Rattle.decide.proofs.Decided.{reaches_at, normal_sets}
use Rattle.decide.proofs.StageCases.{stage_reach, reach_inside}
use Rattle.reach.specs.Copies.{Added, SomeStore, SomeMatch}
use Rattle.reach.specs.Reaching.{sets_before, reached_set, position_sets, reached_sets}
use Rattle.reach.specs.Reaching.Laws.{set_is}

module _ (normal storing matching : List ℕ) where
  -- the sets of one position
  abbrev pub three : ℕ → List ℕ
  three p = get_or normal p 0 ∷ get_or storing p 0 ∷ get_or matching p 0 ∷ []

  pub sets_turn : (l l1 : List ℕ) (p at : ℕ) → l1 ≡ put 0 l (each_below p three) → at ≡ sets_before p → length l1 ≡ length l → sets_before (p + 1) ≤ length l
      → set (set (set l1 at (get_or normal p 0)) (at + 1) (get_or storing p 0)) (at + 2) (get_or matching p 0) ≡ put 0 l (each_below (p + 1) three)
  sets_turn l l1 p at e a same room =
      each_more 3 0 three (λ k. refl) l l1 _ (three p) p at e (put_three l1 at (get_or normal p 0) (get_or storing p 0) (get_or matching p 0) (omega arith)) refl (omega arith) (omega arith)

-- What copies reach from the sets of normal mode

module _ (G : Graph) (w : List ℕ) (start : ℕ) (normal : List ℕ) (stage : Stage G w start normal (length w + 1)) (p q : ℕ) where
  pub store_at : SomeStore G w normal (length w + 1) p q ↔ StoringAt G w start p q
  store_at = (
    λ (z : SomeStore G w normal (length w + 1) p q). let (i, lt, s) = z in
        record { from = i; first = s.first; reach = stage.sound i s.first s.begins; stores = s.stores; storing = s.storing; inside = s.inside },
    λ (a : StoringAt G w start p q). (
      a.from,
      let le = reach_inside G w start a.reach in omega arith,
      record {
        first = a.first;
        begins = stage_reach G w start normal (length w + 1) stage (omega arith) a.reach;
        stores = a.stores;
        storing = a.storing;
        inside = a.inside;
      },
    ),
  )

  pub match_at : SomeMatch G w normal (length w + 1) p q ↔ MatchingAt G w start p q
  match_at = (
    λ (z : SomeMatch G w normal (length w + 1) p q). let (i, lt, d) = z in
        let s = d.stored in
        record {
          from = i;
          first = s.first;
          reach = stage.sound i s.first s.begins;
          stores = s.stores;
          end = d.end;
          middle = d.middle;
          storing = s.storing;
          matching = d.matching;
        },
    λ (a : MatchingAt G w start p q). (
      a.from,
      let le = reach_inside G w start a.reach in omega arith,
      record {
        end = a.end;
        middle = a.middle;
        stored = record {
          first = a.first;
          begins = stage_reach G w start normal (length w + 1) stage (omega arith) a.reach;
          stores = a.stores;
          storing = a.storing;
          inside = let e = a.matching.position in let le = a.matching.inside in omega arith;
        };
        matching = a.matching;
      },
    ),
  )

-- states that are added to empty sets
added_empty : (b : List ℕ) (P : ℕ → ℕ → Type 0) → Added (replicate 256 0) b P → (p q : ℕ) → In (get_or b p 0) q ↔ P p q
added_empty b P d p q = (λ h. to ((d.members p q).0 h), λ z. (d.members p q).1 (inr z))
  where
    to : In (get_or (replicate 256 0) p 0) q ⊎ P p q → P p q
    to (inl h) = absurd (none_in (zeros_at 256 p) q h)
    to (inr z) = z

module _ (m : Machine) (list w targets : List ℕ) (good : well_formed m list ≡ true) (t : Prepared m list w targets) (k : Kinds) (kinds : KindsOf m.marks m.states k) (normal storing matching : List ℕ) where
  abbrev G : Graph
  G = graph targets m.states k.buffering k.matching

  pub sets_are : Stage G w k.initial normal (length w + 1) → Added (replicate 256 0) storing (SomeStore G w normal (length w + 1))
      → Added (replicate 256 0) matching (SomeMatch G w normal (length w + 1)) → each_below (length w + 1) (three normal storing matching) ≡ reached_sets m list w
  unfolding reached_sets
  sets_are stage stored matched = each_same (length w + 1) (three normal storing matching) (position_sets m list w) each
    where
      -- a set whose members are those of a mode
      exact : (T : Mode) (p set : ℕ) → ((q : ℕ) → In set q ↔ At G w k.initial T p q) → (q : ℕ) → In set q ↔ (reaches m list w p T q ≡ true)
      exact T p set is q = (
        λ h. (reaches_at m list w targets good t k kinds p T q).1 ((is q).0 h),
        λ e. (is q).1 ((reaches_at m list w targets good t k kinds p T q).0 e),
      )

      first : (p : ℕ) → p < length w + 1 → get_or normal p 0 ≡ reached_set m list w p Normal
      first p lt = set_is m list w good p Normal (get_or normal p 0) (normal_sets m list w targets good t k kinds normal stage p (omega arith)).members

      second : (p : ℕ) → get_or storing p 0 ≡ reached_set m list w p Buffering
      second p =
          set_is m list w good p Buffering (get_or storing p 0) (exact Buffering p (get_or storing p 0) (λ q. (
            λ h. (store_at G w k.initial normal stage p q).0 ((added_empty storing (SomeStore G w normal (length w + 1)) stored p q).0 h),
            λ a. (added_empty storing (SomeStore G w normal (length w + 1)) stored p q).1 ((store_at G w k.initial normal stage p q).1 a),
          )))

      third : (p : ℕ) → get_or matching p 0 ≡ reached_set m list w p Emptying
      third p =
          set_is m list w good p Emptying (get_or matching p 0) (exact Emptying p (get_or matching p 0) (λ q. (
            λ h. (match_at G w k.initial normal stage p q).0 ((added_empty matching (SomeMatch G w normal (length w + 1)) matched p q).0 h),
            λ a. (added_empty matching (SomeMatch G w normal (length w + 1)) matched p q).1 ((match_at G w k.initial normal stage p q).1 a),
          )))

      each : (p : ℕ) → p < length w + 1 → three normal storing matching p ≡ position_sets m list w p
      each p lt = λ i. first p lt i ∷ second p i ∷ third p i ∷ []
