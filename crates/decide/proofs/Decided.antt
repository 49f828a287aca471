-- The theorems of decide: the sets are those of the states that runs reach, and those at the end of a word decide `accepted`.
--
-- decided     == a final state is reached at the end, if and only if the machine accepts the word
-- reaches_at  == a state is reached at a position in a mode by some written run, if and only if it is so in steps of copies and walks
-- normal_sets == complete sets have the states that runs reach in normal mode, and no others
use Prim.Native.Nat.{ℕ, ◌+◌}
use mathlib.Core.Path.{◌≡◌, ap}
use mathlib.Core.Logic.{◌↔◌}
use mathlib.Core.Bool.{true, not}
use mathlib.Core.List.{List}
use native.Mathlib.Omega.{arith}
use lib.ListN.{length}
use lib.Dec.{eqb}
use borrow.Author.Tests.{not-true, eqb-false, ne_eqb}
use Rattle.stateset.specs.Set.{In}
use Rattle.fsbm.specs.Machine.{well_formed}
use Rattle.fsbm.specs.Accepted.{accepted}
use Rattle.fsbm.specs.Reaches.{reaches}
use Rattle.fsbm.specs.declared.machine.Machine.{Machine}
use Rattle.fsbm.specs.declared.config.Mode.{Mode}
use Rattle.fsbm.specs.declared.config.Mode.TheVariants.{Normal}
use Rattle.basics.specs.Bools.{same_truth}
use Rattle.language.specs.Reaches.{reaches_iff_published, accepted_iff_final}
use Rattle.fsbm.specs.Rules.{rules}
use Rattle.targets.specs.Prepared.{Prepared}
use Rattle.images.specs.declared.Kinds.{Kinds}
use Rattle.images.specs.Graph.{Members, graph, KindsOf}
use Rattle.decide.specs.Reach.{Reach, At, Stage}
use Rattle.decide.specs.NormalSets.{NormalSets}
use Rattle.images.proofs.SetCases.{none_in, some_member}
use Rattle.decide.proofs.Tables.{TableOf, initial_says, final_says, buffering_says, matching_says}
use Rattle.decide.proofs.Runs.{at_run}
use Rattle.decide.proofs.Covering.{run_at}
use Rattle.decide.proofs.StageCases.{stage_reach, at_inside}

module _ (m : Machine) (list w targets : List ℕ) (good : well_formed m list ≡ true) (t : Prepared m list w targets) (k : Kinds) (kinds : KindsOf m.marks m.states k) where
  table : TableOf m list w targets k.buffering k.matching
  table =
      record {
        rules = rules m list good;
        holds = t;
        stores = buffering_says m list (rules m list good) k.buffering kinds.buffering;
        matches = matching_says m list (rules m list good) k.matching kinds.matching;
      }

  -- what is reached is what some written run reaches
  pub reaches_at : (p : ℕ) (T : Mode) (q : ℕ) → (reaches m list w p T q ≡ true) ↔ At (graph targets m.states k.buffering k.matching) w k.initial T p q
  reaches_at p T q = (
    λ e. let r = (reaches_iff_published m list w good p T q).0 e in
        run_at w table k.initial T p q r.buffer ((initial_says m list (rules m list good) k.initial kinds.initial r.first).1 r.first_initial) r.within r.run,
    λ a. let (o, io, v, run) = at_run w table k.initial T p q a in
        (reaches_iff_published m list w good p T q).1 (record {
          first = o;
          first_initial = (initial_says m list (rules m list good) k.initial kinds.initial o).0 io;
          within = at_inside (graph targets m.states k.buffering k.matching) w k.initial T p q a;
          buffer = v;
          run = run;
        }),
  )

  pub decided : (end both : ℕ) → Members end (Reach (graph targets m.states k.buffering k.matching) w k.initial (length w)) → Members both (λ q. In end q × In k.finals q)
      → not (eqb both 0) ≡ accepted m list w
  decided end both reached shared = same_truth (not (eqb both 0)) (accepted m list w) to from
    where
      to : not (eqb both 0) ≡ true → accepted m list w ≡ true
      to e =
          let (q, y) = some_member both shared.fits (eqb-false both 0 (not-true (eqb both 0) e)) in
          let (ended, is-final) = (shared.members q).0 y in
          (accepted_iff_final m list w good).1 (q, (final_says m list (rules m list good) k.finals kinds.finals q).0 is-final, (reaches_at (length w) Normal q).1 ((reached.members q).0 ended))

      from : accepted m list w ≡ true → not (eqb both 0) ≡ true
      from e =
          let (q, is-final, r) = (accepted_iff_final m list w good).0 e in
          let y = (shared.members q).1 ((reached.members q).1 ((reaches_at (length w) Normal q).0 r), (final_says m list (rules m list good) k.finals kinds.finals q).1 is-final) in
          ap not (ne_eqb both 0 (λ z. none_in z q y))

  pub normal_sets : (sets : List ℕ) → Stage (graph targets m.states k.buffering k.matching) w k.initial sets (length w + 1) → NormalSets m list w sets
  normal_sets sets st p le =
      record {
        fits = st.fitting.each p;
        members = λ q. (
          λ h. (reaches_at p Normal q).1 (st.sound p q h),
          λ e. stage_reach (graph targets m.states k.buffering k.matching) w k.initial sets (length w + 1) st (omega arith) ((reaches_at p Normal q).0 e),
        );
      }
