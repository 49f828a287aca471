-- The ways through the functions of src/walk.rt.
--
-- leads_next, leads_elsewhere      == leads: the tables are ready for the next configuration; a transition of another state
-- scan_start, scan_found, scan_more, scan_none == the loop of scan
-- entry_change                     == a return of entry
-- known                            == what the tables are filled from
-- start_keeps                      == a return of better
-- walk_entry, walk_refresh         == what the calls in the loop of walk ask
use Prim.Native.Nat.{ℕ, ◌+◌, ◌-◌, ◌/◌, ◌%◌, ◌≤◌, ◌<◌}
use mathlib.Core.Path.{◌≡◌, sym, ap, ◌∙◌, subst}
use mathlib.Core.Bool.{Bool, true, false, false≢true}
use mathlib.Core.List.{List}
use Rattle.std.specs.Prelude.{Option, None, Some}
use native.Mathlib.Omega.{arith}
use native.Mathlib.Decide.{ℕ_discrete, dec_lt}
use native.Mathlib.Numerals.{add-one}
use lib.ListN.{length, get_or}
use borrow.Author.Tests.{eqb-true, eq-eqb}
use borrow.Author.Count.{below_more}
use Rattle.fsbm.specs.Machine.{well_formed, transition_at, mark_of}
use Rattle.fsbm.specs.Moves.{well_placed, move}
use Rattle.fsbm.specs.Published.{Configuration}
use Rattle.fsbm.specs.declared.machine.Machine.{Machine}
use Rattle.fsbm.specs.declared.machine.Transition.{Transition}
use Rattle.fsbm.specs.declared.config.Config.{Config}
use Rattle.fsbm.specs.declared.config.Move.{Move}
use Rattle.fsbm.specs.Rules.{Rules, rules, placed, buffering_below, matching_below}
use Rattle.fsbm.specs.Moves.Laws.{move_placed}
use Rattle.language.specs.Agreement.{published}
use Rattle.layers.specs.Costs.{none, at, Best}
use Rattle.adjacency.specs.Index.{Index}
use Rattle.targets.specs.Prepared.{Prepared}
use Rattle.images.specs.Graph.{KindsOf}
use Rattle.images.specs.declared.Kinds.{Kinds}
use Rattle.tables.specs.Tables.{near_of, Known}
use Rattle.runs.specs.Walk.{Ready, change_entry, Tried, Scanned, Entered, Fresh, Started}
use Rattle.runs.specs.Walk.Laws.{move_from, ready_step, go_kept, change_must, Walking, walk_fresh}

pub best_at : {m : Machine} {list : List ℕ} {N : ℕ → ℕ} {C : Configuration} (d e : ℕ) → e ≡ d → Best m list N C d → Best m list N C e
best_at {m} {list} {N} {C} d e z best = subst (Best m list N C) (sym z) best

module _ (m : Machine) (list sets w : List ℕ) (c : Config) (k : ℕ) (v : Move) (is : v ≡ move m list w c k) where
  pub leads_next : (t emptied stored : List (List ℕ)) → well_formed m list ≡ true → well_placed m.states (length w) c ≡ true → Ready m list sets w t emptied stored c → k < m.transitions → v.allowed ≡ true
      → (well_placed m.states (length w) v.config ≡ true) × Ready m list sets w t emptied stored v.config
  leads_next t emptied stored good p ready lt h =
      let h' : (move m list w c k).allowed ≡ true = sym (ap (λ (z : Move). z.allowed) is) ∙ h in
      let same : (move m list w c k).config ≡ v.config = ap (λ (z : Move). z.config) (sym is) in (
        subst (λ (x : Config). well_placed m.states (length w) x ≡ true) same (move_placed m list w good c k h'),
        subst (Ready m list sets w t emptied stored) same (ready_step m list sets w t emptied stored c k lt ready (placed m w c p) h'),
      )

pub leads_elsewhere : (m : Machine) (list sets w : List ℕ) (c : Config) (d k : ℕ) → k < m.transitions → (s : Transition) → s ≡ transition_at list k → (s.from ≡ c.state → ⊥) → Tried m list sets w c d k false
leads_elsewhere m list sets w c d k lt s is other =
    record { good = λ z. absurd (false≢true z); bad = λ z h. absurd (other (ap (λ (x : Transition). x.from) is ∙ move_from m list sets w c k lt h)) }

-- no transition below k leads there
pub Passed : Machine → List ℕ → List ℕ → List ℕ → Config → ℕ → ℕ → Type 0
Passed m list sets w c d k = (j : ℕ) → j < k → (move m list w c j).allowed ≡ true → (g : ℕ) × Best m list (near_of m w sets) (published w (move m list w c j).config) g × (g ≡ d → ⊥)

module _ (m : Machine) (list sets w : List ℕ) (c : Config) (d : ℕ) where
  pub scan_start : (first : List ℕ) → Index m list first → c.state ≤ m.states → Passed m list sets w c d (get_or first c.state 0)
  unfolding Passed
  scan_start first i le j l a =
      let in_list : j < m.transitions = omega (arith, i.within c.state le) in
      let below : (transition_at list j).from < c.state = (i.below c.state j le in_list).0 l in
      let same = move_from m list sets w c j in_list a in
      absurd (omega arith)

  pub scan_found : (k : ℕ) (b : Bool) → k < m.transitions → Passed m list sets w c d k → Tried m list sets w c d k b → b ≡ true → Scanned m list sets w c d (Some k)
  unfolding Passed
  scan_found k b lt f t h = record { found = λ j e. at j (let z : k ≡ j = cc in z); before = f }
    where
      at : (j : ℕ) → k ≡ j → (j < m.transitions) × ((move m list w c j).allowed ≡ true) × Best m list (near_of m w sets) (published w (move m list w c j).config) d
      at j z = subst (λ (i : ℕ). (i < m.transitions) × ((move m list w c i).allowed ≡ true) × Best m list (near_of m w sets) (published w (move m list w c i).config) d) z (let g = t.good h in (lt, g.0, g.1))

  pub scan_more : (k : ℕ) (b : Bool) → Passed m list sets w c d k → Tried m list sets w c d k b → b ≡ false → Passed m list sets w c d (k + 1)
  unfolding Passed
  scan_more k b f t h j l a = on (ℕ_discrete j k) a
    where
      on : Dec (j ≡ k) → (move m list w c j).allowed ≡ true → (g : ℕ) × Best m list (near_of m w sets) (published w (move m list w c j).config) g × (g ≡ d → ⊥)
      on (yes z) = subst (λ (i : ℕ). (move m list w c i).allowed ≡ true → (g : ℕ) × Best m list (near_of m w sets) (published w (move m list w c i).config) g × (g ≡ d → ⊥)) (sym z) (t.bad h)
      on (no z) = f j (omega arith)

  pub scan_none : (first : List ℕ) (k : ℕ) → Index m list first → c.state < m.states → get_or first (c.state + 1) 0 ≤ k → Passed m list sets w c d k → Scanned m list sets w c d None
  unfolding Passed
  scan_none first k i lt end f = record { found = λ q e. absurd (none_some q e); before = λ j l a. on j l a (dec_lt j k) }
    where
      none_some : (q : ℕ) → ◌≡◌ {A = Option ℕ} None (Some q) → ⊥
      none_some q e = cc

      on : (j : ℕ) → j < m.transitions → (move m list w c j).allowed ≡ true → Dec (j < k) → (g : ℕ) × Best m list (near_of m w sets) (published w (move m list w c j).config) g × (g ≡ d → ⊥)
      on j l a (yes b) = f j b a
      on j l a (no b) =
          let same = move_from m list sets w c j l a in
          let before : j < get_or first (c.state + 1) 0 = (i.below (c.state + 1) j (omega arith) l).1 (omega arith) in
          absurd (omega arith)

  pub entry_change : Scanned m list sets w c d None → well_formed m list ≡ true → well_placed m.states (length w) c ≡ true → Best m list (near_of m w sets) (published w c) (d + 1) → d + 1 < none
      → (e : ℕ) → e ≡ change_entry c.mode → Entered m list sets w c d e
  entry_change s good p best small e is =
      let z = add-one d in
      subst (Entered m list sets w c d) (sym is) (change_must m list sets w good c p d (rw add-one at best) (omega arith) s.before)

-- The start state

pub start_keeps : (m : Machine) (row : List ℕ) (k : ℕ) (b : Option ℕ) → Started m row k b → (q : ℕ) → b ≡ Some q → at row q ≤ at row k → Started m row (k + 1) b
start_keeps m row k b s q e le = record { is_initial = s.is_initial; least = below_more _ k s.least (λ h. (q, e, le)) }

-- The walk

back_one : (d : ℕ) → 0 < d → d ≡ d - 1 + 1
back_one d pos = omega arith

pub walk_entry : (m : Machine) (list sets w : List ℕ) (t emptied stored : List (List ℕ)) (run₀ run : List ℕ) (c : Config) (d k : ℕ) → 0 < d → Walking m list sets w t emptied stored run₀ run c d k
    → Best m list (near_of m w sets) (published w c) (d - 1 + 1) × (d - 1 + 1 < none)
walk_entry m list sets w t emptied stored run₀ run c d k pos f = (subst (Best m list (near_of m w sets) (published w c)) (back_one d pos) f.best, omega (arith, f.small))

pub walk_refresh : (m : Machine) (list sets w : List ℕ) → well_formed m list ≡ true → (t emptied stored : List (List ℕ)) (run₀ run : List ℕ) (c : Config) (d k : ℕ) → 0 < d → Walking m list sets w t emptied stored run₀ run c d k
    → {e : ℕ} → Entered m list sets w c (d - 1) e → (v : Move) → v ≡ move m list w c e → Fresh m list sets w t emptied stored v.config e
walk_refresh m list sets w good t emptied stored run₀ run c d k pos f {e} entered v is =
    subst (λ (x : Config). Fresh m list sets w t emptied stored x e) (ap (λ (z : Move). z.config) (sym is))
    (walk_fresh m list sets w good t emptied stored c (d - 1) e f.placed_there f.ready (omega (arith, f.small)) (go_kept m list sets w c d pos (f.best.realised f.small)) entered)

-- What the tables are filled from

pub known : (m : Machine) (list targets w : List ℕ) (k : Kinds) → well_formed m list ≡ true → Prepared m list w targets → KindsOf m.marks m.states k → Known m list targets k.buffering k.matching w
known m list targets w k good p kinds =
    record {
      given = record {
        good = good;
        epsilon = p.epsilon;
        sources = p.sources;
        bufferings = λ q. (
          λ h. eq-eqb (mark_of m.marks q / 4 % 2) 1 ((kinds.buffering.members q).0 h).1,
          λ h. (kinds.buffering.members q).1 (buffering_below m list r q h, eqb-true (mark_of m.marks q / 4 % 2) 1 h),
        );
        matchings = λ q. (
          λ h. eq-eqb (mark_of m.marks q / 8 % 2) 1 ((kinds.matching.members q).0 h).1,
          λ h. (kinds.matching.members q).1 (matching_below m list r q h, eqb-true (mark_of m.marks q / 8 % 2) 1 h),
        );
      };
      letters = p.letters;
    }
  where
    r : Rules m list
    r = rules m list good
