-- The laws of specs/Reached.antt.
--
-- same_config_law        == the test is equality
-- move_entry            == an allowed entry is one of `entries`
-- successor_of, successor_to == the successors of c are where its allowed entries lead
-- entries_path, path_entries == entries that lead from c to an accepting configuration are a path of successors to one
-- decided_run           == decided: some run accepts
-- run_decided           == some run within the bound accepts: decided
-- decided_accepted      == for a well-formed machine `decided` is `accepted`
use Rattle.std.specs.Prelude.{ℕ, ◌≤◌, ◌≡◌, refl, ◌↔◌, true, ◌&&◌, length, ltb}
use Rattle.std.proofs.Common.{sym, subst, arith, ltb-true, lt-ltb, eqb-true, eq-eqb}
use Rattle.std.proofs.lemmas.Bool.{false≢true}
use mathlib.Core.List.{List, [], ◌∷◌, Memᴰ}
use Rattle.std.proofs.Math.Dec.{eqb}
use Rattle.basics.specs.Search.Laws.{and_true, and_both_true, any_in_true}
use Rattle.graphs.specs.Paths.{Path, here, step}
use Rattle.graphs.specs.Reach.{Edges}
use Rattle.graphs.specs.Reach.Laws.{reach_sound, reach_complete}
use Rattle.fsbm.specs.Machine.{well_formed, initial, buffering, matching}
use Rattle.fsbm.specs.Moves.{may_change, move, start_at, accepts, accepting_from, accepting, begin_buffering, begin_emptying, back_to_normal}
use Rattle.fsbm.specs.Moves.Laws.{move_elim}
use Rattle.fsbm.specs.Accepted.{run_bound, accepted}
use Rattle.fsbm.specs.Accepted.Laws.{accepted_true}
use Rattle.fsbm.specs.Reaches.{same_mode}
use Rattle.fsbm.specs.Reaches.Laws.{same_mode_law}
use Rattle.fsbm.specs.declared.machine.Machine.{Machine}
use Rattle.fsbm.specs.declared.config.Config.{Config}
use Rattle.fsbm.specs.declared.config.Mode.{Mode}
use Rattle.fsbm.specs.declared.config.Mode.TheVariants.{Normal, Buffering, Emptying}
use Rattle.basics.specs.Bools.{same_truth}
use Rattle.language.specs.Bound.{accepted_iff_run}
use Rattle.language.specs.Chosen.{numbers, numbers_of, numbers_to, chosen_of, chosen_to}
use Rattle.language.specs.Reached.{same_config, entries, successors, starts, reached, decided}

-- Equality

pub same_config_law : (c d : Config) → (same_config c d ≡ true) ↔ (c ≡ d)
unfolding same_config
same_config_law c d = (to, λ e. subst (λ (x : Config). same_config c x ≡ true) e of)
  where
    to : same_config c d ≡ true → c ≡ d
    to h =
        let (p, r₁) = and_true (eqb c.position d.position) (eqb c.state d.state && (same_mode c.mode d.mode && (eqb c.start d.start && eqb c.end d.end))) h in
        let (q, r₂) = and_true (eqb c.state d.state) (same_mode c.mode d.mode && (eqb c.start d.start && eqb c.end d.end)) r₁ in
        let (t, r₃) = and_true (same_mode c.mode d.mode) (eqb c.start d.start && eqb c.end d.end) r₂ in
        let (s, e) = and_true (eqb c.start d.start) (eqb c.end d.end) r₃ in
        λ i. record {
          position = eqb-true c.position d.position p i;
          state = eqb-true c.state d.state q i;
          mode = (same_mode_law c.mode d.mode).0 t i;
          start = eqb-true c.start d.start s i;
          end = eqb-true c.end d.end e i;
        }

    of : same_config c c ≡ true
    of =
        and_both_true (eqb c.position c.position) _ (eq-eqb c.position c.position refl)
        (and_both_true (eqb c.state c.state) _ (eq-eqb c.state c.state refl)
        (and_both_true (same_mode c.mode c.mode) _ ((same_mode_law c.mode c.mode).1 refl)
        (and_both_true (eqb c.start c.start) _ (eq-eqb c.start c.start refl) (eq-eqb c.end c.end refl))))

-- Successors

module _ (m : Machine) (list w : List ℕ) where
  -- an entry that changes the mode is one of the three
  change_entry_lem : (c : Config) (e : ℕ) (t : Mode) → may_change m.marks c e t ≡ true → Memᴰ e (entries m.transitions)
  unfolding entries
  change_entry_lem c e Normal h =
      Memᴰ.head (eqb-true e begin_buffering (and_true (eqb e begin_buffering) (buffering m.marks c.state && eqb c.start c.end) h).0)
  change_entry_lem c e Buffering h =
      Memᴰ.tail (Memᴰ.head (eqb-true e begin_emptying (and_true (eqb e begin_emptying) (matching m.marks c.state) h).0))
  change_entry_lem c e Emptying h =
      Memᴰ.tail (Memᴰ.tail
      (Memᴰ.head (eqb-true e back_to_normal (and_true (eqb e back_to_normal) (matching m.marks c.state && eqb c.start c.end) h).0)))

  pub move_entry : (c : Config) (e : ℕ) → (move m list w c e).allowed ≡ true → Memᴰ e (entries m.transitions)
  unfolding entries
  move_entry c e =
      move_elim m list w c e (λ d. Memᴰ e (entries m.transitions))
      (λ p lt t. Memᴰ.tail (Memᴰ.tail (Memᴰ.tail (numbers_of m.transitions e lt))))
      (λ p ge h. change_entry_lem c e c.mode h)

  pub successor_of : (c : Config) (e : ℕ) → (move m list w c e).allowed ≡ true → Edges (successors m list w) c (move m list w c e).config
  unfolding successors
  successor_of c e h = chosen_of (λ e. (move m list w c e).allowed) (λ e. (move m list w c e).config) (move_entry c e h) h

  pub successor_to : (c d : Config) → Edges (successors m list w) c d → (e : ℕ) × ((move m list w c e).allowed ≡ true) × ((move m list w c e).config ≡ d)
  unfolding successors
  successor_to c d k =
      let (e, named, a, to) = chosen_to (λ e. (move m list w c e).allowed) (λ e. (move m list w c e).config) (entries m.transitions) k in
      (e, a, to)

  -- Runs are paths

  pub entries_path : (c : Config) (es : List ℕ) → accepting_from m list w c es ≡ true
      → (d : Config) × (accepts m.marks (length w) d ≡ true) × Path Config (Edges (successors m list w)) c d (length es)
  unfolding accepting_from
  entries_path c [] h = (c, h, here)
  entries_path c (e ∷ es) h =
      let (a, rest) = and_true (move m list w c e).allowed (accepting_from m list w (move m list w c e).config es) h in
      let (d, ok, p) = entries_path (move m list w c e).config es rest in
      (d, ok, step (successor_of c e a) p)

  pub path_entries : {c d : Config} {n : ℕ} → Path Config (Edges (successors m list w)) c d n → accepts m.marks (length w) d ≡ true → (es : List ℕ) × (accepting_from m list w c es ≡ true)
  unfolding accepting_from
  path_entries here h = ([], h)
  path_entries (step {u = c} {v = d} s p) h =
      let (e, a, to) = successor_to c d s in
      let (es, rest) = path_entries p h in (
        e ∷ es,
        and_both_true (move m list w c e).allowed (accepting_from m list w (move m list w c e).config es) a
            (subst (λ (x : Config). accepting_from m list w x es ≡ true) (sym to) rest),
      )

-- The decision

module _ (m : Machine) (list w : List ℕ) where
  pub decided_run : decided m list w ≡ true → (run : List ℕ) × (accepting m list w run ≡ true)
  unfolding decided reached starts accepting
  decided_run h =
      let (d, found, ok) = (any_in_true (accepts m.marks (length w)) (reached m list w)).0 h in
      let r = reach_sound (successors m list w) same_config (run_bound m (length w)) (starts m) found in
      let (q, named, i, e) = chosen_to (initial m.marks) start_at (numbers m.states) r.member in
      let (es, a) = path_entries m list w r.path ok in (
        q ∷ es,
        and_both_true (ltb q m.states) (initial m.marks q && accepting_from m list w (start_at q) es) (lt-ltb q m.states (numbers_to m.states named))
            (and_both_true (initial m.marks q) (accepting_from m list w (start_at q) es) i (subst (λ (c : Config). accepting_from m list w c es ≡ true) (sym e) a)),
      )

  pub run_decided : (run : List ℕ) → length run ≤ run_bound m (length w) → accepting m list w run ≡ true → decided m list w ≡ true
  unfolding decided reached starts accepting
  run_decided [] le h = absurd (false≢true h)
  run_decided (q ∷ es) le h =
      let (lt, r) = and_true (ltb q m.states) (initial m.marks q && accepting_from m list w (start_at q) es) h in
      let (i, a) = and_true (initial m.marks q) (accepting_from m list w (start_at q) es) r in
      let (d, ok, p) = entries_path m list w (start_at q) es a in
      (any_in_true (accepts m.marks (length w)) (reached m list w)).1 (
        d,
        reach_complete (successors m list w) same_config same_config_law (run_bound m (length w)) (starts m) (omega arith)
            (chosen_of (initial m.marks) start_at (numbers_of m.states q (ltb-true q m.states lt)) i) p,
        ok,
      )

  pub decided_accepted : well_formed m list ≡ true → decided m list w ≡ accepted m list w
  decided_accepted good =
      same_truth (decided m list w) (accepted m list w) (λ t. (accepted_iff_run m list w good).1 (decided_run t))
      (λ t. let (run, len, below, a) = (accepted_true m list w).0 t in run_decided run len a)
