-- The laws of specs/Walk.antt.
--
-- best_normal .. best_emptying == where the cost of a configuration is read from
-- Kept c t c', move_kept       == what a transition leaves alone
-- ready_step                   == after a transition the tables are still ready
-- change_is                    == an allowed entry that is no transition changes the mode
-- go_first, change_must        == some entry has one move less to go: where no transition has, the change of mode
-- go_second                    == a way to acceptance from emptying mode: the buffer stands at the front of the input
-- go_kept, run_kept            == what has a way of moves, or is reached by a run, is kept
-- accepts_go, go_accepts, entries_go == runs and ways
use Rattle.std.specs.Prelude.{Option, Some, is_some, ℕ, suc, ◌+◌, ◌-◌, ◌*◌, ◌≤◌, ◌<◌, ◌⊎◌, Bool, false, cond, ◌&&◌, get_or, set, ltb}
use Rattle.std.proofs.Math.Path.{◌≡◌, refl, sym, ap, subst}
use Rattle.std.proofs.Common.{◌∙◌, mul-le-mul_left, take-append-drop, take-suc-set}
use Rattle.std.proofs.Math.Logic.{inl, inr}
use Rattle.std.proofs.Math.Bool.{true}
use Rattle.std.proofs.lemmas.Bool.{false≢true}
use mathlib.Core.List.{List, [], ◌∷◌, ◌++◌, append-nil, append_assoc}
use native.Mathlib.Omega.{arith}
use Rattle.std.proofs.Math.Decide.{dec_lt}
use Rattle.std.proofs.Math.Numerals.{add-one}
use Rattle.std.proofs.Math.ListN.{length, take, drop, length-set, length-drop, length-append}
use Rattle.std.proofs.Math.Seq.{slice, slice-cons, slice_empty, length-slice, ext_get_or, drop-length, drop-set-lt, drop-drop}
use Rattle.std.proofs.Math.Dec.{eqb}
use borrow.Author.Tests.{ltb-true, eqb-true, eq-eqb, lt-ltb}
use Rattle.stateset.specs.Set.{width, In, below}
use Rattle.stateset.specs.Set.Laws.{in_and, below_is}
use Rattle.basics.specs.Search.Laws.{and_true, and_both_true, true_or_false}
use Rattle.graphs.specs.Paths.{Path, here, step}
use Rattle.fsbm.specs.Machine.{well_formed, transition_at, buffering, matching, final, initial}
use Rattle.fsbm.specs.Moves.{well_placed, buffer_fits, advanced, reads_stored, after, may_change, changed, move, is_normal, accepts, accepting_from, accepting, start_at, begin_buffering, begin_emptying, back_to_normal}
use Rattle.fsbm.specs.Accepted.{accepted, run_bound}
use Rattle.fsbm.specs.Accepted.Laws.{accepted_true}
use Rattle.fsbm.specs.Published.{fsbm_of, Configuration, config, Yields, Run, done, more}
use Rattle.fsbm.specs.declared.machine.Machine.{Machine}
use Rattle.fsbm.specs.declared.machine.Transition.{Transition}
use Rattle.fsbm.specs.declared.config.Config.{Config}
use Rattle.fsbm.specs.declared.config.Mode.{Mode}
use Rattle.fsbm.specs.declared.config.Mode.TheVariants.{Normal, Buffering, Emptying}
use Rattle.fsbm.specs.Rules.{Rules, rules, Placed, placed, unplaced}
use Rattle.fsbm.specs.Moves.Laws.{advanced_fits, move_elim, move_placed}
use Rattle.language.specs.Strings.{slice_none}
use Rattle.fsbm.specs.Entries.{entry_of}
use Rattle.language.specs.Agreement.{published, move_yields, yields_move, is_normal_lem}
use Rattle.language.specs.NoWord.{next_mode}
use Rattle.language.specs.Reaches.{reaches_iff_published}
use Rattle.layers.specs.Costs.{none, at, Near, Step, Go, Best}
use Rattle.layers.specs.Costs.Laws.{Fits, go_fit, go_step}
use Rattle.layers.specs.Layers.{blank_row, Begins}
use Rattle.layers.specs.Layers.Laws.{blank_at}
use Rattle.tables.specs.Tables.{near_of, row_at, PositionRows, EmptyRow, BufferRow, Sized}
use Rattle.tables.specs.Tables.Laws.{slice_at, front_letters, buffer_past}
use Rattle.decide.specs.NormalSets.{NormalSets}
use Rattle.runs.specs.Walk.{end_of, Second, Ready, change_entry, Entered, Fresh, Refreshed, Started, Written}

-- Where the cost is read from

module _ (m : Machine) (list sets w : List ℕ) (t emptied stored : List (List ℕ)) (c : Config) (ready : Ready m list sets w t emptied stored c) (pl : Placed m w c c.mode) where
  same_published : (v : List ℕ) (s : Mode) (d : ℕ) → slice c.start c.end w ≡ v → c.mode ≡ s → Best m list (near_of m w sets) (config (drop c.position w) c.state v s) d → Best m list (near_of m w sets) (published w c) d
  same_published v s d a b best = rw (a, b) best

  empty_buffer : c.start ≡ c.end → slice c.start c.end w ≡ []
  empty_buffer e = ap (λ (n : ℕ). slice n c.end w) e ∙ slice_empty c.end w

  fits_as : (s : Mode) → c.mode ≡ s → buffer_fits c s ≡ true
  fits_as s e = subst (λ (z : Mode). buffer_fits c z ≡ true) e pl.fits

  pub best_normal : c.mode ≡ Normal → Best m list (near_of m w sets) (published w c) (at (row_at t (c.position * 3)) c.state)
  unfolding PositionRows
  best_normal e =
      same_published [] Normal _ (empty_buffer (eqb-true c.start c.end (fits_as Normal e))) e ((ready.positions c.position pl.in_word).normal c.state pl.state_below)

  pub best_begun : c.mode ≡ Buffering → c.position - c.start ≡ 0 → Best m list (near_of m w sets) (published w c) (at (row_at t (c.position * 3 + 1)) c.state)
  unfolding PositionRows
  best_begun e z =
      let ends = eqb-true c.end c.position (fits_as Buffering e) in
      let here : c.start ≡ c.position = omega (arith, pl.forward) in
      same_published [] Buffering _ (empty_buffer (omega (arith, pl.forward))) e
      ((ready.positions c.position pl.in_word).buffering (subst (λ (k : ℕ). Begins m (near_of m w sets) (drop k w)) here (ready.begun e)) c.state pl.state_below)

  module _ (e : c.mode ≡ Buffering) where
    here_is : c.start + (c.position - c.start) ≡ c.position
    here_is = omega (arith, pl.forward, pl.behind)

    stored_is : slice c.start c.end w ≡ slice c.start (c.start + (c.position - c.start)) w
    stored_is =
        let ends = eqb-true c.end c.position (fits_as Buffering e) in
        ap (λ (n : ℕ). slice c.start n w) (ends ∙ sym here_is)

    buffered : (row : List ℕ) → BufferRow m list sets w c.start (c.position - c.start) row → Best m list (near_of m w sets) (published w c) (at row c.state)
    unfolding BufferRow
    buffered row best =
        let b : Best m list (near_of m w sets) (config (drop (c.start + (c.position - c.start)) w) c.state (slice c.start (c.start + (c.position - c.start)) w) Buffering) (at row c.state) = best c.state pl.state_below in
        same_published _ Buffering _ stored_is e (subst (λ (n : ℕ). Best m list (near_of m w sets) (config (drop n w) c.state (slice c.start (c.start + (c.position - c.start)) w) Buffering) (at row c.state)) here_is b)

    pub best_past : m.states ≤ 64 → length w < c.position + (c.position - c.start) → Best m list (near_of m w sets) (published w c) none
    best_past fit past =
        let z = blank_at c.state (omega (arith, pl.state_below)) in
        subst (Best m list (near_of m w sets) (published w c)) z
        (buffered blank_row (buffer_past m list sets w c.start (c.position - c.start) fit (omega (arith, pl.in_word, pl.forward, pl.behind)) (omega (arith, pl.forward, pl.behind))))

    pub best_buffering : 0 < c.position - c.start → c.position + (c.position - c.start) ≤ length w → Best m list (near_of m w sets) (published w c) (at (row_at stored (c.position - c.start)) c.state)
    best_buffering pos le = buffered (row_at stored (c.position - c.start)) (ready.storing e (c.position - c.start) pos (omega (arith, pl.forward, pl.behind)))

  pub best_emptying : c.mode ≡ Emptying → Best m list (near_of m w sets) (published w c) (at (row_at emptied (c.end - c.start)) c.state)
  unfolding EmptyRow
  best_emptying e =
      let s = ready.matching e in
      let z : end_of c - (c.end - c.start) ≡ c.position = omega arith in
      let b = s.rows (c.end - c.start) (omega arith) c.state pl.state_below in
      same_published _ Emptying _ s.equal e (rw z at b)

-- What a transition leaves alone

advanced_either : (p s x : ℕ) → ((advanced p x ≡ p) × (advanced s x ≡ s)) ⊎ ((advanced p x ≡ p + 1) × (advanced s x ≡ s + 1))
advanced_either p s x = at (true_or_false (eqb x 0))
  where
    at : (eqb x 0 ≡ true) ⊎ (eqb x 0 ≡ false) → ((advanced p x ≡ p) × (advanced s x ≡ s)) ⊎ ((advanced p x ≡ p + 1) × (advanced s x ≡ s + 1))
    at (inl t) = inl (ap (λ (b : Bool). cond b p (p + 1)) t, ap (λ (b : Bool). cond b s (s + 1)) t)
    at (inr f) = inr (ap (λ (b : Bool). cond b p (p + 1)) f, ap (λ (b : Bool). cond b s (s + 1)) f)

pub record Kept (c : Config) (t : Mode) (c' : Config) : Type 0 where
  pub mode_same : c'.mode ≡ t
  pub start_same : t ≡ Buffering → c'.start ≡ c.start
  pub second : t ≡ Emptying → (c'.end ≡ c.end)
      × (((c'.position ≡ c.position) × (c'.start ≡ c.start)) ⊎ ((c'.position ≡ c.position + 1) × (c'.start ≡ c.start + 1) × (c.start < c.end)))

module _ (m : Machine) (list sets w : List ℕ) where
  after_kept : (c : Config) (tr : Transition) (t : Mode) → c.start ≤ c.end → reads_stored w c tr t ≡ true → Kept c t (after c tr t)
  unfolding reads_stored after
  after_kept c tr Normal le stored = record { mode_same = refl; start_same = λ e. refl; second = λ e. let z : ◌≡◌ {A = ℕ} 0 1 = cc in absurd (omega arith) }
  after_kept c tr Buffering le stored = record { mode_same = refl; start_same = λ e. refl; second = λ e. let z : ◌≡◌ {A = ℕ} 0 1 = cc in absurd (omega arith) }
  after_kept c tr Emptying le stored =
      record {
        mode_same = refl;
        start_same = λ e. let z : ◌≡◌ {A = ℕ} 0 1 = cc in absurd (omega arith);
        second = λ e. (refl, moved (advanced_fits w c.start c.end tr.letter le stored).1 (advanced_either c.position c.start tr.letter));
      }
    where
      moved : advanced c.start tr.letter ≤ c.end
          → ((advanced c.position tr.letter ≡ c.position) × (advanced c.start tr.letter ≡ c.start)) ⊎ ((advanced c.position tr.letter ≡ c.position + 1) × (advanced c.start tr.letter ≡ c.start + 1))
          → ((advanced c.position tr.letter ≡ c.position) × (advanced c.start tr.letter ≡ c.start))
          ⊎ ((advanced c.position tr.letter ≡ c.position + 1) × (advanced c.start tr.letter ≡ c.start + 1) × (c.start < c.end))
      moved l (inl z) = inl z
      moved l (inr z) = let s = z.1 in inr (z.0, s, omega arith)

  pub move_kept : (c : Config) (k : ℕ) → k < m.transitions → (move m list w c k).allowed ≡ true → Kept c c.mode (move m list w c k).config
  move_kept c k lt =
      move_elim m list w c k (Kept c c.mode) (λ p l t. after_kept c (transition_at list k) c.mode p.forward t.stored) (λ p ge h. absurd (omega arith))

  -- and only a transition from the configuration's state is taken
  pub move_from : (c : Config) (k : ℕ) → k < m.transitions → (move m list w c k).allowed ≡ true → (transition_at list k).from ≡ c.state
  move_from c k lt = move_elim m list w c k (λ d. (transition_at list k).from ≡ c.state) (λ p l t. t.leaves) (λ p ge h. absurd (omega arith))

  -- the second half goes on
  tail_equal : {x y : ℕ} {u v : List ℕ} → x ∷ u ≡ y ∷ v → u ≡ v
  tail_equal e = cc

  second_step : (emptied : List (List ℕ)) (c c' : Config) → c.start ≤ c.end → c.end ≤ length w → Second m list sets w emptied c → c'.end ≡ c.end
      → (((c'.position ≡ c.position) × (c'.start ≡ c.start)) ⊎ ((c'.position ≡ c.position + 1) × (c'.start ≡ c.start + 1) × (c.start < c.end))) → Second m list sets w emptied c'
  second_step emptied c c' le le-end s e (inl (p, q)) =
      record {
        inside = rw (e, p, q) s.inside;
        equal = rw (e, p, q) s.equal;
        rows = rw (e, p, q) s.rows;
      }
  second_step emptied c c' le le-end s e (inr (p, q, lt)) =
      let same : end_of c' ≡ end_of c = omega arith in
      let more : suc c.start ≡ c'.start = omega arith in
      let on : suc c.position ≡ c'.position = omega arith in
      let a = slice-cons c.start c.end w 0 lt le-end in
      let b = slice-cons c.position (end_of c) w 0 (omega arith) s.inside in
      let tails : slice (suc c.start) c.end w ≡ slice (suc c.position) (end_of c) w = tail_equal (sym a ∙ s.equal ∙ b) in
      record {
        inside = omega (arith, s.inside);
        equal = ap (λ (n : ℕ). slice c'.start n w) e ∙ ap (λ (n : ℕ). slice n c.end w) (sym more) ∙ tails ∙ ap (λ (n : ℕ). slice n (end_of c) w) on ∙ ap (λ (n : ℕ). slice c'.position n w) (sym same);
        rows = λ r l. subst (λ (n : ℕ). EmptyRow m list sets w n r (row_at emptied r)) (sym same) (s.rows r (omega arith));
      }

  pub ready_step : (t emptied stored : List (List ℕ)) (c : Config) (k : ℕ) → k < m.transitions → Ready m list sets w t emptied stored c → Placed m w c c.mode → (move m list w c k).allowed ≡ true
      → Ready m list sets w t emptied stored (move m list w c k).config
  ready_step t emptied stored c k lt ready pl h =
      let kept = move_kept c k lt h in
      record {
        positions = ready.positions;
        sized = ready.sized;
        begun = λ e. let b : c.mode ≡ Buffering = sym kept.mode_same ∙ e in subst (λ (k : ℕ). Begins m (near_of m w sets) (drop k w)) (sym (kept.start_same b)) (ready.begun b);
        storing = λ e d pos le. let b : c.mode ≡ Buffering = sym kept.mode_same ∙ e in let s = kept.start_same b in
            subst (λ (n : ℕ). BufferRow m list sets w n d (row_at stored d)) (sym s) (ready.storing b d pos (omega arith));
        matching = λ e. let b : c.mode ≡ Emptying = sym kept.mode_same ∙ e in let s = kept.second b in
            second_step emptied c (move m list w c k).config pl.forward (omega (arith, pl.behind, pl.in_word)) (ready.matching b) s.0 s.1;
      }

-- Changes of mode

-- what a change of mode does
pub record Changed (marks : List ℕ) (c : Config) (t : Mode) (e : ℕ) (c' : Config) : Type 0 where
  pub entry : e ≡ change_entry t
  pub mode_next : c'.mode ≡ next_mode t
  pub begins : t ≡ Normal → (c'.start ≡ c.position) × (buffering marks c.state ≡ true)

module _ (m : Machine) (list sets w : List ℕ) where
  began : (c : Config) (e : ℕ) → (eqb e begin_buffering && (buffering m.marks c.state && eqb c.start c.end)) ≡ true → buffering m.marks c.state ≡ true
  began c e h =
      (and_true (buffering m.marks c.state) (eqb c.start c.end) (and_true (eqb e begin_buffering) (buffering m.marks c.state && eqb c.start c.end) h).1).0

  changed_is : (c : Config) (e : ℕ) (t : Mode) → may_change m.marks c e t ≡ true → Changed m.marks c t e (changed c t)
  changed_is c e Normal h =
      record { entry = eqb-true e begin_buffering (and_true (eqb e begin_buffering) (buffering m.marks c.state && eqb c.start c.end) h).0; mode_next = refl; begins = λ z. (refl, began c e h) }
  changed_is c e Buffering h =
      record { entry = eqb-true e begin_emptying (and_true (eqb e begin_emptying) (matching m.marks c.state) h).0; mode_next = refl; begins = λ z. let d : ◌≡◌ {A = ℕ} 0 1 = cc in absurd (omega arith) }
  changed_is c e Emptying h =
      record { entry = eqb-true e back_to_normal (and_true (eqb e back_to_normal) (matching m.marks c.state && eqb c.start c.end) h).0; mode_next = refl; begins = λ z. let d : ◌≡◌ {A = ℕ} 0 1 = cc in absurd (omega arith) }

  pub change_is : (c : Config) (e : ℕ) → m.transitions ≤ e → (move m list w c e).allowed ≡ true → Changed m.marks c c.mode e (move m list w c e).config
  change_is c e ge = move_elim m list w c e (Changed m.marks c c.mode e) (λ p lt t. absurd (omega arith)) (λ p l h. changed_is c e c.mode h)

  -- Some entry has one move less to go

  path_first : {C E : Configuration} {n : ℕ} → Path Configuration (Step m list (near_of m w sets)) C E n → 0 < n → (q : ℕ) → final m.marks q ≡ true → E ≡ config [] q [] Normal
      → (C' : Configuration) × (n' : ℕ) × (n ≡ suc n') × Step m list (near_of m w sets) C C' × Go m list (near_of m w sets) C' n'
  path_first here pos q f e = absurd (omega arith)
  path_first (step {v = C'} {n = n} y p) pos q f e =
      (C', n, refl, y, record { last = q; last_final = f; path = subst (λ (E : Configuration). Path Configuration (Step m list (near_of m w sets)) C' E n) e p })

  pub go_first : {C : Configuration} {n : ℕ} → Go m list (near_of m w sets) C n → 0 < n
      → (C' : Configuration) × (n' : ℕ) × (n ≡ suc n') × Step m list (near_of m w sets) C C' × Go m list (near_of m w sets) C' n'
  go_first g pos = path_first g.path pos g.last g.last_final refl

  -- what has a way to acceptance of at least one move is kept
  pub go_kept : (c : Config) (n : ℕ) → 0 < n → Go m list (near_of m w sets) (published w c) n → c.mode ≡ Normal → Near (near_of m w sets) (drop c.position w) c.state
  go_kept c n pos g = (go_first g pos).3.kept

  module _ (good : well_formed m list ≡ true) (c : Config) (p : well_placed m.states (length w) c ≡ true) (d : ℕ) (best : Best m list (near_of m w sets) (published w c) (suc d)) (small : suc d < none) where
    -- where an entry leads, there are at least d moves to go
    pub next_least : (e n : ℕ) → (move m list w c e).allowed ≡ true → Go m list (near_of m w sets) (published w (move m list w c e).config) n → d ≤ n
    next_least e n h g =
        let l = best.least (suc n) (go_step m list (move_yields m list w c e h).0 (go_kept c (suc d) (omega arith) (best.realised small)) g) in
        omega arith

    pub change_must : ((k : ℕ) → k < m.transitions → (move m list w c k).allowed ≡ true → (g : ℕ) × Best m list (near_of m w sets) (published w (move m list w c k).config) g × (g ≡ d → ⊥))
        → Entered m list sets w c d (change_entry c.mode)
    change_must bad =
        let (C', n, n_is, y, go) = go_first (best.realised small) (omega arith) in
        let e = entry_of m list y.move in
        let v = yields_move m list w good y.move c p refl in
        let go' : Go m list (near_of m w sets) (published w (move m list w c e).config) n = rw v.lands go in
        on e v.allowed (subst (Go m list (near_of m w sets) (published w (move m list w c e).config)) (omega arith) go') (dec_lt e m.transitions)
      where
        on : (e : ℕ) → (move m list w c e).allowed ≡ true → Go m list (near_of m w sets) (published w (move m list w c e).config) d → Dec (e < m.transitions) → Entered m list sets w c d (change_entry c.mode)
        on e a go (yes lt) =
            let (g, b, differs) = bad e lt a in
            let least = b.least d go in
            let l = next_least e g a (b.realised (omega arith)) in
            absurd (differs (omega arith))
        on e a go (no ge) =
            let is = (change_is c e (omega arith) a).entry in
            subst (Entered m list sets w c d) is (record { allowed = a; best = record { realised = λ l. go; least = λ n g. next_least e n a g } })

  -- the buffer of a configuration with a way to acceptance, in emptying mode
  pub go_second : (c : Config) (n : ℕ) → Placed m w c c.mode → c.mode ≡ Emptying → Go m list (near_of m w sets) (published w c) n → (end_of c ≤ length w) × (slice c.start c.end w ≡ slice c.position (end_of c) w)
  unfolding Fits
  go_second c n pl e g =
      let f : Fits (drop c.position w) (slice c.start c.end w) Emptying = subst (Fits (drop c.position w) (slice c.start c.end w)) e (go_fit m list g) in
      let a = length-slice c.start c.end w (omega (arith, pl.behind, pl.in_word)) in
      let b = length-drop c.position w in
      let whole = ap length f.1 in
      let parts = length-append (slice c.start c.end w) f.0 in
      let inside : end_of c ≤ length w = omega (arith, pl.in_word) in
      let a₂ = length-slice c.position (end_of c) w inside in (
        inside,
        ext_get_or 0 (slice c.start c.end w) (slice c.position (end_of c) w) (omega arith)
            (λ k (l : k < length (slice c.start c.end w)). front_letters m list sets w c.position (slice c.start c.end w) f.0 f.1 k l ∙ sym (slice_at m list sets w c.position (end_of c) k (omega arith))),
      )

  -- Runs and ways

  accepts_go : (c : Config) → accepts m.marks (length w) c ≡ true → Go m list (near_of m w sets) (published w c) 0
  unfolding accepts
  accepts_go c h =
      let (f, r₁) = and_true (final m.marks c.state) (is_normal c.mode && (eqb c.start c.end && eqb c.position (length w))) h in
      let (n, r₂) = and_true (is_normal c.mode) (eqb c.start c.end && eqb c.position (length w)) r₁ in
      let (s, p) = and_true (eqb c.start c.end) (eqb c.position (length w)) r₂ in
      let input : drop c.position w ≡ [] = ap (λ (n : ℕ). drop n w) (eqb-true c.position (length w) p) ∙ drop-length w in
      let stored : slice c.start c.end w ≡ [] = ap (λ (n : ℕ). slice n c.end w) (eqb-true c.start c.end s) ∙ slice_empty c.end w in
      rw (input, stored, is_normal_lem c.mode n) (record { last = c.state; last_final = f; path = here })

  -- a run and one move more
  run_more : {C D E : Configuration} → Run (fsbm_of m list) C D → Yields (fsbm_of m list) D E → Run (fsbm_of m list) C E
  run_more done y = more y done
  run_more (more x r) y = more x (run_more r y)

  -- what a run leads to is kept
  run_kept : well_formed m list ≡ true → NormalSets m list w sets → (o : ℕ) → (fsbm_of m list).I o → (c : Config) → Placed m w c c.mode → Run (fsbm_of m list) (config w o [] Normal) (published w c) → c.mode ≡ Normal
      → Near (near_of m w sets) (drop c.position w) c.state
  run_kept good reached o first c pl run e =
      let run' : Run (fsbm_of m list) (config w o [] Normal) (config (drop c.position w) c.state (slice c.start c.end w) Normal) =
      subst (λ (t : Mode). Run (fsbm_of m list) (config w o [] Normal) (config (drop c.position w) c.state (slice c.start c.end w) t)) e run in
      let there = ((reached c.position pl.in_word).members c.state).1
      ((reaches_iff_published m list w good c.position Normal c.state).1 (record { first = o; first_initial = first; within = pl.in_word; buffer = slice c.start c.end w; run = run' })) in
      (in_and (get_or sets (length w - length (drop c.position w)) 0) (below m.states) c.state).1
      (subst (λ (n : ℕ). In (get_or sets n 0) c.state) back there, ((below_is m.states).members c.state).1 (pl.state_below, fits))
    where
      fits : c.state < width
      fits = omega (arith, pl.state_below, (rules m list good).states_fit)

      back : c.position ≡ length w - length (drop c.position w)
      back = omega (arith, pl.in_word, length-drop c.position w)

  pub entries_go : well_formed m list ≡ true → NormalSets m list w sets → (o : ℕ) → (fsbm_of m list).I o → (c : Config) → well_placed m.states (length w) c ≡ true
      → Run (fsbm_of m list) (config w o [] Normal) (published w c) → (es : List ℕ) → accepting_from m list w c es ≡ true → Go m list (near_of m w sets) (published w c) (length es)
  unfolding accepting_from
  entries_go good reached o first c p run [] h = accepts_go c h
  entries_go good reached o first c p run (e ∷ es) h =
      let (a, rest) = and_true (move m list w c e).allowed (accepting_from m list w (move m list w c e).config es) h in
      let y = (move_yields m list w c e a).0 in
      go_step m list y (run_kept good reached o first c (placed m w c p) run)
      (entries_go good reached o first (move m list w c e).config (move_placed m list w good c e a) (run_more run y) es rest)

  path_none : {C E : Configuration} {n : ℕ} → Path Configuration (Step m list (near_of m w sets)) C E n → n ≡ 0 → C ≡ E
  path_none here e = refl
  path_none (step y p) e = absurd (omega arith)

  pub go_accepts : (c : Config) → Placed m w c c.mode → Go m list (near_of m w sets) (published w c) 0 → accepts m.marks (length w) c ≡ true
  unfolding accepts
  go_accepts c pl g =
      let e = path_none g.path refl in
      let state : g.last ≡ c.state = sym (ap (λ (D : Configuration). D.state) e) in
      let start : c.start ≡ c.end = slice_none w c.start c.end pl.forward (omega (arith, pl.behind, pl.in_word)) (ap (λ (D : Configuration). D.buffer) e) in
      let left : length w - c.position ≡ 0 = sym (length-drop c.position w) ∙ ap length (ap (λ (D : Configuration). D.input) e) in
      let position : c.position ≡ length w = omega (arith, pl.in_word) in
      and_both_true (final m.marks c.state) (is_normal c.mode && (eqb c.start c.end && eqb c.position (length w)))
      (subst (λ (q : ℕ). final m.marks q ≡ true) state g.last_final)
      (and_both_true (is_normal c.mode) (eqb c.start c.end && eqb c.position (length w))
      (ap is_normal (ap (λ (D : Configuration). D.mode) e))
      (and_both_true (eqb c.start c.end) (eqb c.position (length w)) (eq-eqb c.start c.end start) (eq-eqb c.position (length w) position)))

-- The steps of the walk

change_buffering : (t : Mode) → change_entry t ≡ begin_buffering → next_mode t ≡ Buffering
change_buffering Normal e = refl
change_buffering Buffering e = absurd (omega arith)
change_buffering Emptying e = absurd (omega arith)

change_from : (t : Mode) → change_entry t ≡ begin_buffering → t ≡ Normal
change_from Normal e = refl
change_from Buffering e = absurd (omega arith)
change_from Emptying e = absurd (omega arith)

change_emptying : (t : Mode) → change_entry t ≡ begin_emptying → next_mode t ≡ Emptying
change_emptying Normal e = absurd (omega arith)
change_emptying Buffering e = refl
change_emptying Emptying e = absurd (omega arith)

change_normal : (t : Mode) → change_entry t ≡ back_to_normal → next_mode t ≡ Normal
change_normal Normal e = absurd (omega arith)
change_normal Buffering e = absurd (omega arith)
change_normal Emptying e = refl

change_large : (t : Mode) → begin_buffering ≤ change_entry t
change_large Normal = omega arith
change_large Buffering = omega arith
change_large Emptying = omega arith

module _ (m : Machine) (list sets w : List ℕ) (good : well_formed m list ≡ true) (t emptied stored : List (List ℕ)) where
  pub walk_fresh : (c : Config) (d e : ℕ) → well_placed m.states (length w) c ≡ true → Ready m list sets w t emptied stored c → d < none → (c.mode ≡ Normal → Near (near_of m w sets) (drop c.position w) c.state) → Entered m list sets w c d e
      → Fresh m list sets w t emptied stored (move m list w c e).config e
  walk_fresh c d e p ready small near entered =
      let h = entered.allowed in
      let next = (move m list w c e).config in
      let pl = placed m w next (move_placed m list w good c e h) in
      record {
        positions = ready.positions;
        sized = ready.sized;
        kept = λ l. ready_step m list sets w t emptied stored c e (listed l h) ready (placed m w c p) h;
        storing = λ z. let g = change_is m list sets w c e (omega (arith, r.transitions_fit)) h in
            let from = change_from c.mode (sym g.entry ∙ z) in
            let (start, is) = g.begins from in (
              g.mode_next ∙ change_buffering c.mode (sym g.entry ∙ z),
              subst (λ (k : ℕ). Begins m (near_of m w sets) (drop k w)) (sym start) (record { state = c.state; kept = near from; is = is }),
            );
        matching = λ z. let g = change_is m list sets w c e (omega (arith, r.transitions_fit)) h in
            let is = g.mode_next ∙ change_emptying c.mode (sym g.entry ∙ z) in
            let s = go_second m list sets w next d pl is (entered.best.realised small) in
            (is, s.0, s.1);
        normal = λ z. let g = change_is m list sets w c e (omega (arith, r.transitions_fit)) h in g.mode_next ∙ change_normal c.mode (sym g.entry ∙ z);
        placed = (pl.forward, pl.behind, pl.in_word);
      }
    where
      r : Rules m list
      r = rules m list good

      listed : e < begin_buffering → (move m list w c e).allowed ≡ true → e < m.transitions
      listed l h = on (dec_lt e m.transitions)
        where
          on : Dec (e < m.transitions) → e < m.transitions
          on (yes z) = z
          on (no z) = let g = (change_is m list sets w c e (omega arith) h).entry in let b = change_large c.mode in absurd (omega arith)

-- what the walk has done once k entries are written
pub record Walking (m : Machine) (list sets w : List ℕ) (t emptied stored : List (List ℕ)) (run₀ run : List ℕ) (c : Config) (d k : ℕ) : Type 0 where
  pub placed_there : well_placed m.states (length w) c ≡ true
  pub best : Best m list (near_of m w sets) (published w c) d
  pub small : d < none
  pub ready : Ready m list sets w t emptied stored c
  pub room : k + d ≤ length run₀
  pub size : length run ≡ length run₀
  pub frame : drop k run ≡ drop k run₀
  pub prefix : (es : List ℕ) → accepting_from m list w c es ≡ true → accepting m list w (take k run ++ es) ≡ true
  pub some : 1 ≤ k
  pub fewest : (other : List ℕ) → accepting m list w other ≡ true → k + d ≤ length other

module _ (m : Machine) (list sets w : List ℕ) (t : List (List ℕ)) where
  pub walk_start : (emptied stored : List (List ℕ)) (run : List ℕ) (q d : ℕ) → q < m.states → initial m.marks q ≡ true → Sized w t emptied stored → ((p : ℕ) → p ≤ length w → PositionRows m list sets w t p)
      → Best m list (near_of m w sets) (published w (start_at q)) d → d < none → 1 + d ≤ length run → ((other : List ℕ) → accepting m list w other ≡ true → 1 + d ≤ length other) → (c : Config) → c ≡ start_at q → Walking m list sets w t emptied stored (set run 0 q) (set run 0 q) c d 1
  unfolding accepting
  walk_start emptied stored run q d lt is sized positions best small room fewest c e =
      let same = length-set run 0 q in
      rw e
      (record {
        placed_there = unplaced m w (start_at q) (record { in_word = omega arith; state_below = lt; forward = omega arith; behind = omega arith; fits = refl });
        best = best;
        small = small;
        ready = record {
          positions = positions;
          sized = sized;
          begun = λ z. let b : ◌≡◌ {A = ℕ} 0 1 = cc in absurd (omega arith);
          storing = λ z. let b : ◌≡◌ {A = ℕ} 0 1 = cc in absurd (omega arith);
          matching = λ z. let b : ◌≡◌ {A = ℕ} 0 1 = cc in absurd (omega arith);
        };
        room = omega arith;
        size = refl;
        frame = refl;
        some = omega arith;
        fewest = fewest;
        prefix = λ es h. subst (λ (s : List ℕ). accepting m list w (s ++ es) ≡ true) (sym (take-suc-set run 0 q (omega arith)))
            (and_both_true (ltb q m.states) (initial m.marks q && accepting_from m list w (start_at q) es) (lt-ltb q m.states lt)
            (and_both_true (initial m.marks q) (accepting_from m list w (start_at q) es) is h));
      })

  pub walk_next : (emptied emptied' stored stored' : List (List ℕ)) (run₀ run : List ℕ) (c : Config) (d k e : ℕ) → well_formed m list ≡ true → 0 < d → Walking m list sets w t emptied stored run₀ run c d k
      → Entered m list sets w c (d - 1) e → (c' : Config) → c' ≡ (move m list w c e).config → Refreshed m list sets w t emptied emptied' stored stored' c'
      → Walking m list sets w t emptied' stored' run₀ (set run k e) c' (d - 1) (k + 1)
  unfolding accepting_from
  walk_next emptied emptied' stored stored' run₀ run c d k e good pos f entered c' is fresh =
      let on = add-one k in
      record {
        placed_there = rw is (move_placed m list w good c e entered.allowed);
        best = rw is entered.best;
        small = omega (arith, f.small);
        ready = fresh.ready;
        room = omega (arith, f.room);
        some = omega arith;
        fewest = λ other h. omega (arith, f.fewest other h);
        size = length-set run k e ∙ f.size;
        frame = drop-set-lt (k + 1) run k e (omega arith) ∙ sym (drop-drop 1 k run) ∙ ap (drop 1) f.frame ∙ drop-drop 1 k run₀;
        prefix = λ es h.
            let whole = f.prefix (e ∷ es) (and_both_true (move m list w c e).allowed (accepting_from m list w (move m list w c e).config es) entered.allowed (rw is at h)) in
            let front : take (k + 1) (set run k e) ++ es ≡ take k run ++ (e ∷ es) = ap (λ (n : ℕ). take n (set run k e) ++ es) on ∙ ap (λ (s : List ℕ). s ++ es) (take-suc-set run k e (omega (arith, f.room, f.size))) ∙ (append_assoc (take k run) (e ∷ []) es) in
            rw front whole;
      }

  -- run₀ is the slice with the start state written
  pub walk_end : (emptied stored : List (List ℕ)) (first run₀ run : List ℕ) (c : Config) (d k q : ℕ) → run₀ ≡ set first 0 q → d ≤ 0 → Walking m list sets w t emptied stored run₀ run c d k → Written m list w k first run
  unfolding accepting_from
  walk_end emptied stored first run₀ run c d k q is z f =
      let go : Go m list (near_of m w sets) (published w c) 0 = subst (Go m list (near_of m w sets) (published w c)) (omega arith) (f.best.realised f.small) in
      let long : length run₀ ≡ length first = ap length is ∙ length-set first 0 q in
      let rest : drop k run ≡ drop k first = f.frame ∙ ap (drop k) is ∙ drop-set-lt k first 0 q (omega (arith, f.some)) in
      record {
        fits = omega (arith, f.room);
        front = sym (take-append-drop k run) ∙ ap (λ (s : List ℕ). take k run ++ s) rest;
        fewest = λ other h. omega (arith, f.fewest other h);
        accepts = rw append-nil at (f.prefix [] (go_accepts m list sets w c (placed m w c f.placed_there) go));
      }

-- The start

bound_small : (a b : ℕ) → a ≤ 64 → b ≤ 256 → 3 * a * b ≤ 49152
bound_small a b la lb = let h = mul-le-mul_left (3 * a) lb in omega arith

pub record Begun (m : Machine) (list sets w : List ℕ) (run : ℕ) (q d : ℕ) : Type 0 where
  pub below : q < m.states
  pub is_initial : initial m.marks q ≡ true
  pub best : Best m list (near_of m w sets) (published w (start_at q)) d
  pub small : d < none
  pub room : 1 + d ≤ run
  pub fewest : (other : List ℕ) → accepting m list w other ≡ true → 1 + d ≤ length other

module _ (m : Machine) (list sets w : List ℕ) where
  start_best : (t : List (List ℕ)) (row : List ℕ) → PositionRows m list sets w t 0 → row ≡ row_at t 0 → (q : ℕ) → q < m.states → Best m list (near_of m w sets) (published w (start_at q)) (at row q)
  unfolding PositionRows
  start_best t row h e q lt = rw e (h.normal q lt)

  -- an accepting run has at least as many entries
  least_run : well_formed m list ≡ true → NormalSets m list w sets → (t : List (List ℕ)) (row : List ℕ) (b : Option ℕ) → PositionRows m list sets w t 0 → row ≡ row_at t 0 → Started m row m.states b → (run : List ℕ) → accepting m list w run ≡ true
      → (q : ℕ) × (b ≡ Some q) × (1 + at row q ≤ length run)
  unfolding accepting
  least_run good reached t row b rows e s [] a = absurd (false≢true a)
  least_run good reached t row b rows e s (p ∷ es) a =
      let (lt, r) = and_true (ltb p m.states) (initial m.marks p && accepting_from m list w (start_at p) es) a in
      let (i, h) = and_true (initial m.marks p) (accepting_from m list w (start_at p) es) r in
      let below = ltb-true p m.states lt in
      let least = (start_best t row rows e p below).least (length es) (entries_go m list sets w good reached p (below, i) (start_at p) (start_placed p below) done es h) in
      let (q, is, q-least) = s.least p below i in
      (q, is, omega arith)
    where
      start_placed : (p : ℕ) → p < m.states → well_placed m.states (length w) (start_at p) ≡ true
      start_placed p lt = unplaced m w (start_at p) (record { in_word = omega arith; state_below = lt; forward = omega arith; behind = omega arith; fits = refl })

  module _ (t : List (List ℕ)) (row : List ℕ) (b : Option ℕ) (good : well_formed m list ≡ true) (reached : NormalSets m list w sets) (ok : accepted m list w ≡ true) (rows : PositionRows m list sets w t 0) (e : row ≡ row_at t 0)
      (s : Started m row m.states b) where
    -- where a word is accepted, some state is initial
    pub some_start : is_some b ≡ true
    some_start =
        let (run, len, below, a) = (accepted_true m list w).0 ok in
        let (q, is, long) = least_run good reached t row b rows e s run a in
        ap is_some is

    pub begun : (q size : ℕ) → b ≡ Some q → length w ≤ 255 → run_bound m (length w) ≤ size → Begun m list sets w size q (at row q)
    unfolding run_bound
    begun q size is short room =
        let (run, len, below, a) = (accepted_true m list w).0 ok in
        let long = fewer run a in
        let limit : run_bound m (length w) ≤ 49152 = bound_small m.states (length w + 1) (rules m list good).states_fit (omega arith) in
        let (q-below, q-initial) = s.is_initial q is in
        record {
          below = q-below;
          is_initial = q-initial;
          best = start_best t row rows e q q-below;
          small = omega arith;
          room = omega arith;
          fewest = fewer;
        }
      where
        fewer : (other : List ℕ) → accepting m list w other ≡ true → 1 + at row q ≤ length other
        fewer other h =
            let (p, at_p, long) = least_run good reached t row b rows e s other h in
            let same : p ≡ q = cc in
            subst (λ (k : ℕ). 1 + at row k ≤ length other) same long
