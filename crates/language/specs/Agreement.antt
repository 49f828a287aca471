-- The moves of document 01 and the published definition agree: move by move, and run by run.
--
-- published w c          == the published configuration of c: the rest of the word, the state, the buffer as a string, the mode
-- Named m list e D D'    == a published move from D to D' that entry e names
-- MovesBy m list w c e D == entry e takes c to a configuration whose published one is D
-- move_yields            == an allowed move is a published one that its entry names
-- yields_move            == a published move from such a configuration is the move of the entry that names it
-- run_path, path_run     == a published run is a path of as many moves as it has entries, and a path is a run
-- entries_below          == the entries of a published run are below 65536
-- accepting_written      == an accepting run is a written run: a start state and the entries of a published accepting run from it
-- written_accepting      == a written run of a well-formed machine accepts
-- accepting_iff_written  == so for such a machine `accepting` holds of a list of numbers exactly if it is a written run of the word
-- accepting_path         == an accepting run of n + 1 entries is a path of n moves from a start to an end
-- path_accepting         == the entries of such a path are an accepting run, each below 65536
-- accepting_published    == a word with an accepting run is in the published language
-- published_accepting    == a word in the published language of a well-formed machine has an accepting run of entries below 65536
use Prim.Native.Nat.{ℕ, suc, ◌-◌, ◌≤◌, ◌<◌}
use Rattle.std.specs.Prelude.{◌≡◌, ◌↔◌, Bool, cond, ◌&&◌, ltb}
use Rattle.std.proofs.Math.Path.{refl, sym, ap, subst, subst₂}
use Rattle.std.proofs.Common.{◌∙◌, length-drop}
use Rattle.std.proofs.Math.Bool.{true}
use Rattle.std.proofs.lemmas.Bool.{false≢true}
use mathlib.Core.List.{List, [], ◌∷◌, ◌++◌}
use native.Mathlib.Omega.{arith}
use Rattle.std.proofs.Math.ListN.{length, drop}
use Rattle.std.proofs.Math.Seq.{slice, slice_empty, drop-length}
use Rattle.std.proofs.Math.Dec.{eqb}
use borrow.Author.Tests.{ltb-true, eqb-true, eq-eqb, lt-ltb}
use Rattle.basics.specs.Search.{AllBelow, none, more}
use Rattle.basics.specs.Search.Laws.{and_true, and_both_true}
use Rattle.graphs.specs.Paths.{Path, here, step}
use Rattle.fsbm.specs.Machine.{well_formed, transition_at, initial, final, buffering, matching}
use Rattle.fsbm.specs.Moves.{well_placed, reads_letter, reads_stored, after, may_change, changed, goes, move, start_at, is_normal, accepts, accepting_from, accepting, begin_buffering, begin_emptying, back_to_normal}
use Rattle.fsbm.specs.Moves.Laws.{start_placed, passes_normal, passes_buffering, passes_emptying, listed_normal, listed_buffering, listed_emptying, Took, says_may_take, move_elim, move_takes, move_changes, move_stays}
use Rattle.fsbm.specs.Published.{Listed, fsbm_of, Configuration, config, symbol, Yields, normal, buffer, empty, begins_buffering, begins_emptying, returns_to_normal, Run, done, InLanguage}
use Rattle.fsbm.specs.Entries.{entry_of, entries_of, WrittenRun}
use Rattle.fsbm.specs.declared.machine.Machine.{Machine}
use Rattle.fsbm.specs.declared.machine.Transition.{Transition}
use Rattle.fsbm.specs.declared.config.Config.{Config}
use Rattle.fsbm.specs.declared.config.Move.{Move}
use Rattle.fsbm.specs.declared.config.Mode.{Mode}
use Rattle.fsbm.specs.declared.config.Mode.TheVariants.{Normal, Buffering, Emptying}
use Rattle.fsbm.specs.Rules.{Rules, rules, Placed, placed}
use Rattle.language.specs.Strings.{reads_slice, slice_reads, reads_drop, drop_reads, slice_grows, slice_none}

abbrev pub published : List ℕ → Config → Configuration
published w c = config (drop c.position w) c.state (slice c.start c.end w) c.mode

same_config_lem : {u u' : List ℕ} {q q' : ℕ} {v v' : List ℕ} {t t' : Mode} → u ≡ u' → q ≡ q' → v ≡ v' → t ≡ t' → config u q v t ≡ config u' q' v' t'
same_config_lem a b c d = λ i. record { input = a i; state = b i; buffer = c i; mode = d i }

-- From moves to the published definition

abbrev pub Named : Machine → List ℕ → ℕ → Configuration → Configuration → Type 0
Named m list e D D' = (y : Yields (fsbm_of m list) D D') × (entry_of m list y ≡ e)

-- a published move from c in mode t to the published configuration of c', named by e
abbrev Step : Machine → List ℕ → List ℕ → Config → Mode → ℕ → Config → Type 0
Step m list w c t e c' = Named m list e (config (drop c.position w) c.state (slice c.start c.end w) t) (published w c')

module _ (m : Machine) (list w : List ℕ) where
  after_step : (c : Config) (tr : Transition) (t : Mode) → Placed m w c t → (δ : Listed list m.transitions tr.from tr.letter tr.to) → Took m.marks w c tr t
      → Step m list w c t δ.number (after c tr t)
  unfolding reads_stored after entry_of
  after_step c tr Normal p δ took =
      let (apart, not_from) = (passes_normal m.marks tr).0 took.passed in
      let none : slice c.start c.end w ≡ [] = ap (λ (n : ℕ). slice n c.end w) (eqb-true c.start c.end p.fits) ∙ slice_empty c.end w in
      subst₂ (Named m list δ.number)
      (same_config_lem (sym (reads_drop w c.position tr.letter took.reads)) took.leaves (sym none) refl)
      (same_config_lem refl refl (sym none) refl)
      (normal δ apart not_from, refl)
  after_step c tr Buffering p δ took =
      let (apart, not-to) = (passes_buffering m.marks tr).0 took.passed in
      let ends : c.end ≡ c.position = eqb-true c.end c.position p.fits in
      let reads_end : reads_letter w c.end (length w) tr.letter ≡ true = subst (λ (n : ℕ). reads_letter w n (length w) tr.letter ≡ true) (sym ends) took.reads in
      subst₂ (Named m list δ.number)
      (same_config_lem (sym (reads_drop w c.position tr.letter took.reads)) took.leaves refl refl)
      (same_config_lem refl refl (sym (slice_grows w c.start c.end tr.letter p.forward reads_end)) refl)
      (buffer δ apart not-to, refl)
  after_step c tr Emptying p δ took =
      let (from, to) = (passes_emptying m.marks tr).0 took.passed in
      subst₂ (Named m list δ.number)
      (same_config_lem (sym (reads_drop w c.position tr.letter took.reads)) took.leaves
      (sym (reads_slice w c.start c.end tr.letter (omega (arith, p.behind, p.in_word)) took.stored)) refl)
      refl
      (empty δ from to, refl)

  changed_step : (c : Config) (e : ℕ) (t : Mode) → may_change m.marks c e t ≡ true → Step m list w c t e (changed c t)
  unfolding entry_of
  changed_step c e Normal h =
      let (entry, r) = and_true (eqb e begin_buffering) (buffering m.marks c.state && eqb c.start c.end) h in
      let (is, equal) = and_true (buffering m.marks c.state) (eqb c.start c.end) r in
      let none : slice c.start c.end w ≡ [] = ap (λ (n : ℕ). slice n c.end w) (eqb-true c.start c.end equal) ∙ slice_empty c.end w in
      subst₂ (Named m list e) (same_config_lem refl refl (sym none) refl) (same_config_lem refl refl (sym (slice_empty c.position w)) refl) (begins_buffering is, sym (eqb-true e begin_buffering entry))
  changed_step c e Buffering h =
      let (entry, is) = and_true (eqb e begin_emptying) (matching m.marks c.state) h in
      (begins_emptying is, sym (eqb-true e begin_emptying entry))
  changed_step c e Emptying h =
      let (entry, r) = and_true (eqb e back_to_normal) (matching m.marks c.state && eqb c.start c.end) h in
      let (is, equal) = and_true (matching m.marks c.state) (eqb c.start c.end) r in
      let none : slice c.start c.end w ≡ [] = ap (λ (n : ℕ). slice n c.end w) (eqb-true c.start c.end equal) ∙ slice_empty c.end w in
      subst₂ (Named m list e) (same_config_lem refl refl (sym none) refl) (same_config_lem refl refl (sym none) refl) (returns_to_normal is, sym (eqb-true e back_to_normal entry))

  pub move_yields : (c : Config) (e : ℕ) → (move m list w c e).allowed ≡ true → Named m list e (published w c) (published w (move m list w c e).config)
  move_yields c e =
      move_elim m list w c e (Step m list w c c.mode e)
      (λ p lt took. after_step c (transition_at list e) c.mode p (record { number = e; listed = lt; from = refl; letter = refl; to = refl }) took)
      (λ p ge h. changed_step c e c.mode h)

-- From the published definition to moves

pub record MovesBy (m : Machine) (list w : List ℕ) (c : Config) (e : ℕ) (D : Configuration) : Type 0 where
  pub allowed : (move m list w c e).allowed ≡ true
  pub lands : published w (move m list w c e).config ≡ D

module _ (m : Machine) (list w : List ℕ) where
  moves_by : (c : Config) (e : ℕ) (ok : Bool) (next : Config) {D : Configuration} → move m list w c e ≡ goes ok next c → ok ≡ true → published w next ≡ D
      → MovesBy m list w c e D
  moves_by c e ok next is t lands =
      record {
        allowed = ap (λ (v : Move). v.allowed) is ∙ t;
        lands = ap (λ (v : Move). published w v.config) is ∙ ap (λ (b : Bool). published w (cond b next c)) t ∙ lands;
      }

  module _ (r : Rules m list) where
    -- the test of a mark at an end of a transition, and at the state that it names
    at_end_lem : {y z : ℕ} → y ≡ z → (test : List ℕ → ℕ → Bool) → test m.marks z ≡ true → test m.marks y ≡ true
    at_end_lem e test h = subst (λ (n : ℕ). test m.marks n ≡ true) (sym e) h

    -- a transition that is taken in the mode t
    taken_by : (c : Config) (k : ℕ) (t : Mode) {D : Configuration} → Placed m w c c.mode → k < m.transitions → c.mode ≡ t → Took m.marks w c (transition_at list k) t
        → published w (after c (transition_at list k) t) ≡ D → MovesBy m list w c k D
    taken_by c k t {D = D} pl lt mode took lands =
        moves_by c k _ _ (move_takes m list w c k pl lt) (says_may_take m.marks w c (transition_at list k) (subst (Took m.marks w c (transition_at list k)) (sym mode) took))
        (subst (λ (t : Mode). published w (after c (transition_at list k) t) ≡ D) (sym mode) lands)

    -- a change of the mode t
    changed_by : (c : Config) (e : ℕ) (t : Mode) {D : Configuration} → Placed m w c c.mode → m.transitions ≤ e → c.mode ≡ t → may_change m.marks c e t ≡ true
        → published w (changed c t) ≡ D → MovesBy m list w c e D
    changed_by c e t {D = D} pl ge mode may lands =
        moves_by c e _ _ (move_changes m list w c e pl ge) (subst (λ (t : Mode). may_change m.marks c e t ≡ true) (sym mode) may)
        (subst (λ (t : Mode). published w (changed c t) ≡ D) (sym mode) lands)

    yields_moves : {D D' : Configuration} (y : Yields (fsbm_of m list) D D') (c : Config) → Placed m w c c.mode → published w c ≡ D → MovesBy m list w c (entry_of m list y) D'
    unfolding reads_stored after entry_of
    yields_moves (normal {p = p} {x = x} {q = q} {u = u} δ apart not_from) c pl e =
        let tr = transition_at list δ.number in
        let mode : c.mode ≡ Normal = ap (λ (D : Configuration). D.mode) e in
        let state : tr.from ≡ c.state = δ.from ∙ sym (ap (λ (D : Configuration). D.state) e) in
        let input : drop c.position w ≡ symbol tr.letter ++ u = ap (λ (D : Configuration). D.input) e ∙ ap (λ (y : ℕ). symbol y ++ u) (sym δ.letter) in
        let (reads, rest) = drop_reads w c.position tr.letter u input in
        taken_by c δ.number Normal pl δ.listed mode
        (record {
          leaves = state;
          passed = listed_normal m.marks list δ apart not_from;
          reads = reads;
          stored = refl;
        })
        (same_config_lem rest δ.to (ap (λ (D : Configuration). D.buffer) e) refl)
    yields_moves (buffer {p = p} {x = x} {q = q} {u = u} {v = v} δ apart not-to) c pl e =
        let tr = transition_at list δ.number in
        let mode : c.mode ≡ Buffering = ap (λ (D : Configuration). D.mode) e in
        let state : tr.from ≡ c.state = δ.from ∙ sym (ap (λ (D : Configuration). D.state) e) in
        let input : drop c.position w ≡ symbol tr.letter ++ u = ap (λ (D : Configuration). D.input) e ∙ ap (λ (y : ℕ). symbol y ++ u) (sym δ.letter) in
        let (reads, rest) = drop_reads w c.position tr.letter u input in
        let pb : Placed m w c Buffering = subst (Placed m w c) mode pl in
        let ends : c.end ≡ c.position = eqb-true c.end c.position pb.fits in
        let reads_end : reads_letter w c.end (length w) tr.letter ≡ true = subst (λ (n : ℕ). reads_letter w n (length w) tr.letter ≡ true) (sym ends) reads in
        taken_by c δ.number Buffering pl δ.listed mode
        (record {
          leaves = state;
          passed = listed_buffering m.marks list δ apart not-to;
          reads = reads;
          stored = refl;
        })
        (same_config_lem rest δ.to
        (slice_grows w c.start c.end tr.letter pl.forward reads_end ∙ ap (λ (y : List ℕ). y ++ symbol tr.letter) (ap (λ (D : Configuration). D.buffer) e) ∙ ap (λ (y : ℕ). v ++ symbol y) δ.letter)
        refl)
    yields_moves (empty {p = p} {x = x} {q = q} {u = u} {v = v} δ from to) c pl e =
        let tr = transition_at list δ.number in
        let mode : c.mode ≡ Emptying = ap (λ (D : Configuration). D.mode) e in
        let state : tr.from ≡ c.state = δ.from ∙ sym (ap (λ (D : Configuration). D.state) e) in
        let input : drop c.position w ≡ symbol tr.letter ++ u = ap (λ (D : Configuration). D.input) e ∙ ap (λ (y : ℕ). symbol y ++ u) (sym δ.letter) in
        let stored : slice c.start c.end w ≡ symbol tr.letter ++ v = ap (λ (D : Configuration). D.buffer) e ∙ ap (λ (y : ℕ). symbol y ++ v) (sym δ.letter) in
        let (reads, rest) = drop_reads w c.position tr.letter u input in
        let (matches, left) = slice_reads w c.start c.end tr.letter v (omega (arith, pl.behind, pl.in_word)) stored in
        taken_by c δ.number Emptying pl δ.listed mode
        (record {
          leaves = state;
          passed = listed_emptying m.marks list δ from to;
          reads = reads;
          stored = matches;
        })
        (same_config_lem rest δ.to left refl)
    yields_moves (begins_buffering {q = q} {u = u} is) c pl e =
        let mode : c.mode ≡ Normal = ap (λ (D : Configuration). D.mode) e in
        let state : c.state ≡ q = ap (λ (D : Configuration). D.state) e in
        let equal : c.start ≡ c.end = slice_none w c.start c.end pl.forward (omega (arith, pl.behind, pl.in_word)) (ap (λ (D : Configuration). D.buffer) e) in
        changed_by c begin_buffering Normal pl (omega (arith, r.transitions_fit)) mode
        (and_both_true (buffering m.marks c.state) (eqb c.start c.end) (at_end_lem state buffering is) (eq-eqb c.start c.end equal))
        (same_config_lem (ap (λ (D : Configuration). D.input) e) state (slice_empty c.position w) refl)
    yields_moves (begins_emptying {q = q} {u = u} {v = v} is) c pl e =
        let mode : c.mode ≡ Buffering = ap (λ (D : Configuration). D.mode) e in
        let state : c.state ≡ q = ap (λ (D : Configuration). D.state) e in
        changed_by c begin_emptying Buffering pl (omega (arith, r.transitions_fit)) mode (at_end_lem state matching is)
        (same_config_lem (ap (λ (D : Configuration). D.input) e) state (ap (λ (D : Configuration). D.buffer) e) refl)
    yields_moves (returns_to_normal {q = q} {u = u} is) c pl e =
        let mode : c.mode ≡ Emptying = ap (λ (D : Configuration). D.mode) e in
        let state : c.state ≡ q = ap (λ (D : Configuration). D.state) e in
        let equal : c.start ≡ c.end = slice_none w c.start c.end pl.forward (omega (arith, pl.behind, pl.in_word)) (ap (λ (D : Configuration). D.buffer) e) in
        changed_by c back_to_normal Emptying pl (omega (arith, r.transitions_fit)) mode
        (and_both_true (matching m.marks c.state) (eqb c.start c.end) (at_end_lem state matching is) (eq-eqb c.start c.end equal))
        (same_config_lem (ap (λ (D : Configuration). D.input) e) state (ap (λ (D : Configuration). D.buffer) e) refl)

  pub yields_move : well_formed m list ≡ true → {D D' : Configuration} (y : Yields (fsbm_of m list) D D') (c : Config) → well_placed m.states (length w) c ≡ true → published w c ≡ D
      → MovesBy m list w c (entry_of m list y) D'
  yields_move good y c p e = yields_moves (rules m list good) y c (placed m w c p) e

-- Whole runs

pub is_normal_lem : (t : Mode) → is_normal t ≡ true → t ≡ Normal
is_normal_lem Normal h = refl
is_normal_lem Buffering h = absurd (false≢true h)
is_normal_lem Emptying h = absurd (false≢true h)

module _ (m : Machine) (list : List ℕ) where
  pub run_path : {D D' : Configuration} (r : Run (fsbm_of m list) D D') → Path Configuration (Yields (fsbm_of m list)) D D' (length (entries_of m list r))
  unfolding entries_of
  run_path done = here
  run_path (Run.more y r) = step y (run_path r)

  pub path_run : {D D' : Configuration} {n : ℕ} → Path Configuration (Yields (fsbm_of m list)) D D' n → (r : Run (fsbm_of m list) D D') × (length (entries_of m list r) ≡ n)
  unfolding entries_of
  path_run here = (done, refl)
  path_run (step y p) = let (r, len) = path_run p in (Run.more y r, ap suc len)

  entry_small : Rules m list → {D D' : Configuration} (y : Yields (fsbm_of m list) D D') → entry_of m list y < 65536
  unfolding entry_of
  entry_small r (normal δ apart not_from) = omega (arith, r.transitions_fit, δ.listed)
  entry_small r (buffer δ apart not-to) = omega (arith, r.transitions_fit, δ.listed)
  entry_small r (empty δ from to) = omega (arith, r.transitions_fit, δ.listed)
  entry_small r (begins_buffering is) = omega arith
  entry_small r (begins_emptying is) = omega arith
  entry_small r (returns_to_normal is) = omega arith

  pub entries_below : Rules m list → {D D' : Configuration} (s : Run (fsbm_of m list) D D') → AllBelow 65536 (entries_of m list s)
  unfolding entries_of
  entries_below r done = none
  entries_below r (Run.more y s) = more (entry_small r y) (entries_below r s)

module _ (m : Machine) (list w : List ℕ) where
  accepts_published : (c : Config) → accepts m.marks (length w) c ≡ true → (final m.marks c.state ≡ true) × (published w c ≡ config [] c.state [] Normal)
  unfolding accepts
  accepts_published c h =
      let (f, r₁) = and_true (final m.marks c.state) (is_normal c.mode && (eqb c.start c.end && eqb c.position (length w))) h in
      let (n, r₂) = and_true (is_normal c.mode) (eqb c.start c.end && eqb c.position (length w)) r₁ in
      let (s, p) = and_true (eqb c.start c.end) (eqb c.position (length w)) r₂ in (
        f,
        same_config_lem (ap (λ (n : ℕ). drop n w) (eqb-true c.position (length w) p) ∙ drop-length w) refl
            (ap (λ (n : ℕ). slice n c.end w) (eqb-true c.start c.end s) ∙ slice_empty c.end w) (is_normal_lem c.mode n),
      )

  published_accepts : (c : Config) (last : ℕ) → Placed m w c c.mode → final m.marks last ≡ true → published w c ≡ config [] last [] Normal → accepts m.marks (length w) c ≡ true
  unfolding accepts
  published_accepts c last pl f e =
      let state : last ≡ c.state = sym (ap (λ (D : Configuration). D.state) e) in
      let start : c.start ≡ c.end = slice_none w c.start c.end pl.forward (omega (arith, pl.behind, pl.in_word)) (ap (λ (D : Configuration). D.buffer) e) in
      let left : length w - c.position ≡ 0 = sym (length-drop c.position w) ∙ ap length (ap (λ (D : Configuration). D.input) e) in
      let place : c.position ≡ length w = omega (arith, pl.in_word) in
      and_both_true (final m.marks c.state) (is_normal c.mode && (eqb c.start c.end && eqb c.position (length w)))
      (subst (λ (q : ℕ). final m.marks q ≡ true) state f)
      (and_both_true (is_normal c.mode) (eqb c.start c.end && eqb c.position (length w))
      (ap is_normal (ap (λ (D : Configuration). D.mode) e))
      (and_both_true (eqb c.start c.end) (eqb c.position (length w)) (eq-eqb c.start c.end start) (eq-eqb c.position (length w) place)))

  -- entries that lead to an accepting configuration are those of a published run
  entries_run : (c : Config) (es : List ℕ) → accepting_from m list w c es ≡ true
      → (last : ℕ) × (final m.marks last ≡ true) × ((s : Run (fsbm_of m list) (published w c) (config [] last [] Normal)) × (entries_of m list s ≡ es))
  unfolding accepting_from entries_of
  entries_run c [] h =
      let (f, e) = accepts_published c h in
      (c.state, f, subst (λ (D : Configuration). (s : Run (fsbm_of m list) (published w c) D) × (entries_of m list s ≡ [])) e (done, refl))
  entries_run c (e ∷ es) h =
      let (a, rest) = and_true (move m list w c e).allowed (accepting_from m list w (move m list w c e).config es) h in
      let (last, f, (s, written)) = entries_run (move m list w c e).config es rest in
      let (y, named) = move_yields m list w c e a in
      (last, f, (Run.more y s, λ i. named i ∷ written i))

  pub accepting_written : (run : List ℕ) → accepting m list w run ≡ true → WrittenRun m list w run
  unfolding accepting
  accepting_written [] h = absurd (false≢true h)
  accepting_written (q ∷ es) h =
      let (lt, r) = and_true (ltb q m.states) (initial m.marks q && accepting_from m list w (start_at q) es) h in
      let (i, a) = and_true (initial m.marks q) (accepting_from m list w (start_at q) es) r in
      let (last, f, (s, written)) = entries_run (start_at q) es a in
      record {
        accepting_run = record { first = q; last = last; first_initial = (ltb-true q m.states lt, i); last_final = f; run = s };
        written = ap (λ (l : List ℕ). q ∷ l) (sym written);
      }

  module _ (r : Rules m list) where
    run_entries : {D D' : Configuration} (s : Run (fsbm_of m list) D D') (c : Config) → Placed m w c c.mode → published w c ≡ D
        → (last : ℕ) → final m.marks last ≡ true → D' ≡ config [] last [] Normal → accepting_from m list w c (entries_of m list s) ≡ true
    unfolding accepting_from entries_of
    run_entries done c pl e last f e' = published_accepts c last pl f (e ∙ e')
    run_entries (Run.more y s) c pl e last f e' =
        let v = yields_moves m list w r y c pl e in
        let c' = (move m list w c (entry_of m list y)).config in
        and_both_true (move m list w c (entry_of m list y)).allowed (accepting_from m list w c' (entries_of m list s)) v.allowed
        (run_entries s c' (move_stays m list w r c (entry_of m list y) v.allowed) v.lands last f e')

    run_accepting : (l : InLanguage (fsbm_of m list) w) → accepting m list w (l.first ∷ entries_of m list l.run) ≡ true
    unfolding accepting
    run_accepting l =
        let (lt, i) = l.first_initial in
        let es = entries_of m list l.run in
        and_both_true (ltb l.first m.states) (initial m.marks l.first && accepting_from m list w (start_at l.first) es) (lt-ltb l.first m.states lt)
        (and_both_true (initial m.marks l.first) (accepting_from m list w (start_at l.first) es) i
        (run_entries l.run (start_at l.first) (start_placed m w l.first lt) refl l.last l.last_final refl))

    pub path_accepting : (first last n : ℕ) → (fsbm_of m list).I first → (fsbm_of m list).F last → Path Configuration (Yields (fsbm_of m list)) (config w first [] Normal) (config [] last [] Normal) n
        → (run : List ℕ) × (length run ≡ suc n) × AllBelow 65536 run × (accepting m list w run ≡ true)
    path_accepting first last n i f p =
        let (s, len) = path_run m list p in (
          first ∷ entries_of m list s,
          ap suc len,
          more {x = first} (omega (arith, r.states_fit, i.0)) (entries_below m list r s),
          run_accepting (record { first = first; last = last; first_initial = i; last_final = f; run = s }),
        )

  pub written_accepting : well_formed m list ≡ true → (run : List ℕ) → WrittenRun m list w run → accepting m list w run ≡ true
  written_accepting good run s = ap (accepting m list w) s.written ∙ run_accepting (rules m list good) s.accepting_run

  pub accepting_iff_written : well_formed m list ≡ true → (run : List ℕ) → (accepting m list w run ≡ true) ↔ WrittenRun m list w run
  accepting_iff_written good run = (accepting_written run, written_accepting good run)

  -- what follows for the existence of runs

  pub accepting_path : (run : List ℕ) → accepting m list w run ≡ true
      → (first last n : ℕ) × (length run ≡ suc n) × (fsbm_of m list).I first × (fsbm_of m list).F last × Path Configuration (Yields (fsbm_of m list)) (config w first [] Normal) (config [] last [] Normal) n
  accepting_path run h =
      let s = accepting_written run h in
      let l = s.accepting_run in
      (l.first, l.last, length (entries_of m list l.run), ap length s.written, l.first_initial, l.last_final, run_path m list l.run)

  pub accepting_published : (run : List ℕ) → accepting m list w run ≡ true → InLanguage (fsbm_of m list) w
  accepting_published run h = (accepting_written run h).accepting_run

  pub published_accepting : well_formed m list ≡ true → InLanguage (fsbm_of m list) w → (run : List ℕ) × AllBelow 65536 run × (accepting m list w run ≡ true)
  published_accepting good l =
      let (run, len, below, a) = path_accepting (rules m list good) l.first l.last (length (entries_of m list l.run)) l.first_initial l.last_final (run_path m list l.run) in
      (run, below, a)
