-- What the runs on a word reach, and the published definition: `reaches` is what some published run gets to.
--
-- leads_reachable       == what a written run leads to, a published run gets to
-- reaches_iff_published == reaches, if and only if some published run gets there
-- reaches_iff_run       == reaches, if and only if some written run, however long, leads there
-- reaches_below         == what is reached is a state of the machine
-- normal_empty          == a published run that starts with the empty buffer has it empty wherever it is in normal mode
-- accepted_iff_final    == a word is accepted exactly if a final state is reached at its end in normal mode
-- move_position         == an allowed move goes on by at most one letter
-- reached_before        == where a position is reached, some state is reached at each position before it
-- none_after            == where no state is reached at a position, none is at any after it
use Rattle.std.specs.Prelude.{ℕ, zero, suc, ◌-◌, ◌≤◌, ◌<◌, ◌≡◌, ◌↔◌, ◌⊎◌, true, false, ◌&&◌, drop, ltb, eqb}
use Rattle.std.proofs.Math.Path.{refl, sym, ap, subst}
use Rattle.std.proofs.Common.{◌∙◌, inl, inr}
use Rattle.std.proofs.lemmas.Bool.{false≢true}
use mathlib.Core.List.{List, [], ◌∷◌}
use native.Mathlib.Omega.{arith}
use Rattle.std.proofs.Math.Decide.{ℕ_discrete}
use Rattle.std.proofs.Math.ListN.{length, length-drop}
use Rattle.std.proofs.Math.Seq.{slice, drop-length}
use borrow.Author.Tests.{ltb-true, lt-ltb, eqb-true, eq-eqb}
use Rattle.basics.specs.Search.{AllBelow, more}
use Rattle.basics.specs.Search.Laws.{and_true, and_both_true, true_or_false, not_both}
use Rattle.fsbm.specs.Machine.{well_formed, initial, final, transition_at}
use Rattle.fsbm.specs.Moves.{well_placed, advanced, after, changed, move, start_at, is_normal}
use Rattle.fsbm.specs.Moves.Laws.{advanced_suc, start_placed, move_elim, move_placed}
use Rattle.fsbm.specs.Accepted.{run_bound, accepted}
use Rattle.fsbm.specs.Published.{FSBM, fsbm_of, Configuration, config, Yields, normal, buffer, empty, begins_buffering, begins_emptying, returns_to_normal, Run, done}
use Rattle.fsbm.specs.Entries.{entry_of, entries_of}
use Rattle.fsbm.specs.Reaches.{same_mode, is_at, leads_from, leads, reaches, Reachable}
use Rattle.fsbm.specs.Reaches.Laws.{same_mode_law, reaches_true}
use Rattle.fsbm.specs.Rules.{rules, placed, unplaced}
use Rattle.fsbm.specs.declared.machine.Machine.{Machine}
use Rattle.fsbm.specs.declared.machine.Transition.{Transition}
use Rattle.fsbm.specs.declared.config.Config.{Config}
use Rattle.fsbm.specs.declared.config.Mode.{Mode}
use Rattle.fsbm.specs.declared.config.Mode.TheVariants.{Normal, Buffering, Emptying}
use Rattle.language.specs.Agreement.{published, move_yields, yields_move, run_path, path_run, entries_below}
use Rattle.language.specs.Bound.{path_below, path_short, accepted_iff_published}

-- the test is the three equations
at_law : (p : ℕ) (t : Mode) (q : ℕ) (c : Config) → (is_at p t q c ≡ true) ↔ ((c.position ≡ p) × (c.mode ≡ t) × (c.state ≡ q))
at_law p t q c = (
  λ h.
      let (a, r) = and_true (eqb c.position p) (same_mode c.mode t && eqb c.state q) h in
      let (b, d) = and_true (same_mode c.mode t) (eqb c.state q) r in
      (eqb-true c.position p a, (same_mode_law c.mode t).0 b, eqb-true c.state q d),
  λ z.
      and_both_true (eqb c.position p) (same_mode c.mode t && eqb c.state q) (eq-eqb c.position p z.0)
      (and_both_true (same_mode c.mode t) (eqb c.state q) ((same_mode_law c.mode t).1 z.1) (eq-eqb c.state q z.2)),
)

module _ (m : Machine) (list w : List ℕ) (good : well_formed m list ≡ true) (p : ℕ) (t : Mode) (q : ℕ) where
  -- entries that lead there are a published run
  entries_run : (c : Config) (es : List ℕ) → well_placed m.states (length w) c ≡ true → leads_from m list w p t q c es ≡ true
      → (p ≤ length w) × ((buffer : List ℕ) × Run (fsbm_of m list) (published w c) (config (drop p w) q buffer t))
  unfolding leads_from
  entries_run c [] pl h =
      let (at_p, in-t, at-q) = (at_law p t q c).0 h in
      let stored = slice c.start c.end w in
      let end : published w c ≡ config (drop p w) q stored t = λ i. config (drop (at_p i) w) (at-q i) stored (in-t i) in
      (omega (arith, (placed m w c pl).in_word), (stored, subst (Run (fsbm_of m list) (published w c)) end done))
  entries_run c (e ∷ es) pl h =
      let (a, rest) = and_true (move m list w c e).allowed (leads_from m list w p t q (move m list w c e).config es) h in
      let (within, (stored, s)) = entries_run (move m list w c e).config es (move_placed m list w good c e a) rest in
      (within, (stored, Run.more (move_yields m list w c e a).0 s))

  -- the entries of a published run that gets there lead there
  run_entries : {D D' : Configuration} (s : Run (fsbm_of m list) D D') (c : Config) → well_placed m.states (length w) c ≡ true → published w c ≡ D
      → p ≤ length w → (stored : List ℕ) → D' ≡ config (drop p w) q stored t → leads_from m list w p t q c (entries_of m list s) ≡ true
  unfolding leads_from entries_of
  run_entries done c pl e within stored e' =
      let end : published w c ≡ config (drop p w) q stored t = e ∙ e' in
      let left : length w - c.position ≡ length w - p = sym (length-drop c.position w) ∙ ap (λ (D : Configuration). length D.input) end ∙ length-drop p w in
      (at_law p t q c).1 (omega (arith, (placed m w c pl).in_word), ap (λ (D : Configuration). D.mode) end, ap (λ (D : Configuration). D.state) end)
  run_entries (Run.more y s) c pl e within stored e' =
      let v = yields_move m list w good y c pl e in
      let n = entry_of m list y in
      and_both_true (move m list w c n).allowed (leads_from m list w p t q (move m list w c n).config (entries_of m list s)) v.allowed
      (run_entries s (move m list w c n).config (move_placed m list w good c n v.allowed) v.lands within stored e')

  pub leads_reachable : (run : List ℕ) → leads m list w p t q run ≡ true → Reachable (fsbm_of m list) w p t q
  unfolding leads
  leads_reachable [] h = absurd (false≢true h)
  leads_reachable (o ∷ es) h =
      let (below, r) = and_true (ltb o m.states) (initial m.marks o && leads_from m list w p t q (start_at o) es) h in
      let (is, a) = and_true (initial m.marks o) (leads_from m list w p t q (start_at o) es) r in
      let lt = ltb-true o m.states below in
      let (within, (stored, s)) = entries_run (start_at o) es (unplaced m w (start_at o) (start_placed m w o lt)) a in
      record { first = o; first_initial = (lt, is); within = within; buffer = stored; run = s }

  -- cut short enough to be among the runs that the definition goes through
  reachable_leads : Reachable (fsbm_of m list) w p t q → (run : List ℕ) × (length run ≤ run_bound m (length w)) × AllBelow 65536 run × (leads m list w p t q run ≡ true)
  unfolding leads
  reachable_leads l =
      let r = rules m list good in
      let o = l.first in
      let (lt, is) = l.first_initial in
      let (k, short, path) = path_short r w o lt (run_path m list l.run) in
      let (s, len) = path_run m list path in
      let es = entries_of m list s in
      let rest = run_entries s (start_at o) (unplaced m w (start_at o) (start_placed m w o lt)) refl l.within l.buffer refl in (
        o ∷ es,
        omega arith,
        more {x = o} (omega (arith, r.states_fit)) (entries_below m list r s),
        and_both_true (ltb o m.states) (initial m.marks o && leads_from m list w p t q (start_at o) es) (lt-ltb o m.states lt)
            (and_both_true (initial m.marks o) (leads_from m list w p t q (start_at o) es) is rest),
      )

  pub reaches_iff_published : (reaches m list w p t q ≡ true) ↔ Reachable (fsbm_of m list) w p t q
  reaches_iff_published = (
    λ h. let (run, len, below, a) = (reaches_true m list w p t q).0 h in leads_reachable run a,
    λ l. (reaches_true m list w p t q).1 (reachable_leads l),
  )

module _ (m : Machine) (list w : List ℕ) where
  pub reaches_iff_run : well_formed m list ≡ true → (p : ℕ) (t : Mode) (q : ℕ) → (reaches m list w p t q ≡ true) ↔ ((run : List ℕ) × (leads m list w p t q run ≡ true))
  reaches_iff_run good p t q = (
    λ h. let (run, len, below, a) = (reaches_true m list w p t q).0 h in (run, a),
    λ s. (reaches_iff_published m list w good p t q).1 (leads_reachable m list w good p t q s.0 s.1),
  )

  pub reaches_below : well_formed m list ≡ true → (p : ℕ) (t : Mode) (q : ℕ) → reaches m list w p t q ≡ true → q < m.states
  reaches_below good p t q h =
      let l = (reaches_iff_published m list w good p t q).0 h in
      path_below (rules m list good) (run_path m list l.run) l.first_initial.0

-- Accepted words

-- in normal mode the buffer is empty
abbrev Unstored : Configuration → Type 0
Unstored D = D.mode ≡ Normal → D.buffer ≡ []

yields_unstored : {M : FSBM} {D D' : Configuration} → Yields M D D' → Unstored D'
yields_unstored (normal δ apart n) e = refl
yields_unstored (buffer δ apart n) e = absurd (false≢true (ap is_normal e))
yields_unstored (empty δ from to) e = absurd (false≢true (ap is_normal e))
yields_unstored (begins_buffering is) e = absurd (false≢true (ap is_normal e))
yields_unstored (begins_emptying is) e = absurd (false≢true (ap is_normal e))
yields_unstored (returns_to_normal is) e = refl

pub normal_empty : {M : FSBM} {w : List ℕ} {o : ℕ} {D : Configuration} → Run M (config w o [] Normal) D → D.mode ≡ Normal → D.buffer ≡ []
normal_empty r = along r (λ e. refl)
  where
    along : {M : FSBM} {D D' : Configuration} → Run M D D' → Unstored D → Unstored D'
    along done u = u
    along (Run.more y r) u = along r (yields_unstored y)

module _ (m : Machine) (list w : List ℕ) where
  pub accepted_iff_final : well_formed m list ≡ true
      → (accepted m list w ≡ true) ↔ ((q : ℕ) × (final m.marks q ≡ true) × (reaches m list w (length w) Normal q ≡ true))
  accepted_iff_final good = (
    λ h.
        let l = (accepted_iff_published m list w good).0 h in
        let q = l.last in (
          q,
          l.last_final,
          (reaches_iff_published m list w good (length w) Normal q).1 (record {
            first = l.first;
            first_initial = l.first_initial;
            within = omega arith;
            buffer = [];
            run = subst (λ (u : List ℕ). Run (fsbm_of m list) (config w l.first [] Normal) (config u q [] Normal)) (sym (drop-length w)) l.run;
          }),
        ),
    λ s.
        let (q, is, h) = s in
        let l = (reaches_iff_published m list w good (length w) Normal q).0 h in
        let none = normal_empty l.run refl in
        (accepted_iff_published m list w good).1 (record {
          first = l.first;
          last = q;
          first_initial = l.first_initial;
          last_final = is;
          run = subst (Run (fsbm_of m list) (config w l.first [] Normal)) (λ i. config (drop-length w i) q (none i) Normal) l.run;
        }),
  )

-- Positions on the way

advanced_once : (p x : ℕ) → advanced p x ≤ suc p
advanced_once p zero = omega arith
advanced_once p (suc x) = let next = advanced_suc p x in omega arith

after_position : (c : Config) (tr : Transition) (t : Mode) → (after c tr t).position ≡ advanced c.position tr.letter
unfolding after
after_position c tr Normal = refl
after_position c tr Buffering = refl
after_position c tr Emptying = refl

changed_position : (c : Config) (t : Mode) → (changed c t).position ≡ c.position
changed_position c Normal = refl
changed_position c Buffering = refl
changed_position c Emptying = refl

module _ (m : Machine) (list w : List ℕ) where
  pub move_position : (c : Config) (e : ℕ) → (move m list w c e).allowed ≡ true → (move m list w c e).config.position ≤ suc c.position
  move_position c e =
      move_elim m list w c e (λ d. d.position ≤ suc c.position)
      (λ p lt took. let tr = transition_at list e in omega (arith, after_position c tr c.mode, advanced_once c.position tr.letter))
      (λ p ge h. omega (arith, changed_position c c.mode))

  -- entries that lead to p' go through p: some of them lead there
  before : (p p' : ℕ) (t : Mode) (q : ℕ) → p ≤ p' → (c : Config) (es : List ℕ) → c.position ≤ p → leads_from m list w p' t q c es ≡ true
      → (s : Mode) × (o : ℕ) × (fs : List ℕ) × (leads_from m list w p s o c fs ≡ true)
  unfolding leads_from
  before p p' t q le c [] from h =
      let (at-p', in-t, at-q) = (at_law p' t q c).0 h in
      (c.mode, c.state, [], (at_law p c.mode c.state c).1 (omega arith, refl, refl))
  before p p' t q le c (e ∷ es) from h = by (ℕ_discrete c.position p) (before p p' t q le (move m list w c e).config es)
    where
      c' : Config
      c' = (move m list w c e).config

      Before : Config → Type 0
      Before d = (s : Mode) × (o : ℕ) × (fs : List ℕ) × (leads_from m list w p s o d fs ≡ true)

      by : Dec (c.position ≡ p) → (c'.position ≤ p → leads_from m list w p' t q c' es ≡ true → Before c') → Before c
      by (yes z) on = (c.mode, c.state, [], (at_law p c.mode c.state c).1 (z, refl, refl))
      by (no f) on =
          let (a, rest) = and_true (move m list w c e).allowed (leads_from m list w p' t q c' es) h in
          let once = move_position c e a in
          let (s, o, fs, b) = on (omega arith) rest in
          (s, o, e ∷ fs, and_both_true (move m list w c e).allowed (leads_from m list w p s o c' fs) a b)

  leads_before : (p p' : ℕ) (t : Mode) (q : ℕ) → p ≤ p' → (run : List ℕ) → leads m list w p' t q run ≡ true
      → (s : Mode) × (o : ℕ) × (fs : List ℕ) × (leads m list w p s o fs ≡ true)
  unfolding leads
  leads_before p p' t q le [] h = absurd (false≢true h)
  leads_before p p' t q le (i ∷ es) h =
      let (lt, r) = and_true (ltb i m.states) (initial m.marks i && leads_from m list w p' t q (start_at i) es) h in
      let (is, a) = and_true (initial m.marks i) (leads_from m list w p' t q (start_at i) es) r in
      let (s, o, fs, b) = before p p' t q le (start_at i) es (omega arith) a in (
        s,
        o,
        i ∷ fs,
        and_both_true (ltb i m.states) (initial m.marks i && leads_from m list w p s o (start_at i) fs) lt
            (and_both_true (initial m.marks i) (leads_from m list w p s o (start_at i) fs) is b),
      )

  pub reached_before : well_formed m list ≡ true → (p p' : ℕ) (t : Mode) (q : ℕ) → p ≤ p' → reaches m list w p' t q ≡ true
      → (s : Mode) × (o : ℕ) × (reaches m list w p s o ≡ true)
  reached_before good p p' t q le h =
      let (run, a) = (reaches_iff_run m list w good p' t q).0 h in
      let (s, o, fs, b) = leads_before p p' t q le run a in
      (s, o, (reaches_iff_run m list w good p s o).1 (fs, b))

  pub none_after : well_formed m list ≡ true → (p p' : ℕ) → p ≤ p' → ((t : Mode) (q : ℕ) → reaches m list w p t q ≡ false)
      → (t : Mode) (q : ℕ) → reaches m list w p' t q ≡ false
  none_after good p p' le nothing t q = at (true_or_false (reaches m list w p' t q))
    where
      at : (reaches m list w p' t q ≡ true) ⊎ (reaches m list w p' t q ≡ false) → reaches m list w p' t q ≡ false
      at (inl h) = let (s, o, b) = reached_before good p p' t q le h in absurd (not_both b (nothing s o))
      at (inr f) = f
