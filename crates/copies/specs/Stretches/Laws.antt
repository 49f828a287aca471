-- The laws of specs/Stretches.antt.
--
-- passed_begin, passed_takes, passed_other == the stretch past an entry 65,533, past a transition, past any other entry
-- passed_forward       == it begins no later than it ends
-- read_on              == entries do not take the position back
-- Tracks c t s         == the stretch s is what the configuration c in mode t has read, and while it buffers what it has stored
-- move_tracks          == an allowed move keeps that; and where it begins to match, the stretch is the copy
-- entries_are          == the copies that the entries tell are those of the accepting run
-- entries_read_lem         == the letters that they read are the word's
use Rattle.std.specs.Prelude.{ℕ, ◌-◌, ◌≤◌, ◌<◌, ◌≡◌, Bool, ◌&&◌, length, drop, ltb}
use Rattle.std.proofs.Math.Path.{refl, sym, ap}
use Rattle.std.proofs.Common.{◌∙◌, subst, arith, lt-ltb, le-ltb, eqb-true, eq-eqb, ne_eqb}
use Rattle.std.proofs.Math.Bool.{true, false, cond}
use Rattle.std.proofs.lemmas.Bool.{false≢true}
use mathlib.Core.List.{List, [], ◌∷◌}
use Rattle.std.proofs.Math.Dec.{eqb}
use Rattle.basics.specs.Bools.{cond_elim}
use Rattle.basics.specs.Search.Laws.{and_true}
use Rattle.basics.specs.Search.Loops.{first, second}
use Rattle.fsbm.specs.Machine.{well_formed, transition_at, initial, buffering, matching}
use Rattle.fsbm.specs.Moves.{advanced, after, may_change, changed, move, start_at, accepting_from, accepting, begin_buffering, begin_emptying, back_to_normal}
use Rattle.fsbm.specs.Moves.Laws.{advanced_by, move_elim, accepts_says}
use Rattle.fsbm.specs.Rules.{rules, Placed}
use Rattle.fsbm.specs.declared.machine.Machine.{Machine}
use Rattle.fsbm.specs.declared.machine.Transition.{Transition}
use Rattle.fsbm.specs.declared.config.Config.{Config}
use Rattle.fsbm.specs.declared.config.Mode.{Mode}
use Rattle.fsbm.specs.declared.config.Mode.TheVariants.{Normal, Buffering, Emptying}
use Rattle.copies.specs.declared.Stretch.{Stretch}
use Rattle.copies.specs.Copies.{Copy, copy_at, copies_from, copies_of, with_letters, copy_list}
use Rattle.copies.specs.Stretches.{passed, stretch_copy, entries_from, read_from, at_first, entry_list, entries_read}

advanced_on : (p x : ℕ) → p ≤ advanced p x
advanced_on p x = let by = advanced_by p x in omega arith

module _ (n : ℕ) (list : List ℕ) (s : Stretch) (e : ℕ) where
  pub passed_begin : e ≡ begin_buffering → record { start = s.position; position = s.position } ≡ passed n list s e
  unfolding passed
  passed_begin h = first _ (eq-eqb e begin_buffering h) refl

  module _ (not-begin : e ≡ begin_buffering → ⊥) where
    pub passed_takes : e < n → record { start = s.start; position = advanced s.position (transition_at list e).letter } ≡ passed n list s e
    unfolding passed
    passed_takes lt = second _ (ne_eqb e begin_buffering not-begin) (first _ (lt-ltb e n lt) refl)

    pub passed_other : n ≤ e → s ≡ passed n list s e
    unfolding passed
    passed_other ge = second _ (ne_eqb e begin_buffering not-begin) (second _ (le-ltb e n ge) refl)

  -- what holds of the stretch in each of the three cases holds once the entry is passed
  passed_elim : (P : Stretch → Type 0) → P (record { start = s.position; position = s.position })
      → P (record { start = s.start; position = advanced s.position (transition_at list e).letter }) → P s → P (passed n list s e)
  unfolding passed
  passed_elim P begins takes other = cond_elim P (eqb e begin_buffering) _ _ (λ t. begins) (λ f. cond_elim P (ltb e n) _ _ (λ t. takes) (λ f. other))

  passed_on : s.position ≤ (passed n list s e).position
  passed_on = passed_elim (λ (z : Stretch). s.position ≤ z.position) (omega arith) (advanced_on s.position (transition_at list e).letter) (omega arith)

  pub passed_forward : s.start ≤ s.position → (passed n list s e).start ≤ (passed n list s e).position
  passed_forward h =
      let on = advanced_on s.position (transition_at list e).letter in
      passed_elim (λ (z : Stretch). z.start ≤ z.position) (omega arith) (omega arith) h

pub read_on : (n : ℕ) (list : List ℕ) (s : Stretch) (es : List ℕ) → s.position ≤ read_from n list s es
unfolding read_from
read_on n list s [] = omega arith
read_on n list s (e ∷ es) = let here = passed_on n list s e in let on = read_on n list (passed n list s e) es in omega arith

abbrev Tracks : Config → Mode → Stretch → Type 0
Tracks c Normal s = c.position ≡ s.position
Tracks c Buffering s = (c.position ≡ s.position) × (c.start ≡ s.start)
Tracks c Emptying s = c.position ≡ s.position

module _ (m : Machine) (list w : List ℕ) where
  -- past entry e of c: the stretch, and the copy where the entry makes one
  abbrev Follows : Config → ℕ → Stretch → Config → Type 0
  Follows c e s next = Tracks next next.mode (passed m.transitions list s e) × (e ≡ begin_emptying → copy_at c ≡ stretch_copy s)

  after_tracks : (c : Config) (tr : Transition) (t : Mode) (s : Stretch) → Tracks c t s
      → Tracks (after c tr t) (after c tr t).mode (record { start = s.start; position = advanced s.position tr.letter })
  unfolding after
  after_tracks c tr Normal s h = ap (λ (p : ℕ). advanced p tr.letter) h
  after_tracks c tr Buffering s h = (ap (λ (p : ℕ). advanced p tr.letter) h.0, h.1)
  after_tracks c tr Emptying s h = ap (λ (p : ℕ). advanced p tr.letter) h

  changed_tracks : (c : Config) (e : ℕ) (t : Mode) (s : Stretch) → Placed m w c t → m.transitions ≤ e → may_change m.marks c e t ≡ true → Tracks c t s → Follows c e s (changed c t)
  changed_tracks c e Normal s p ge h at-s =
      let (entry, r) = and_true (eqb e begin_buffering) (buffering m.marks c.state && eqb c.start c.end) h in
      let is = eqb-true e begin_buffering entry in
      (subst (λ (z : Stretch). (c.position ≡ z.position) × (c.position ≡ z.start)) (passed_begin m.transitions list s e is) (at-s, at-s), λ z. absurd (omega arith))
  changed_tracks c e Buffering s p ge h at-s =
      let (entry, r) = and_true (eqb e begin_emptying) (matching m.marks c.state) h in
      let is = eqb-true e begin_emptying entry in
      let other : e ≡ begin_buffering → ⊥ = λ (z : e ≡ begin_buffering). omega arith in
      let ends : c.end ≡ c.position = eqb-true c.end c.position p.fits in
      (subst (λ (z : Stretch). c.position ≡ z.position) (passed_other m.transitions list s e other ge) at-s.0, λ z. same at-s.1 (ends ∙ at-s.0))
    where
      same : c.start ≡ s.start → c.end ≡ s.position → copy_at c ≡ stretch_copy s
      same a b = ap (λ (z : ℕ). record { start = z; stored = c.end - z }) a ∙ ap (λ (z : ℕ). record { start = s.start; stored = z - s.start }) b
  changed_tracks c e Emptying s p ge h at-s =
      let (entry, r) = and_true (eqb e back_to_normal) (matching m.marks c.state && eqb c.start c.end) h in
      let is = eqb-true e back_to_normal entry in
      let other : e ≡ begin_buffering → ⊥ = λ (z : e ≡ begin_buffering). omega arith in
      (subst (λ (z : Stretch). c.position ≡ z.position) (passed_other m.transitions list s e other ge) at-s, λ z. absurd (omega arith))

  move_tracks : well_formed m list ≡ true → (c : Config) (e : ℕ) (s : Stretch) → Tracks c c.mode s → (move m list w c e).allowed ≡ true → Follows c e s (move m list w c e).config
  move_tracks good c e s at-s =
      move_elim m list w c e (Follows c e s)
      (λ p lt t. taken lt (after c (transition_at list e) c.mode) (after_tracks c (transition_at list e) c.mode s at-s))
      (λ p ge h. changed_tracks c e c.mode s p ge h at-s)
    where
      taken : e < m.transitions → (next : Config) → Tracks next next.mode (record { start = s.start; position = advanced s.position (transition_at list e).letter }) → Follows c e s next
      taken lt next h =
          let few = (rules m list good).transitions_fit in
          let other : e ≡ begin_buffering → ⊥ = λ (z : e ≡ begin_buffering). omega arith in
          (subst (Tracks next next.mode) (passed_takes m.transitions list s e other lt) h, λ z. absurd (omega arith))

  at_position : (c : Config) (t : Mode) (s : Stretch) → Tracks c t s → c.position ≡ s.position
  at_position c Normal s h = h
  at_position c Buffering s h = h.0
  at_position c Emptying s h = h

  from_entries : well_formed m list ≡ true → (c : Config) (s : Stretch) (es : List ℕ) → Tracks c c.mode s → accepting_from m list w c es ≡ true
      → (entries_from m.transitions list s es ≡ copies_from m list w c es) × (read_from m.transitions list s es ≡ length w)
  unfolding accepting_from copies_from entries_from read_from
  from_entries good c s [] at-s h = (refl, sym (at_position c c.mode s at-s) ∙ (accepts_says m.marks (length w) c h).2)
  from_entries good c s (e ∷ es) at-s h =
      let next = (move m list w c e).config in
      let (a, rest) = and_true (move m list w c e).allowed (accepting_from m list w next es) h in
      let (there, copy) = move_tracks good c e s at-s a in
      let (same, read) = from_entries good next (passed m.transitions list s e) es there rest in
      (at (eqb e begin_emptying) refl (λ z. copy (eqb-true e begin_emptying z)) same, read)
    where
      at : (b : Bool) → eqb e begin_emptying ≡ b → (eqb e begin_emptying ≡ true → copy_at c ≡ stretch_copy s) → {l r : List Copy} → l ≡ r → cond b (stretch_copy s ∷ l) l ≡ cond b (copy_at c ∷ r) r
      at true h copy {l} {r} same = ap (λ (k : Copy). k ∷ l) (sym (copy h)) ∙ ap (λ (ks : List Copy). copy_at c ∷ ks) same
      at false h copy same = same

  module _ (good : well_formed m list ≡ true) where
    of_run : (run : List ℕ) → accepting m list w run ≡ true
        → (entries_from m.transitions list at_first (drop 1 run) ≡ copies_of m list w run) × (entries_read m.transitions list run ≡ length w)
    unfolding accepting copies_of
    of_run [] h = absurd (false≢true h)
    of_run (q ∷ es) h =
        let (lt, r) = and_true (ltb q m.states) (initial m.marks q && accepting_from m list w (start_at q) es) h in
        let (i, a) = and_true (initial m.marks q) (accepting_from m list w (start_at q) es) r in
        from_entries good (start_at q) at_first es refl a

    pub entries_are : (run : List ℕ) → accepting m list w run ≡ true → entry_list m.transitions list run ≡ copy_list m list w run
    entries_are run h = ap with_letters (of_run run h).0

    pub entries_read_lem : (run : List ℕ) → accepting m list w run ≡ true → entries_read m.transitions list run ≡ length w
    entries_read_lem run h = (of_run run h).1
