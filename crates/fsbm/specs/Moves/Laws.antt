-- Where an allowed move leads. Assumes nothing.
--
-- mode_below, mode_same == a mode's number is below 3, and tells it
-- reads_suc            == a letter that is read stands at the position, before the end
-- advanced_suc         == a letter that is read moves the position on by one
-- advanced_by          == the position moves on by what it would from 0
-- advanced_fits        == the position after the letter: not before the old one, nor past the end
-- start_placed         == a run starts at a configuration that a move is allowed from
-- passes_normal, passes_buffering, passes_emptying == what the marks at its ends say of a transition, in each mode
-- listed_normal, listed_buffering, listed_emptying == a listed transition that the published definition lets be taken passes
-- Took                 == what may_take says of a transition, part by part
-- move_elim            == an allowed move takes a transition or changes the mode: what holds after both holds after it
-- move_takes, move_changes == the move by the number of a transition, and by any other entry
-- move_stays           == an allowed move of a machine that obeys the rules leads to a configuration that a move is allowed from
-- move_placed          == the same, with the tests
-- accepts_says         == where a run accepts, it is in normal mode with an empty buffer and has read the word
use Rattle.std.specs.Prelude.{ℕ, zero, suc, ◌+◌, ◌≤◌, ◌<◌, ◌≡◌, ◌↔◌, Bool, cond, not, ◌&&◌, List, length, get_or, ltb, eqb}
use Rattle.std.proofs.Math.Path.{refl, ap}
use Rattle.std.proofs.Common.{sym, subst, arith, add-one}
use Rattle.std.proofs.Math.Bool.{true, false}
use Rattle.std.proofs.lemmas.Bool.{false≢true}
use Rattle.std.proofs.Math.Dec.{eqb-suc-zero}
use borrow.Author.Tests.{ltb-true, ltb-false, lt-ltb, le-ltb, eqb-true, eq-eqb}
use Rattle.basics.specs.Search.Laws.{and_true, and_both_true}
use Rattle.basics.specs.Bools.{cond_elim, not_says, says_not, not_and_says, says_not_and}
use Rattle.fsbm.specs.Machine.{well_formed, transition_at, final, buffering, matching, both_matching}
use Rattle.fsbm.specs.Moves.{mode_number, well_placed, reads_letter, advanced, passes, reads_stored, may_take, after, may_change, changed, goes, changes, move, start_at, is_normal, accepts, back_to_normal}
use Rattle.fsbm.specs.Published.{Listed}
use Rattle.fsbm.specs.Rules.{Rules, rules, Placed, placed, unplaced}
use Rattle.fsbm.specs.declared.machine.Machine.{Machine}
use Rattle.fsbm.specs.declared.machine.Transition.{Transition}
use Rattle.fsbm.specs.declared.config.Config.{Config}
use Rattle.fsbm.specs.declared.config.Move.{Move}
use Rattle.fsbm.specs.declared.config.Mode.{Mode}
use Rattle.fsbm.specs.declared.config.Mode.TheVariants.{Normal, Buffering, Emptying}

-- The modes as numbers

pub mode_below : (t : Mode) → mode_number t < 3
mode_below Normal = omega arith
mode_below Buffering = omega arith
mode_below Emptying = omega arith

pub mode_same : (s t : Mode) → mode_number s ≡ mode_number t → s ≡ t
mode_same Normal Normal e = refl
mode_same Normal Buffering e = absurd (omega arith)
mode_same Normal Emptying e = absurd (omega arith)
mode_same Buffering Normal e = absurd (omega arith)
mode_same Buffering Buffering e = refl
mode_same Buffering Emptying e = absurd (omega arith)
mode_same Emptying Normal e = absurd (omega arith)
mode_same Emptying Buffering e = absurd (omega arith)
mode_same Emptying Emptying e = refl

pub reads_suc : (w : List ℕ) (p e x : ℕ) → reads_letter w p e (suc x) ≡ true → (p < e) × (get_or w p 0 ≡ suc x)
unfolding reads_letter
reads_suc w p e x h =
    let both = and_true (ltb p e) (eqb (get_or w p 0) (suc x)) (rw eqb-suc-zero at h) in
    (ltb-true p e both.0, eqb-true (get_or w p 0) (suc x) both.1)

pub advanced_suc : (p x : ℕ) → advanced p (suc x) ≡ suc p
advanced_suc p x = rw (eqb-suc-zero, add-one)

pub advanced_by : (p x : ℕ) → advanced p x ≡ p + advanced 0 x
advanced_by p zero = omega arith
advanced_by p (suc x) = rw eqb-suc-zero refl

pub advanced_fits : (w : List ℕ) (p e x : ℕ) → p ≤ e → reads_letter w p e x ≡ true → (p ≤ advanced p x) × (advanced p x ≤ e)
advanced_fits w p e zero le h = (omega arith, le)
advanced_fits w p e (suc x) le h =
    let (lt, same) = reads_suc w p e x h in
    let next = advanced_suc p x in
    (omega arith, omega arith)

module _ (m : Machine) (w : List ℕ) where
  pub start_placed : (q : ℕ) → q < m.states → Placed m w (start_at q) Normal
  start_placed q lt = record { in_word = omega arith; state_below = lt; forward = omega arith; behind = omega arith; fits = refl }

  after_stays : (c : Config) (tr : Transition) (t : Mode) → Placed m w c t → tr.to < m.states → reads_letter w c.position (length w) tr.letter ≡ true
      → reads_stored w c tr t ≡ true → Placed m w (after c tr t) (after c tr t).mode
  unfolding after reads_stored
  after_stays c tr Normal p to reads stored =
      let (on, inside) = advanced_fits w c.position (length w) tr.letter p.in_word reads in
      record { in_word = inside; state_below = to; forward = p.forward; behind = omega (arith, p.behind); fits = p.fits }
  after_stays c tr Buffering p to reads stored =
      let (on, inside) = advanced_fits w c.position (length w) tr.letter p.in_word reads in
      let ends : c.end ≡ c.position = eqb-true c.end c.position p.fits in
      let next : advanced c.end tr.letter ≡ advanced c.position tr.letter = ap (λ (n : ℕ). advanced n tr.letter) ends in
      record {
        in_word = inside;
        state_below = to;
        forward = omega (arith, p.forward);
        behind = omega arith;
        fits = eq-eqb (advanced c.end tr.letter) (advanced c.position tr.letter) next;
      }
  after_stays c tr Emptying p to reads stored =
      let (on, inside) = advanced_fits w c.position (length w) tr.letter p.in_word reads in
      let (on₂, inside₂) = advanced_fits w c.start c.end tr.letter p.forward stored in
      record { in_word = inside; state_below = to; forward = inside₂; behind = omega (arith, p.behind); fits = refl }

  changed_stays : (c : Config) (e : ℕ) (t : Mode) → Placed m w c t → may_change m.marks c e t ≡ true → Placed m w (changed c t) (changed c t).mode
  changed_stays c e Normal p h =
      record { in_word = p.in_word; state_below = p.state_below; forward = omega arith; behind = omega arith; fits = eq-eqb c.position c.position refl }
  changed_stays c e Buffering p h = record { in_word = p.in_word; state_below = p.state_below; forward = p.forward; behind = p.behind; fits = refl }
  changed_stays c e Emptying p h =
      let r = (and_true (eqb e back_to_normal) (matching m.marks c.state && eqb c.start c.end) h).1 in
      let equal = (and_true (matching m.marks c.state) (eqb c.start c.end) r).1 in
      record { in_word = p.in_word; state_below = p.state_below; forward = p.forward; behind = p.behind; fits = equal }

-- What the marks at its ends say of a transition, in each mode

module _ (marks : List ℕ) (t : Transition) where
  pub passes_normal : (passes marks t Normal ≡ true) ↔ (((matching marks t.from ≡ true) × (matching marks t.to ≡ true) → ⊥) × (buffering marks t.from ≡ true → ⊥))
  unfolding passes
  passes_normal = (
    λ h.
        let (apart, free) = and_true (not (both_matching marks t)) (not (buffering marks t.from)) h in
        (not_and_says (matching marks t.from) (matching marks t.to) apart, not_says (buffering marks t.from) free),
    λ z.
        and_both_true (not (both_matching marks t)) (not (buffering marks t.from)) (says_not_and (matching marks t.from) (matching marks t.to) z.0) (says_not (buffering marks t.from) z.1),
  )

  pub passes_buffering : (passes marks t Buffering ≡ true) ↔ (((matching marks t.from ≡ true) × (matching marks t.to ≡ true) → ⊥) × (buffering marks t.to ≡ true → ⊥))
  unfolding passes
  passes_buffering = (
    λ h.
        let (apart, free) = and_true (not (both_matching marks t)) (not (buffering marks t.to)) h in
        (not_and_says (matching marks t.from) (matching marks t.to) apart, not_says (buffering marks t.to) free),
    λ z.
        and_both_true (not (both_matching marks t)) (not (buffering marks t.to)) (says_not_and (matching marks t.from) (matching marks t.to) z.0) (says_not (buffering marks t.to) z.1),
  )

  pub passes_emptying : (passes marks t Emptying ≡ true) ↔ ((matching marks t.from ≡ true) × (matching marks t.to ≡ true))
  unfolding passes
  passes_emptying = (and_true (matching marks t.from) (matching marks t.to), λ z. and_both_true (matching marks t.from) (matching marks t.to) z.0 z.1)

-- the same of a listed transition and the states that it is listed with
module _ (marks list : List ℕ) {n p x q : ℕ} (δ : Listed list n p x q) where
  named : {y z : ℕ} → y ≡ z → (test : List ℕ → ℕ → Bool) → test marks y ≡ true → test marks z ≡ true
  named e test h = subst (λ (k : ℕ). test marks k ≡ true) e h

  pub listed_normal : ((matching marks p ≡ true) × (matching marks q ≡ true) → ⊥) → (buffering marks p ≡ true → ⊥) → passes marks (transition_at list δ.number) Normal ≡ true
  listed_normal apart free =
      (passes_normal marks (transition_at list δ.number)).1 (λ z. apart (named δ.from matching z.0, named δ.to matching z.1), λ z. free (named δ.from buffering z))

  pub listed_buffering : ((matching marks p ≡ true) × (matching marks q ≡ true) → ⊥) → (buffering marks q ≡ true → ⊥) → passes marks (transition_at list δ.number) Buffering ≡ true
  listed_buffering apart free =
      (passes_buffering marks (transition_at list δ.number)).1 (λ z. apart (named δ.from matching z.0, named δ.to matching z.1), λ z. free (named δ.to buffering z))

  pub listed_emptying : matching marks p ≡ true → matching marks q ≡ true → passes marks (transition_at list δ.number) Emptying ≡ true
  listed_emptying from to = (passes_emptying marks (transition_at list δ.number)).1 (named (sym δ.from) matching from, named (sym δ.to) matching to)

-- A transition that is taken

pub record Took (marks w : List ℕ) (c : Config) (tr : Transition) (t : Mode) : Type 0 where
  pub leaves : tr.from ≡ c.state
  pub passed : passes marks tr t ≡ true
  pub reads : reads_letter w c.position (length w) tr.letter ≡ true
  pub stored : reads_stored w c tr t ≡ true

module _ (marks w : List ℕ) (c : Config) (tr : Transition) where
  pub may_take_says : may_take marks w c tr ≡ true → Took marks w c tr c.mode
  unfolding may_take
  may_take_says h =
      let (same, r) = and_true (eqb tr.from c.state) _ h in
      let (passed, r₂) = and_true (passes marks tr c.mode) _ r in
      let (reads, stored) = and_true (reads_letter w c.position (length w) tr.letter) (reads_stored w c tr c.mode) r₂ in
      record { leaves = eqb-true tr.from c.state same; passed = passed; reads = reads; stored = stored }

  pub says_may_take : Took marks w c tr c.mode → may_take marks w c tr ≡ true
  unfolding may_take
  says_may_take t =
      and_both_true (eqb tr.from c.state) _ (eq-eqb tr.from c.state t.leaves)
      (and_both_true (passes marks tr c.mode) _ t.passed (and_both_true (reads_letter w c.position (length w) tr.letter) (reads_stored w c tr c.mode) t.reads t.stored))

-- The two ways of an allowed move, and the way back

module _ (m : Machine) (list w : List ℕ) (c : Config) (e : ℕ) where
  goes_elim : (P : Config → Type 0) (ok : Bool) (next : Config) → (ok ≡ true → P next) → ok ≡ true → P (cond ok next c)
  goes_elim P true next h t = h t
  goes_elim P false next h t = absurd (false≢true t)

  pub move_elim : (P : Config → Type 0)
      → (Placed m w c c.mode → e < m.transitions → Took m.marks w c (transition_at list e) c.mode → P (after c (transition_at list e) c.mode))
      → (Placed m w c c.mode → m.transitions ≤ e → may_change m.marks c e c.mode ≡ true → P (changed c c.mode)) → (move m list w c e).allowed ≡ true → P (move m list w c e).config
  unfolding move changes
  move_elim P takes changes =
      cond_elim Good (well_placed m.states (length w) c) _ (goes false c c)
      (λ p. cond_elim Good (ltb e m.transitions) _ _
      (λ lt. goes_elim P _ _ (λ h. takes (placed m w c p) (ltb-true e m.transitions lt) (may_take_says m.marks w c (transition_at list e) h)))
      (λ ge. goes_elim P _ _ (changes (placed m w c p) (ltb-false e m.transitions ge))))
      (λ f h. absurd (false≢true h))
    where
      Good : Move → Type 0
      Good v = v.allowed ≡ true → P v.config

  pub move_takes : Placed m w c c.mode → e < m.transitions → move m list w c e ≡ goes (may_take m.marks w c (transition_at list e)) (after c (transition_at list e) c.mode) c
  unfolding move
  move_takes p lt =
      let in_place = unplaced m w c p in
      let lower = lt-ltb e m.transitions lt in
      rw (in_place, lower)

  pub move_changes : Placed m w c c.mode → m.transitions ≤ e → move m list w c e ≡ goes (may_change m.marks c e c.mode) (changed c c.mode) c
  unfolding move changes
  move_changes p ge =
      let in_place = unplaced m w c p in
      let above = le-ltb e m.transitions ge in
      rw (in_place, above)

module _ (m : Machine) (list w : List ℕ) where
  pub move_stays : Rules m list → (c : Config) (e : ℕ) → (move m list w c e).allowed ≡ true → Placed m w (move m list w c e).config (move m list w c e).config.mode
  move_stays r c e =
      move_elim m list w c e (λ d. Placed m w d d.mode)
      (λ p lt t. after_stays m w c (transition_at list e) c.mode p (r.to_below e lt) t.reads t.stored)
      (λ p ge h. changed_stays m w c e c.mode p h)

  pub move_placed : well_formed m list ≡ true → (c : Config) (e : ℕ) → (move m list w c e).allowed ≡ true → well_placed m.states (length w) (move m list w c e).config ≡ true
  move_placed good c e h = unplaced m w (move m list w c e).config (move_stays (rules m list good) c e h)

-- Where a run accepts

pub accepts_says : (marks : List ℕ) (n : ℕ) (c : Config) → accepts marks n c ≡ true → (is_normal c.mode ≡ true) × (c.start ≡ c.end) × (c.position ≡ n)
unfolding accepts
accepts_says marks n c h =
    let (f, r₁) = and_true (final marks c.state) (is_normal c.mode && (eqb c.start c.end && eqb c.position n)) h in
    let (normal, r₂) = and_true (is_normal c.mode) (eqb c.start c.end && eqb c.position n) r₁ in
    let (s, p) = and_true (eqb c.start c.end) (eqb c.position n) r₂ in
    (normal, eqb-true c.start c.end s, eqb-true c.position n p)
