-- The laws of specs/NoWord.antt.
--
-- control_of D          == the state and the mode of a published configuration
-- yields_follows       == a published move is followed
-- no_word_published    == a machine that passes the test has an empty language
-- no_word_lem              == and no word is accepted
use Rattle.std.specs.Prelude.{ℕ, zero, suc, ◌*◌, ◌≡◌, refl, ◌↔◌, Bool, false, cond, ◌&&◌}
use Rattle.std.proofs.Common.{sym, arith, eqb-true, eq-eqb}
use Rattle.std.proofs.Math.Path.{subst}
use Rattle.std.proofs.Math.Bool.{true, not}
use mathlib.Core.List.{List, ◌∷◌, Memᴰ}
use Rattle.std.proofs.Math.Dec.{eqb}
use Rattle.basics.specs.Search.{all_in}
use Rattle.basics.specs.Search.Laws.{and_true, and_both_true, all_in_true}
use Rattle.graphs.specs.Paths.{Path, here, step}
use Rattle.graphs.specs.Reach.{Edges, is_closed}
use Rattle.graphs.specs.Reach.Laws.{reach_complete, is_closed_all}
use Rattle.fsbm.specs.Machine.{initial, final, transition_at}
use Rattle.fsbm.specs.Moves.{passes, is_normal}
use Rattle.fsbm.specs.Moves.Laws.{listed_normal, listed_buffering, listed_emptying}
use Rattle.fsbm.specs.Accepted.{accepted}
use Rattle.fsbm.specs.Accepted.Laws.{accepted_true}
use Rattle.fsbm.specs.Published.{Listed, fsbm_of, Configuration, Yields, normal, buffer, empty, begins_buffering, begins_emptying, returns_to_normal, Run, done, InLanguage}
use Rattle.fsbm.specs.declared.machine.Machine.{Machine}
use Rattle.fsbm.specs.declared.config.Mode.{Mode}
use Rattle.fsbm.specs.declared.config.Mode.TheVariants.{Normal, Buffering, Emptying}
use Rattle.language.specs.Agreement.{accepting_published}
use Rattle.basics.specs.Bools.{false_iff, not_says}
use Rattle.language.specs.Chosen.{numbers, numbers_of, chosen, chosen_of}
use Rattle.language.specs.NoWord.{Control, control, same_control, changeable, next_mode, crossings, follows, controls, no_word}
use Rattle.fsbm.specs.Reaches.{same_mode}
use Rattle.fsbm.specs.Reaches.Laws.{same_mode_law}

pub same_control_law : (s t : Control) → (same_control s t ≡ true) ↔ (s ≡ t)
unfolding same_control
same_control_law s t = (to, λ e. subst (λ (x : Control). same_control s x ≡ true) e (and_both_true (eqb s.state s.state) (same_mode s.mode s.mode) (eq-eqb s.state s.state refl) ((same_mode_law s.mode s.mode).1 refl)))
  where
    to : same_control s t ≡ true → s ≡ t
    to h =
        let (q, u) = and_true (eqb s.state t.state) (same_mode s.mode t.mode) h in
        λ i. record { state = eqb-true s.state t.state q i; mode = (same_mode_law s.mode t.mode).0 u i }

abbrev pub control_of : Configuration → Control
control_of D = control D.state D.mode

module _ (m : Machine) (list : List ℕ) where
  cross : {p x q : ℕ} (t : Mode) (δ : Listed list m.transitions p x q) → passes m.marks (transition_at list δ.number) t ≡ true → Edges (follows m list) (control p t) (control q t)
  unfolding follows crossings
  cross {p} {q = q} t δ ok = at (changeable m.marks p t)
    where
      taken : Memᴰ (control q t) (crossings m list (control p t))
      taken =
          let k = δ.number in
          let tr = transition_at list k in
          subst (λ (y : ℕ). Memᴰ (control y t) (crossings m list (control p t))) δ.to
          (chosen_of (λ k. eqb (transition_at list k).from p && passes m.marks (transition_at list k) t) (λ k. control (transition_at list k).to t)
          (numbers_of m.transitions k δ.listed)
          (and_both_true (eqb tr.from p) (passes m.marks tr t) (eq-eqb tr.from p δ.from) ok))

      at : (b : Bool) → Memᴰ (control q t) (cond b (control p (next_mode t) ∷ crossings m list (control p t)) (crossings m list (control p t)))
      at true = Memᴰ.tail taken
      at false = taken

  change : (q : ℕ) (t : Mode) → changeable m.marks q t ≡ true → Edges (follows m list) (control q t) (control q (next_mode t))
  unfolding follows
  change q t h = subst (λ (b : Bool). Memᴰ (control q (next_mode t)) (cond b (control q (next_mode t) ∷ crossings m list (control q t)) (crossings m list (control q t)))) (sym h) (Memᴰ.head refl)

  pub yields_follows : {D D' : Configuration} → Yields (fsbm_of m list) D D' → Edges (follows m list) (control_of D) (control_of D')
  yields_follows (normal δ apart not_from) = cross Normal δ (listed_normal m.marks list δ apart not_from)
  yields_follows (buffer δ apart not-to) = cross Buffering δ (listed_buffering m.marks list δ apart not-to)
  yields_follows (empty δ from to) = cross Emptying δ (listed_emptying m.marks list δ from to)
  yields_follows (begins_buffering {q = q} is) = change q Normal is
  yields_follows (begins_emptying {q = q} is) = change q Buffering is
  yields_follows (returns_to_normal {q = q} is) = change q Emptying is

  run_follows : {D D' : Configuration} → Run (fsbm_of m list) D D' → (n : ℕ) × Path Control (Edges (follows m list)) (control_of D) (control_of D') n
  run_follows done = (zero, here)
  run_follows (Run.more y r) = let (n, p) = run_follows r in (suc n, step (yields_follows y) p)

  pub no_word_published : no_word m list ≡ true → (w : List ℕ) → InLanguage (fsbm_of m list) w → ⊥
  unfolding no_word controls
  no_word_published h w l =
      let (shut, none) = and_true (is_closed (follows m list) same_control (controls m list)) (all_in (λ s. not (final m.marks s.state && is_normal s.mode)) (controls m list)) h in
      let (n, p) = run_follows l.run in
      let begin = reach_complete (follows m list) same_control same_control_law (3 * m.states)
      (chosen (initial m.marks) (λ q. control q Normal) (numbers m.states)) (omega arith)
      (chosen_of (initial m.marks) (λ q. control q Normal) (numbers_of m.states l.first l.first_initial.0) l.first_initial.1) here in
      let end = is_closed_all (follows m list) same_control same_control_law (controls m list) shut begin p in
      let no-final = (all_in_true (λ s. not (final m.marks s.state && is_normal s.mode)) (controls m list)).0 none (control l.last Normal) end in
      not_says (final m.marks l.last && true) no-final (and_both_true (final m.marks l.last) true l.last_final refl)

  pub no_word_lem : no_word m list ≡ true → (w : List ℕ) → accepted m list w ≡ false
  no_word_lem h w = (false_iff (accepted m list w) no_run).1 (λ z. z)
    where
      no_run : (accepted m list w ≡ true) ↔ ⊥
      no_run = (
        λ t. let (run, len, below, a) = (accepted_true m list w).0 t in no_word_published h w (accepting_published m list w run a),
        λ z. absurd z,
      )
