-- The definitions of specs/Moves.antt case by case, over plain variables: what each way through a function gives.
--
-- goes_not, goes_yes == a move whose test fails, and one whose test holds
-- reads_epsilon, reads_past, reads_outside, reads_here == the ways through a test of the next letter
-- after_normal, after_buffering, after_emptying == the configuration after it
-- ranges             == the numbers of a configuration that a move is allowed from
-- move_unplaced, move_change, move_not_taken, move_taken == the ways through one entry
-- run_end, run_on, run_off == a loop through the entries of a run
-- run_empty, run_first == a run by its first entry
-- start_well_placed  == where a run starts
use Prim.Native.Nat.{ℕ, suc, ◌≤◌, ◌<◌, ◌+◌}
use mathlib.Core.Path.{◌≡◌, refl, sym, ◌∙◌, ap}
use mathlib.Core.Bool.{Bool, true, false, ◌&&◌}
use mathlib.Core.List.{List, [], ◌∷◌}
use native.Mathlib.Omega.{arith}
use lib.ListN.{length, get_or, drop, drop_of_length-le, get_or-eq_default}
use lib.Seq.{drop-cons}
use native.Mathlib.Numerals.{add-one}
use lib.Dec.{ltb, eqb}
use borrow.Author.Tests.{lt-ltb, le-ltb, eq-eqb, ne_eqb}
use Rattle.fsbm.specs.declared.config.Config.{Config}
use Rattle.fsbm.specs.declared.config.Move.{Move}
use Rattle.fsbm.specs.declared.config.Mode.TheVariants.{Normal, Buffering, Emptying}
use Rattle.fsbm.specs.declared.machine.Transition.{Transition}
use Rattle.fsbm.specs.declared.machine.Machine.{Machine}
use Rattle.fsbm.specs.Machine.{initial, transition_at, well_formed}
use Rattle.fsbm.specs.Moves.{well_placed, reads_letter, advanced, may_take, after, goes, changes, move, start_at, accepts, accepting_from, accepting}
use Rattle.fsbm.specs.Moves.Laws.{start_placed, move_placed}
use Rattle.fsbm.specs.Rules.{placed, unplaced}
use Rattle.basics.specs.Search.Loops.{pass, stop, first, second}

pub goes_not : {ok : Bool} (next : Config) {c : Config} {r : Move} → r ≡ goes false c c → false ≡ ok → r ≡ goes ok next c
goes_not next {c} e h = e ∙ ap (λ (b : Bool). goes b next c) h

pub goes_yes : {ok : Bool} (next c : Config) → true ≡ ok → goes true next c ≡ goes ok next c
goes_yes next c h = ap (λ (b : Bool). goes b next c) h

module _ (w : List ℕ) (p e x : ℕ) where
  pub reads_epsilon : x ≡ 0 → true ≡ reads_letter w p e x
  unfolding reads_letter
  reads_epsilon h = simp (eq-eqb _ _ h)

  pub reads_past : (x ≡ 0 → ⊥) → e ≤ p → false ≡ reads_letter w p e x
  unfolding reads_letter
  reads_past h l = simp (ne_eqb _ _ h, le-ltb _ _ l)

  pub reads_outside : (x ≡ 0 → ⊥) → p < e → length w ≤ p → false ≡ reads_letter w p e x
  unfolding reads_letter
  reads_outside h l o = simp (ne_eqb _ _ h, lt-ltb _ _ l, get_or-eq_default w 0 o, ne_eqb 0 x (λ z. h (sym z)))

  pub reads_here : (x ≡ 0 → ⊥) → p < e → eqb (get_or w p 0) x ≡ reads_letter w p e x
  unfolding reads_letter
  reads_here h l = simp (ne_eqb _ _ h, lt-ltb _ _ l)

pub advanced_epsilon : (p x : ℕ) → x ≡ 0 → p ≡ advanced p x
advanced_epsilon p x h = simp (eq-eqb _ _ h)

pub advanced_letter : (p x : ℕ) → (x ≡ 0 → ⊥) → p + 1 ≡ advanced p x
advanced_letter p x h = simp (ne_eqb _ _ h)

-- the configuration after a transition: p, s and e are the position, the start and the end of the buffer as the code computes them
module _ (c : Config) (t : Transition) (p : ℕ) (at_p : p ≡ advanced c.position t.letter) where
  pub after_normal : record { position = p; state = t.to; mode = Normal; start = c.start; end = c.end } ≡ after c t Normal
  unfolding after
  after_normal = ap (λ (z : ℕ). record { position = z; state = t.to; mode = Normal; start = c.start; end = c.end }) at_p

  pub after_buffering : (e : ℕ) → e ≡ advanced c.end t.letter → record { position = p; state = t.to; mode = Buffering; start = c.start; end = e } ≡ after c t Buffering
  unfolding after
  after_buffering e at-e =
      ap (λ (z : ℕ). record { position = z; state = t.to; mode = Buffering; start = c.start; end = e }) at_p
      ∙ ap (λ (z : ℕ). record { position = advanced c.position t.letter; state = t.to; mode = Buffering; start = c.start; end = z }) at-e

  pub after_emptying : (s : ℕ) → s ≡ advanced c.start t.letter → record { position = p; state = t.to; mode = Emptying; start = s; end = c.end } ≡ after c t Emptying
  unfolding after
  after_emptying s at-s =
      ap (λ (z : ℕ). record { position = z; state = t.to; mode = Emptying; start = s; end = c.end }) at_p
      ∙ ap (λ (z : ℕ). record { position = advanced c.position t.letter; state = t.to; mode = Emptying; start = z; end = c.end }) at-s

pub ranges : (states : ℕ) (w : List ℕ) (c : Config) → well_placed states (length w) c ≡ true → (c.position ≤ length w) × (c.start ≤ c.end) × (c.end ≤ c.position)
ranges states w c h =
    let p = placed (record { states = states; letters = 0; transitions = 0; marks = [] }) w c h in
    (p.in_word, p.forward, p.behind)

-- the ways through one entry, for a machine with these states, transitions and marks
module _ (m : Machine) (states transitions : ℕ) (marks : List ℕ) (same-states : m.states ≡ states) (same_transitions : m.transitions ≡ transitions) (same-marks : m.marks ≡ marks) (list w : List ℕ) (c : Config) (e : ℕ) where
  at_states : (b : Bool) → well_placed states (length w) c ≡ b → well_placed m.states (length w) c ≡ b
  at_states b h = ap (λ (z : ℕ). well_placed z (length w) c) same-states ∙ h

  pub move_unplaced : well_placed states (length w) c ≡ false → goes false c c ≡ move m list w c e
  unfolding move
  move_unplaced h = second _ (at_states false h) refl

  pub move_change : well_placed states (length w) c ≡ true → transitions ≤ e → changes marks c e c.mode ≡ move m list w c e
  unfolding move
  move_change h l =
      first _ (at_states true h)
      (second _ (ap (λ (z : ℕ). ltb e z) same_transitions ∙ le-ltb e transitions l) (ap (λ (z : List ℕ). changes z c e c.mode) (sym same-marks)))

  move_parts : well_placed states (length w) c ≡ true → e < transitions → (t : Transition) → t ≡ transition_at list e → goes (may_take marks w c t) (after c t c.mode) c ≡ move m list w c e
  unfolding move
  move_parts h l t at-t =
      first _ (at_states true h)
      (first _ (ap (λ (z : ℕ). ltb e z) same_transitions ∙ lt-ltb e transitions l)
      (ap (λ (z : List ℕ). goes (may_take z w c t) (after c t c.mode) c) (sym same-marks) ∙ ap (λ (z : Transition). goes (may_take m.marks w c z) (after c z c.mode) c) at-t))

  pub move_not_taken : well_placed states (length w) c ≡ true → e < transitions → (t : Transition) → t ≡ transition_at list e → may_take marks w c t ≡ false → goes false c c ≡ move m list w c e
  move_not_taken h l t at-t f = ap (λ (b : Bool). goes b (after c t c.mode) c) (sym f) ∙ move_parts h l t at-t

  pub move_taken : well_placed states (length w) c ≡ true → e < transitions → (t : Transition) → t ≡ transition_at list e → may_take marks w c t ≡ true
      → (next : Config) → next ≡ after c t c.mode → record { allowed = true; config = next } ≡ move m list w c e
  move_taken h l t at-t g next at_next =
      ap (λ (z : Config). goes true z c) at_next
      ∙ (ap (λ (b : Bool). goes b (after c t c.mode) c) (sym g) ∙ move_parts h l t at-t)

-- a loop through the entries es of a run
module _ (m : Machine) (list w es : List ℕ) (c : Config) (i : ℕ) where
  run_step : (v : Move) → v ≡ move m list w c (get_or es i 0) → i < length es
      → accepting_from m list w c (drop i es) ≡ (v.allowed && accepting_from m list w v.config (drop (i + 1) es))
  unfolding accepting_from
  run_step v at-v h =
      ap (accepting_from m list w c) (drop-cons es i 0 h)
      ∙ (ap (λ (z : Move). z.allowed && accepting_from m list w z.config (drop (suc i) es)) (sym at-v)
      ∙ ap (λ (z : ℕ). v.allowed && accepting_from m list w v.config (drop z es)) (sym (add-one i)))

  pub run_end : length es ≤ i → accepts m.marks (length w) c ≡ accepting_from m list w c (drop i es)
  unfolding accepting_from
  run_end h = ap (accepting_from m list w c) (sym (drop_of_length-le es h))

  -- the next turn, and a turn that ends the loop
  module _ (v : Move) (at-v : v ≡ move m list w c (get_or es i 0)) (here : i < length es) {X : Bool} (is : accepting_from m list w c (drop i es) ≡ X) where
    pub run_off : v.allowed ≡ false → false ≡ X
    run_off f = stop {a = v.allowed} _ f ∙ (sym (run_step v at-v here) ∙ is)

    pub run_on : well_formed m list ≡ true → v.allowed ≡ true
        → (well_placed m.states (length w) v.config ≡ true) × (accepting_from m list w v.config (drop (i + 1) es) ≡ X)
    run_on good t = (
      ap (λ (z : Move). well_placed m.states (length w) z.config) at-v
          ∙ move_placed m list w good c (get_or es i 0) (ap (λ (z : Move). z.allowed) (sym at-v) ∙ t),
      pass {a = v.allowed} t refl ∙ (sym (run_step v at-v here) ∙ is),
    )

-- a run by its first entry
module _ (m : Machine) (list w : List ℕ) where
  pub run_empty : (run : List ℕ) → length run < 1 → false ≡ accepting m list w run
  unfolding accepting
  run_empty [] h = refl
  run_empty (q ∷ es) h = absurd (omega arith)

  pub run_first : (run : List ℕ) → 1 ≤ length run
      → (ltb (get_or run 0 0) m.states && (initial m.marks (get_or run 0 0) && accepting_from m list w (start_at (get_or run 0 0)) (drop 1 run))) ≡ accepting m list w run
  unfolding accepting
  run_first [] h = absurd (omega arith)
  run_first (q ∷ es) h = refl

pub start_well_placed : (m : Machine) (w : List ℕ) (q : ℕ) → q < m.states → well_placed m.states (length w) (start_at q) ≡ true
start_well_placed m w q lt = unplaced m w (start_at q) (start_placed m w q lt)
