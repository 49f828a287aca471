-- The laws of specs/Costs.antt.
--
-- Cases D D'         == the kinds of moves, each with what it says of D and D'
-- yields_cases       == every published move is one of them
-- normal_leads, buffer_leads, empty_leads == a listed transition that the marks let be taken
-- normal_apart, buffer_apart, empty_apart == what the marks say of a transition that leads
-- silent_yields, normal_yields, buffer_yields, empty_yields == a transition that leads is a published move
-- go_step            == a move, then a way to acceptance
-- layer_least        == a relation between configurations and numbers that no move would lower has least numbers
-- Fit D, go_fit      == what a configuration with a way to acceptance has: an emptied buffer stands at the front of the input,
--                       a stored one is no longer than the input
-- best_none          == where there is no way, none is Best
use Prim.Native.Nat.{ℕ, zero, suc, ◌≤◌, ◌<◌}
use Rattle.std.specs.Prelude.{◌≡◌, ◌⊎◌, true}
use Rattle.std.proofs.Math.Path.{refl, ap}
use Rattle.std.proofs.Common.{sym, subst, inl, inr}
use mathlib.Core.List.{List, [], ◌∷◌, ◌++◌, append-nil}
use native.Mathlib.Omega.{arith}
use Rattle.std.proofs.Math.ListN.{length, length-append}
use Rattle.graphs.specs.Paths.{Path, here, step}
use Rattle.fsbm.specs.Machine.{transition_at, buffering, matching}
use Rattle.fsbm.specs.Moves.Laws.{passes_normal, passes_buffering, passes_emptying, listed_normal, listed_buffering, listed_emptying}
use Rattle.fsbm.specs.Published.{Listed, fsbm_of, Configuration, config, Yields, normal, buffer, empty, begins_buffering, begins_emptying, returns_to_normal}
use Rattle.fsbm.specs.declared.machine.Machine.{Machine}
use Rattle.fsbm.specs.declared.config.Mode.{Mode}
use Rattle.fsbm.specs.declared.config.Mode.TheVariants.{Normal, Buffering, Emptying}
use Rattle.layers.specs.Costs.{none, Near, Step, Go, Best, Leads}

unfoldable pub Fits : List ℕ → List ℕ → Mode → Type 0
Fits u v Normal = v ≡ []
Fits u v Buffering = length v ≤ length u
Fits u v Emptying = (rest : List ℕ) × (u ≡ v ++ rest)

abbrev pub Fit : Configuration → Type 0
Fit D = Fits D.input D.buffer D.mode

module _ (m : Machine) (list : List ℕ) where
  pub data Cases (D D' : Configuration) : Type 0 where
    silent : (k : ℕ) → Leads m list D.mode 0 k → (transition_at list k).from ≡ D.state
        → D' ≡ config D.input (transition_at list k).to D.buffer D.mode → Cases D D'
    normal_letter : (k x : ℕ) (u : List ℕ) → Leads m list Normal (suc x) k → (transition_at list k).from ≡ D.state → D.mode ≡ Normal → D.input ≡ suc x ∷ u
        → D' ≡ config u (transition_at list k).to [] Normal → Cases D D'
    buffer_letter : (k x : ℕ) (u : List ℕ) → Leads m list Buffering (suc x) k → (transition_at list k).from ≡ D.state → D.mode ≡ Buffering → D.input ≡ suc x ∷ u
        → D' ≡ config u (transition_at list k).to (D.buffer ++ (suc x ∷ [])) Buffering → Cases D D'
    empty_letter : (k x : ℕ) (u v : List ℕ) → Leads m list Emptying (suc x) k → (transition_at list k).from ≡ D.state → D.mode ≡ Emptying → D.input ≡ suc x ∷ u
        → D.buffer ≡ suc x ∷ v → D' ≡ config u (transition_at list k).to v Emptying → Cases D D'
    to_buffering : D.mode ≡ Normal → buffering m.marks D.state ≡ true → D' ≡ config D.input D.state [] Buffering → Cases D D'
    to_emptying : D.mode ≡ Buffering → matching m.marks D.state ≡ true → D' ≡ config D.input D.state D.buffer Emptying → Cases D D'
    to_normal : D.mode ≡ Emptying → D.buffer ≡ [] → matching m.marks D.state ≡ true → D' ≡ config D.input D.state [] Normal → Cases D D'

  -- a listed transition that the marks let be taken
  pub normal_leads : {p x q : ℕ} (δ : Listed list m.transitions p x q) → ((matching m.marks p ≡ true) × (matching m.marks q ≡ true) → ⊥) → (buffering m.marks p ≡ true → ⊥)
      → Leads m list Normal x δ.number
  normal_leads δ apart not_from = record { listed = δ.listed; letter = δ.letter; allowed = listed_normal m.marks list δ apart not_from }

  pub buffer_leads : {p x q : ℕ} (δ : Listed list m.transitions p x q) → ((matching m.marks p ≡ true) × (matching m.marks q ≡ true) → ⊥) → (buffering m.marks q ≡ true → ⊥)
      → Leads m list Buffering x δ.number
  buffer_leads δ apart not-to = record { listed = δ.listed; letter = δ.letter; allowed = listed_buffering m.marks list δ apart not-to }

  pub empty_leads : {p x q : ℕ} (δ : Listed list m.transitions p x q) → matching m.marks p ≡ true → matching m.marks q ≡ true
      → Leads m list Emptying x δ.number
  empty_leads δ a b = record { listed = δ.listed; letter = δ.letter; allowed = listed_emptying m.marks list δ a b }

  same : {u u' : List ℕ} {q q' : ℕ} {v v' : List ℕ} {t : Mode} → u ≡ u' → q ≡ q' → v ≡ v' → config u q v t ≡ config u' q' v' t
  same {t = t} a b c = λ i. record { input = a i; state = b i; buffer = c i; mode = t }

  pub yields_cases : {D D' : Configuration} → Yields (fsbm_of m list) D D' → Cases D D'
  yields_cases (normal {x = zero} δ apart n) = silent δ.number (normal_leads δ apart n) δ.from (same refl (sym δ.to) refl)
  yields_cases (normal {x = suc x} {u = u} δ apart n) = normal_letter δ.number x u (normal_leads δ apart n) δ.from refl refl (same refl (sym δ.to) refl)
  yields_cases (buffer {x = zero} {v = v} δ apart n) = silent δ.number (buffer_leads δ apart n) δ.from (same refl (sym δ.to) (append-nil v))
  yields_cases (buffer {x = suc x} {u = u} δ apart n) = buffer_letter δ.number x u (buffer_leads δ apart n) δ.from refl refl (same refl (sym δ.to) refl)
  yields_cases (empty {x = zero} δ a b) = silent δ.number (empty_leads δ a b) δ.from (same refl (sym δ.to) refl)
  yields_cases (empty {x = suc x} {u = u} {v = v} δ a b) = empty_letter δ.number x u v (empty_leads δ a b) δ.from refl refl refl (same refl (sym δ.to) refl)
  yields_cases (begins_buffering is) = to_buffering refl is refl
  yields_cases (begins_emptying is) = to_emptying refl is refl
  yields_cases (returns_to_normal is) = to_normal refl refl is refl

  -- From a transition that leads to a move

  pub the_listed : {t : Mode} {x k : ℕ} → Leads m list t x k → Listed list m.transitions (transition_at list k).from x (transition_at list k).to
  the_listed {k = k} l = record { number = k; listed = l.listed; from = refl; letter = l.letter; to = refl }

  pub normal_apart : {x k : ℕ} → Leads m list Normal x k
      → ((matching m.marks (transition_at list k).from ≡ true) × (matching m.marks (transition_at list k).to ≡ true) → ⊥) × (buffering m.marks (transition_at list k).from ≡ true → ⊥)
  normal_apart {k = k} l = (passes_normal m.marks (transition_at list k)).0 l.allowed

  pub buffer_apart : {x k : ℕ} → Leads m list Buffering x k
      → ((matching m.marks (transition_at list k).from ≡ true) × (matching m.marks (transition_at list k).to ≡ true) → ⊥) × (buffering m.marks (transition_at list k).to ≡ true → ⊥)
  buffer_apart {k = k} l = (passes_buffering m.marks (transition_at list k)).0 l.allowed

  pub empty_apart : {x k : ℕ} → Leads m list Emptying x k → (matching m.marks (transition_at list k).from ≡ true) × (matching m.marks (transition_at list k).to ≡ true)
  empty_apart {k = k} l = (passes_emptying m.marks (transition_at list k)).0 l.allowed

  pub normal_yields : {x k : ℕ} (u : List ℕ) → Leads m list Normal (suc x) k
      → Yields (fsbm_of m list) (config (suc x ∷ u) (transition_at list k).from [] Normal) (config u (transition_at list k).to [] Normal)
  normal_yields u l = let (a, b) = normal_apart l in normal (the_listed l) a b

  pub buffer_yields : {x k : ℕ} (u v : List ℕ) → Leads m list Buffering (suc x) k
      → Yields (fsbm_of m list) (config (suc x ∷ u) (transition_at list k).from v Buffering) (config u (transition_at list k).to (v ++ (suc x ∷ [])) Buffering)
  buffer_yields u v l = let (a, b) = buffer_apart l in buffer (the_listed l) a b

  pub empty_yields : {x k : ℕ} (u v : List ℕ) → Leads m list Emptying (suc x) k
      → Yields (fsbm_of m list) (config (suc x ∷ u) (transition_at list k).from (suc x ∷ v) Emptying) (config u (transition_at list k).to v Emptying)
  empty_yields {k = k} u v l =
      let (a, b) = empty_apart l in
      empty (the_listed l) a b

  -- in normal mode the buffer is empty
  pub silent_yields : (t : Mode) {k : ℕ} (u v : List ℕ) → (t ≡ Normal → v ≡ []) → Leads m list t 0 k
      → Yields (fsbm_of m list) (config u (transition_at list k).from v t) (config u (transition_at list k).to v t)
  silent_yields Normal {k} u v z l =
      let (a, b) = normal_apart l in
      subst (λ (s : List ℕ). Yields (fsbm_of m list) (config u (transition_at list k).from s Normal) (config u (transition_at list k).to s Normal)) (sym (z refl))
      (normal (the_listed l) a b)
  silent_yields Buffering {k} u v z l =
      let (a, b) = buffer_apart l in
      subst (λ (s : List ℕ). Yields (fsbm_of m list) (config u (transition_at list k).from v Buffering) (config u (transition_at list k).to s Buffering)) (append-nil v)
      (buffer (the_listed l) a b)
  silent_yields Emptying {k} u v z l =
      let (a, b) = empty_apart l in
      empty (the_listed l) a b

  pub go_step : {N : ℕ → ℕ} {C C' : Configuration} {n : ℕ} → Yields (fsbm_of m list) C C' → (C.mode ≡ Normal → Near N C.input C.state) → Go m list N C' n → Go m list N C (suc n)
  go_step y k g = record { last = g.last; last_final = g.last_final; path = step (record { move = y; kept = k }) g.path }

  -- Least numbers

  module _ (N : ℕ → ℕ) (L : Configuration → ℕ → Type 0) (goal : (q d : ℕ) → (fsbm_of m list).F q → L (config [] q [] Normal) d → d ≡ 0)
      (edge : (C C' : Configuration) (d n : ℕ) → L C d → (C.mode ≡ Normal → Near N C.input C.state) → Cases C C' → Go m list N C' n
      → ((d' : ℕ) × L C' d' × (d ≤ suc d')) ⊎ (d ≤ suc n)) where
    path_least : {C E : Configuration} {n : ℕ} → Path Configuration (Step m list N) C E n → (q : ℕ) → (fsbm_of m list).F q → E ≡ config [] q [] Normal → (d : ℕ) → L C d → d ≤ n
    path_least here q f e d l = let z = goal q d f (subst (λ (C : Configuration). L C d) e l) in omega arith
    path_least (step {u = C} {v = C'} {n = n} y p) q f e d l =
        on (edge C C' d n l y.kept (yields_cases y.move)
        (record { last = q; last_final = f; path = subst (λ (E : Configuration). Path Configuration (Step m list N) C' E n) e p }))
        (λ d' l'. path_least p q f e d' l')
      where
        on : ((d' : ℕ) × L C' d' × (d ≤ suc d')) ⊎ (d ≤ suc n) → ((d' : ℕ) → L C' d' → d' ≤ n) → d ≤ suc n
        on (inl z) h = let k = h z.0 z.1 in let b = z.2 in omega arith
        on (inr z) h = z

    pub layer_least : {C : Configuration} {n : ℕ} → Go m list N C n → (d : ℕ) → L C d → d ≤ n
    layer_least g d l = path_least g.path g.last g.last_final refl d l

  -- Where there is no way

  fit_step : {D D' : Configuration} → Yields (fsbm_of m list) D D' → Fit D' → Fit D
  unfolding Fits
  fit_step (normal δ apart n) h = refl
  fit_step (buffer {x = zero} {v = v} δ apart n) h = rw append-nil at h
  fit_step (buffer {x = suc x} {u = u} {v = v} δ apart n) h = let l = length-append v (suc x ∷ []) in omega arith
  fit_step (empty {x = zero} δ a b) h = h
  fit_step (empty {x = suc x} δ a b) h = (h.0, ap (λ (s : List ℕ). suc x ∷ s) h.1)
  fit_step (begins_buffering is) h = refl
  fit_step (begins_emptying {u = u} {v = v} is) h = let l = length-append v h.0 in let e = ap length h.1 in omega arith
  fit_step (returns_to_normal {u = u} is) h = (u, refl)

  fit_path : {N : ℕ → ℕ} {C E : Configuration} {n : ℕ} → Path Configuration (Step m list N) C E n → Fit E → Fit C
  fit_path here h = h
  fit_path (step y p) h = fit_step y.move (fit_path p h)

  pub go_fit : {N : ℕ → ℕ} {C : Configuration} {n : ℕ} → Go m list N C n → Fit C
  unfolding Fits
  go_fit g = fit_path g.path refl

  pub best_none : {N : ℕ → ℕ} {C : Configuration} → ((n : ℕ) → Go m list N C n → ⊥) → Best m list N C none
  best_none never = record { realised = λ (l : none < none). absurd (omega arith); least = λ n g. absurd (never n g) }
