-- The bound of a run: a word that some run accepts has an accepting run of at most run_bound entries. So `accepted`, which searches
-- only those, says whether any run accepts.
--
-- Shrinks D D'            == D' has no more input than D, and the same input and buffer if it has as much
-- key states D            == a number for the length of the input, the mode and the state of D
-- path_below              == a path that starts at a state of the machine ends at one
-- path_short              == a path from the start of a run on w can be cut to fewer than run_bound moves
-- published_short         == a word in the published language has a run of at most run_bound entries, each below 65536
-- accepted_iff_run        == accepted, if and only if some run accepts
-- accepted_iff_published  == accepted, if and only if the word is in the published language
-- accepted_not_published  == not accepted, if and only if the word is not in the language
use Rattle.std.specs.Prelude.{ℕ, zero, suc, ◌+◌, ◌*◌, ◌≤◌, ◌<◌, ◌≡◌, refl, ◌↔◌, true, false, List, [], length}
use Rattle.std.proofs.Common.{sym, ◌∙◌, append-nil, arith, mul_right_comm}
use Rattle.basics.specs.Search.{AllBelow}
use Rattle.graphs.specs.Paths.{Path, here, step}
use Rattle.graphs.specs.Paths.Laws.{closed, short_path}
use Rattle.fsbm.specs.Machine.{well_formed}
use Rattle.fsbm.specs.Moves.{mode_number, accepting}
use Rattle.fsbm.specs.Moves.Laws.{mode_below, mode_same}
use Rattle.fsbm.specs.Accepted.{run_bound, accepted}
use Rattle.fsbm.specs.Accepted.Laws.{accepted_true}
use Rattle.fsbm.specs.Published.{FSBM, Listed, fsbm_of, Configuration, config, Yields, normal, buffer, empty, begins_buffering, begins_emptying, returns_to_normal, InLanguage}
use Rattle.fsbm.specs.declared.machine.Machine.{Machine}
use Rattle.fsbm.specs.declared.config.Mode.TheVariants.{Normal}
use Rattle.basics.specs.Bools.{false_iff}
use Rattle.basics.specs.Pairs.{pair_below, pair_same}
use Rattle.fsbm.specs.Rules.{Rules, rules, buffering_below, matching_below}
use Rattle.language.specs.Agreement.{run_path, path_accepting, accepting_published}

-- What a move leaves alone

record Shrinks (D D' : Configuration) : Type 0 where
  shorter : length D'.input ≤ length D.input
  unread : length D'.input ≡ length D.input → (D'.input ≡ D.input) × (D'.buffer ≡ D.buffer)

yields_shrinks : {M : FSBM} {D D' : Configuration} → Yields M D D' → Shrinks D D'
yields_shrinks (normal {x = zero} δ apart n) = record { shorter = omega arith; unread = λ e. (refl, refl) }
yields_shrinks (normal {x = suc x} {u = u} δ apart n) = record { shorter = omega arith; unread = λ (e : length u ≡ suc (length u)). absurd (omega arith) }
yields_shrinks (buffer {x = zero} {v = v} δ apart n) = record { shorter = omega arith; unread = λ e. (refl, append-nil v) }
yields_shrinks (buffer {x = suc x} {u = u} δ apart n) = record { shorter = omega arith; unread = λ (e : length u ≡ suc (length u)). absurd (omega arith) }
yields_shrinks (empty {x = zero} δ a b) = record { shorter = omega arith; unread = λ e. (refl, refl) }
yields_shrinks (empty {x = suc x} {u = u} δ a b) = record { shorter = omega arith; unread = λ (e : length u ≡ suc (length u)). absurd (omega arith) }
yields_shrinks (begins_buffering is) = record { shorter = omega arith; unread = λ e. (refl, refl) }
yields_shrinks (begins_emptying is) = record { shorter = omega arith; unread = λ e. (refl, refl) }
yields_shrinks (returns_to_normal is) = record { shorter = omega arith; unread = λ e. (refl, refl) }

path_shrinks : {M : FSBM} {D D' : Configuration} {n : ℕ} → Path Configuration (Yields M) D D' n → Shrinks D D'
path_shrinks here = record { shorter = omega arith; unread = λ e. (refl, refl) }
path_shrinks (step y p) = join (yields_shrinks y) (path_shrinks p)
  where
    join : {A B C : Configuration} → Shrinks A B → Shrinks B C → Shrinks A C
    join {A} {B} {C} f g =
        record {
          shorter = omega (arith, f.shorter, g.shorter);
          unread = λ (e : length C.input ≡ length A.input).
              let (i₁, b₁) = f.unread (omega (arith, f.shorter, g.shorter)) in
              let (i₂, b₂) = g.unread (omega (arith, f.shorter, g.shorter)) in
              (i₂ ∙ i₁, b₂ ∙ b₁);
        }

-- Keys

key : ℕ → Configuration → ℕ
key states D = (length D.input * 3 + mode_number D.mode) * states + D.state

in_bound : (s a n x : ℕ) → a < 3 * (n + 1) → x < s → a * s + x < 3 * s * (n + 1)
in_bound s a n x la lx =
    let z = pair_below (3 * (n + 1)) s a x la lx in
    let order = mul_right_comm 3 (n + 1) s in
    omega arith

key_same : (states : ℕ) (D D' : Configuration) → D.state < states → D'.state < states → Shrinks D D' → key states D ≡ key states D' → D ≡ D'
unfolding key
key_same s D D' lt lt' shrinks e =
    let (upper, state) = pair_same s (length D.input * 3 + mode_number D.mode) D.state (length D'.input * 3 + mode_number D'.mode) D'.state lt lt' e in
    let m = mode_below D.mode in
    let m' = mode_below D'.mode in
    let (input, stored) = shrinks.unread (omega arith) in
    let mode = mode_same D.mode D'.mode (omega arith) in
    λ i. record { input = sym input i; state = state i; buffer = sym stored i; mode = mode i }

-- Short runs

module _ {m : Machine} {list : List ℕ} (r : Rules m list) where
  listed_below : {p x q : ℕ} → Listed list m.transitions p x q → (p < m.states) × (q < m.states)
  listed_below δ =
      let from = r.from_below δ.number δ.listed in
      let to = r.to_below δ.number δ.listed in
      let e = δ.from in
      let e' = δ.to in
      (omega arith, omega arith)

  yields_below : {D D' : Configuration} → Yields (fsbm_of m list) D D' → (D.state < m.states) × (D'.state < m.states)
  yields_below (normal δ apart n) = listed_below δ
  yields_below (buffer δ apart n) = listed_below δ
  yields_below (empty δ a b) = listed_below δ
  yields_below (begins_buffering {q = q} is) = let lt = buffering_below m list r q is in (lt, lt)
  yields_below (begins_emptying {q = q} is) = let lt = matching_below m list r q is in (lt, lt)
  yields_below (returns_to_normal {q = q} is) = let lt = matching_below m list r q is in (lt, lt)

  pub path_below : {D D' : Configuration} {n : ℕ} → Path Configuration (Yields (fsbm_of m list)) D D' n → D.state < m.states → D'.state < m.states
  path_below = closed (λ (D : Configuration). D.state < m.states) (λ D D' y lt. (yields_below y).1)

  -- within one path equal keys are equal configurations
  same_key : (D D' : Configuration) (n : ℕ) → Path Configuration (Yields (fsbm_of m list)) D D' n → key m.states D ≡ key m.states D' → D ≡ D'
  same_key D D' n here e = refl
  same_key D D' n (step y p) e =
      let lt = (yields_below y).0 in
      key_same m.states D D' lt (path_below (step y p) lt) (path_shrinks (step y p)) e

  key_below : (w : List ℕ) (q : ℕ) → q < m.states → (D : Configuration) (n : ℕ) → Path Configuration (Yields (fsbm_of m list)) (config w q [] Normal) D n
      → key m.states D < run_bound m (length w)
  unfolding key run_bound
  key_below w q lt D n p =
      let shorter = (path_shrinks p).shorter in
      let mode = mode_below D.mode in
      in_bound m.states (length D.input * 3 + mode_number D.mode) (length w) D.state (omega arith) (path_below p lt)

  pub path_short : (w : List ℕ) (q : ℕ) → q < m.states → {D : Configuration} {n : ℕ} → Path Configuration (Yields (fsbm_of m list)) (config w q [] Normal) D n
      → (k : ℕ) × (k < run_bound m (length w)) × Path Configuration (Yields (fsbm_of m list)) (config w q [] Normal) D k
  path_short w q lt p = short_path (key m.states) same_key (run_bound m (length w)) (key_below w q lt) p

module _ (m : Machine) (list w : List ℕ) where
  pub published_short : well_formed m list ≡ true → InLanguage (fsbm_of m list) w
      → (run : List ℕ) × (length run ≤ run_bound m (length w)) × AllBelow 65536 run × (accepting m list w run ≡ true)
  published_short good l =
      let r = rules m list good in
      let (k, lt, q) = path_short r w l.first l.first_initial.0 (run_path m list l.run) in
      let (run, len, below, a) = path_accepting m list w r l.first l.last k l.first_initial l.last_final q in
      (run, omega arith, below, a)

  pub accepted_iff_published : well_formed m list ≡ true → (accepted m list w ≡ true) ↔ InLanguage (fsbm_of m list) w
  accepted_iff_published good = (
    λ t. let (run, len, below, a) = (accepted_true m list w).0 t in accepting_published m list w run a,
    λ l. (accepted_true m list w).1 (published_short good l),
  )

  pub accepted_iff_run : well_formed m list ≡ true → (accepted m list w ≡ true) ↔ ((run : List ℕ) × (accepting m list w run ≡ true))
  accepted_iff_run good = (
    λ t. let (run, len, below, a) = (accepted_true m list w).0 t in (run, a),
    λ s. (accepted_iff_published good).1 (accepting_published m list w s.0 s.1),
  )

  pub accepted_not_published : well_formed m list ≡ true → (accepted m list w ≡ false) ↔ (InLanguage (fsbm_of m list) w → ⊥)
  accepted_not_published good = false_iff (accepted m list w) (accepted_iff_published good)
