-- Positions where a repetition ends, and squares told by them.
--
-- ends_start, ends_later    == no position known, and the positions known at later positions
-- ends_known, ends_found    == the two ends of known_end
-- run_on                    == what was found to repeat before, and what is found from there on
-- square_yes, square_no     == the two ends of is_square
-- run_more                  == one turn of run_end
-- last_down                 == one turn of last_square
-- turning_none, turning_some, turning_apart == the ways through turning
use Prim.Native.Nat.{ℕ, ◌+◌, ◌-◌, ◌≤◌, ◌<◌}
use mathlib.Core.Path.{◌≡◌, refl, sym, ap, ◌∙◌, subst, subst₂}
use mathlib.Core.Bool.{Bool, true, false, false≢true}
use Rattle.std.proofs.Math.Dec.{leb}
use Rattle.std.proofs.lemmas.Bool.{leb-true, leb-false}
use mathlib.Core.Logic.{◌⊎◌, inl, inr}
use mathlib.Core.List.{List}
use native.Mathlib.Omega.{arith}
use native.Mathlib.Decide.{ℕ_discrete, dec_lt}
use lib.ListN.{length, get_or, set, length-set, replicate}
use Rattle.stateset.specs.Set.{In}
use Rattle.basics.specs.Lists.Laws.{zeros_at}
use Rattle.images.specs.Graph.{Members}
use Rattle.decide.specs.Reach.{Square}
use Rattle.decide.specs.Squares.{Repeats, RunEnd, RepeatEnds, RepeatEndsAt, Keeps, Ended, Squared, Turning}
use Rattle.basics.specs.Lists.Laws.{set_cases}
use Rattle.images.proofs.SetCases.{members_as, members_none, none_in}

pub ends_start : (w : List ℕ) (at : ℕ → ℕ) → ((d : ℕ) → 0 < d → 0 < at d) → RepeatEnds w (replicate 256 0) at
ends_start w at some =
    record {
      size = refl;
      small = λ d. let z = zeros_at 256 d in omega arith;
      each = λ d far (le : at d ≤ get_or (replicate 256 0) d 0). let z = zeros_at 256 d in let y = some d far in absurd (omega arith);
    }

pub ends_later : (w ends : List ℕ) (at later : ℕ → ℕ) → ((d : ℕ) → at d ≤ later d) → RepeatEnds w ends at → RepeatEnds w ends later
ends_later w ends at later more e =
    record {
      size = e.size;
      small = e.small;
      each = λ d far le. let y = more d in
          let r = e.each d far (omega arith) in
          record { within = r.within; same = λ k ge lt. r.same k (omega arith) lt };
    }

pub ends_known : (w ends : List ℕ) (d q stop r : ℕ) → RepeatEndsAt w ends d q → 0 < d → q ≤ stop → r ≡ get_or ends d 0 → stop ≤ r → Ended w ends ends d q stop r
ends_known w ends d q stop r (at, position, e) far before is le =
    record {
      kept = λ at z y. y;
      run = record {
        from = omega arith;
        repeats = subst₂ (λ (m n : ℕ). Repeats w d m n) position (sym is) (e.each d far (omega arith));
        differs = λ (lt : r < stop). absurd (omega arith);
      };
    }

-- what was found to repeat before, and what is found from there on
run_on : (w ends : List ℕ) (d q stop e m r : ℕ) → RepeatEndsAt w ends d q → 0 < d → e ≡ get_or ends d 0 → q ≤ m → (m ≡ q) ⊎ (m ≡ e) → RunEnd w d m stop r → RunEnd w d q stop r
run_on w ends d q stop e m r (at, position, known) far is le which run =
    record {
      from = let ge = run.from in omega arith;
      repeats = record { within = run.repeats.within; same = same };
      differs = run.differs;
    }
  where
    old : (k : ℕ) → q ≤ k → k < m → (m ≡ q) ⊎ (m ≡ e) → get_or w k 0 ≡ get_or w (k - d) 0
    old k ge lt (inl z) = absurd (omega arith)
    old k ge lt (inr z) = (known.each d far (omega arith)).same k (omega arith) (omega arith)

    same : (k : ℕ) → q ≤ k → k < r → get_or w k 0 ≡ get_or w (k - d) 0
    same k ge lt = at_position (dec_lt k m)
      where
        at_position : Dec (k < m) → get_or w k 0 ≡ get_or w (k - d) 0
        at_position (yes l) = old k ge l which
        at_position (no n) = run.repeats.same k (omega arith) lt

pub ends_found : (w ends : List ℕ) (d q stop e m r v : ℕ) → RepeatEndsAt w ends d q → 0 < d → d < 256 → length w ≤ 255 → e ≡ get_or ends d 0 → q ≤ m → (m ≡ q) ⊎ (m ≡ e)
    → RunEnd w d m stop r → v ≡ r → Ended w ends (set ends d v) d q stop r
ends_found w ends d q stop e m r v known far lt short at-e le which more is = record { kept = kept; run = run }
  where
    run : RunEnd w d q stop r
    run = run_on w ends d q stop e m r known far at-e le which more

    kept : Keeps w ends (set ends d v) d q
    kept at position e =
        record {
          size = length-set ends d v ∙ e.size;
          small = set_cases ends d v 0 inside (λ k y. y ≤ 255) (let z = run.repeats.within in omega arith) (λ k n. e.small k);
          each = set_cases ends d v 0 inside (λ k y. 0 < k → at k ≤ y → Repeats w k (at k) y) (λ far le. subst₂ (λ (m n : ℕ). Repeats w d m n) (sym position) (sym is) run.repeats) (λ k n. e.each k);
        }
      where
        inside : d < length ends
        inside = let z = e.size in omega arith

module _ (w a b : List ℕ) (i j e : ℕ) (le : i < j) (room : j + (j - i) ≤ length w) (end : Ended w a b (j - i) j (j + (j - i)) e) where
  pub square_yes : j + (j - i) ≤ e → Squared w a b i j true
  square_yes long = record { kept = end.kept; says = (λ z t lt. one t lt, λ m. refl) }
    where
      one : (t : ℕ) → t < j - i → get_or w (i + t) 0 ≡ get_or w (j + t) 0
      one t lt =
          let back : j + t - (j - i) ≡ i + t = omega arith in
          sym (end.run.repeats.same (j + t) (omega arith) (omega arith) ∙ ap (λ (n : ℕ). get_or w n 0) back)

  pub square_no : e < j + (j - i) → Squared w a b i j false
  square_no short = record { kept = end.kept; says = (λ z. absurd (false≢true z), λ m. absurd (apart m)) }
    where
      apart : Square w i j → ⊥
      apart m =
          let ge = end.run.from in
          let here : j + (e - j) ≡ e = omega arith in
          let back : i + (e - j) ≡ e - (j - i) = omega arith in
          let same = m (e - j) (omega arith) in
          end.run.differs (omega arith)
          (ap (λ (n : ℕ). get_or w n 0) (sym here) ∙ (sym same ∙ ap (λ (n : ℕ). get_or w n 0) back))

  pub square_says : Squared w a b i j (leb (j + (j - i)) e)
  square_says = at (leb (j + (j - i)) e) refl
    where
      at : (r : Bool) → leb (j + (j - i)) e ≡ r → Squared w a b i j r
      at true t = square_yes (leb-true (j + (j - i)) e t)
      at false f = square_no (leb-false (j + (j - i)) e f)

-- one turn of run_end
pub run_more : (w : List ℕ) (d q r : ℕ) → ((k : ℕ) → q ≤ k → k < r → get_or w k 0 ≡ get_or w (k - d) 0) → get_or w r 0 ≡ get_or w (r - d) 0
    → (k : ℕ) → q ≤ k → k < r + 1 → get_or w k 0 ≡ get_or w (k - d) 0
run_more w d q r so_far e k ge lt = at (ℕ_discrete k r)
  where
    at : Dec (k ≡ r) → get_or w k 0 ≡ get_or w (k - d) 0
    at (yes s) = subst (λ (n : ℕ). get_or w n 0 ≡ get_or w (n - d) 0) (sym s) e
    at (no n) = so_far k ge (omega arith)

-- one turn of last_square: no square ends its first half at j
pub last_down : (w : List ℕ) (i j : ℕ) → (Square w i (j - 1) → ⊥) → ((k : ℕ) → j ≤ k → k + (k - i) ≤ length w → Square w i k → ⊥)
    → ((k : ℕ) → j - 1 ≤ k → k + (k - i) ≤ length w → Square w i k → ⊥)
last_down w i j none rest k le room m = at (ℕ_discrete k (j - 1))
  where
    at : Dec (k ≡ j - 1) → ⊥
    at (yes e) = none (subst (Square w i) e m)
    at (no n) = rest k (omega arith) room m

module _ (h : ℕ) (w a : List ℕ) (i j s ready : ℕ) (both : Members ready (λ q. In s q × In h q)) where
  pub turning_none : ready ≡ 0 → Turning h w a a i j s 0
  turning_none e = record { kept = λ at z y. y; members = members_none (λ q z. none_in e q ((both.members q).1 z.1)) }

  module _ (b : List ℕ) (kept : Keeps w a b (j - i) j) where
    pub turning_some : Square w i j → Turning h w a b i j s ready
    turning_some m = record { kept = kept; members = members_as both (λ q z. (m, z)) (λ q z. z.1) }

    pub turning_apart : (Square w i j → ⊥) → Turning h w a b i j s 0
    turning_apart n = record { kept = kept; members = members_none (λ q z. n z.0) }
