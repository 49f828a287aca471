-- What the least weights of the product say of the word and the runs that are written from them, over plain variables.
--
-- no_word_lem               == no final state has a number: there is no common word
-- some_word_lem             == the least number of a final state says how many letters a shortest common word has, and how long its run is
-- aim                   == so a word and a run of these lengths can be written
-- leads_entries         == the entries of a written run name a transition or a change of mode
-- to_split              == the run that is written can be taken apart
-- split_runs            == the two runs that it is taken apart into accept the word
use Prim.Native.Nat.{ℕ, zero, suc, ◌+◌, ◌/◌, ◌%◌, ◌≤◌, ◌<◌}
use mathlib.Core.Path.{◌≡◌, sym, ap, ◌∙◌, subst, subst₂}
use mathlib.Core.Logic.{◌⊎◌, inl, inr}
use mathlib.Core.Bool.{true}
use mathlib.Core.List.{List, [], ◌∷◌, ◌++◌}
use native.Mathlib.Omega.{arith}
use lib.ListN.{length, get_or, drop, length-drop}
use lib.Seq.{get_or-drop, drop-cons}
use Rattle.fsbm.specs.Machine.{final}
use Rattle.fsbm.specs.Moves.{accepting, begin_buffering, begin_emptying, back_to_normal}
use Rattle.fsbm.specs.Accepted.{run_bound}
use Rattle.fsbm.specs.Published.{fsbm_of}
use Rattle.fsbm.specs.declared.machine.Machine.{Machine}
use Rattle.product.specs.Product.{joined_count, joined_transitions, joined_machine, join_fault}
use Rattle.product.specs.Tables.{joinable}
use Rattle.pieces.specs.Pairs.{unit}
use Rattle.pieces.specs.Bound.{word_bound}
use Rattle.pieces.specs.Blocks.{nothing, cost_of}
use Rattle.pieces.specs.Written.{StoresBy, stored, store, MatchesBy, matched, match, LeadsBy, ended, read, copy}
use Rattle.common.specs.Common.{least_common}
use Rattle.common.proofs.Search.{found, none, fewest}
use Rattle.common.specs.Split.{Splits}
use Rattle.common.specs.Split.Laws.{leads_letters, split_accepts}
use Rattle.split.specs.Split as split
use Rattle.least.specs.Turns.{Limit}
use Rattle.shortest.specs.Write.{Least, Aim, Shortest}
use Rattle.found.specs.Best.{Best}
use Rattle.found.specs.Best.Laws.{best_final, best_low, best_nothing}
use Rattle.std.specs.Prelude.{Some, None}
use Rattle.found.specs.Joined.{Joined}

-- what the least number of a final state says: the letters of a shortest common word and the entries of its run
pub record Lengths (m₁ : Machine) (l₁ : List ℕ) (m₂ : Machine) (l₂ : List ℕ) (c : ℕ) : Type 0 where
  pub within : least_common m₁ l₁ m₂ l₂ ≤ word_bound
  pub letters : c / unit ≡ least_common m₁ l₁ m₂ l₂
  pub fits : c % unit + 1 ≤ run_bound m₁ (least_common m₁ l₁ m₂ l₂)
  pub small : run_bound m₁ (least_common m₁ l₁ m₂ l₂) < unit

module _ (m₁ : Machine) (l₁ : List ℕ) (m₂ : Machine) (l₂ : List ℕ) where
  -- of the product itself
  module _ (fine : join_fault m₁ l₁ m₂ l₂ ≡ 0) (rest d : List ℕ) where
    abbrev J : Machine
    J = joined_machine m₁ l₁ m₂ l₂

    abbrev L : List ℕ
    L = joined_transitions m₁ l₁ m₂ l₂ ++ rest

    module _ (top : ℕ) (limit : Limit J.marks d top) (s : Least top J L d) where
      no_word_of : Best J.marks d 64 None → word_bound < least_common m₁ l₁ m₂ l₂
      no_word_of b = on limit.reached
        where
          on : (top ≡ nothing) ⊎ ((g : ℕ) × (final J.marks g ≡ true) × (cost_of d g < top)) → word_bound < least_common m₁ l₁ m₂ l₂
          on (inl e) = none m₁ l₁ m₂ l₂ fine rest s (omega arith) (λ g last. let z = best_nothing J.marks d b g last in omega arith)
          on (inr (g, last, lt)) = let z = best_nothing J.marks d b g last in absurd (omega (arith, limit.small))

      module _ (f : ℕ) (b : Best J.marks d 64 (Some f)) where
        -- the least number of a final state is below the limit
        under : cost_of d f < top
        under = on limit.reached
          where
            on : (top ≡ nothing) ⊎ ((g : ℕ) × (final J.marks g ≡ true) × (cost_of d g < top)) → cost_of d f < top
            on (inl e) = let z = best_low J.marks d f b in omega arith
            on (inr (g, last, lt)) = let z = (best_final J.marks d f b).2 g last in omega arith

        some_word_of : Lengths m₁ l₁ m₂ l₂ (cost_of d f)
        some_word_of =
            let (below, last, least) = best_final J.marks d f b in
            let (within, letters, fits, small) = found m₁ l₁ m₂ l₂ fine rest s f last under least in
            record { within = within; letters = letters; fits = fits; small = small }

        aim_of : (n e : ℕ) → n ≡ cost_of d f / unit → e ≡ cost_of d f % unit + 1 → Aim J L d f n e
        aim_of n e is-n is-e =
            let (below, last, least) = best_final J.marks d f b in
            let k = some_word_of in
            let letters = k.letters in
            let fits = k.fits in
            let small = k.small in
            record {
              top = top;
              top_small = limit.small;
              settled = s;
              low = under;
              fewest = λ p w i start l. let z = fewest m₁ l₁ m₂ l₂ fine rest f last p w i start l in omega arith;
              weight = omega arith;
              some = omega arith;
              small = omega arith;
            }

  module _ (m : Machine) (list : List ℕ) (j : Joined m₁ l₁ m₂ l₂ m list) (d : List ℕ) (top : ℕ) (limit : Limit m.marks d top) (s : Least top m list d) where
    pub no_word_lem : Best m.marks d 64 None → word_bound < least_common m₁ l₁ m₂ l₂
    no_word_lem b =
        subst₂ (λ (x : Machine) (y : List ℕ). Limit x.marks d top → Least top x y d → Best x.marks d 64 None → word_bound < least_common m₁ l₁ m₂ l₂) (sym j.machine) (sym j.transitions)
        (λ i t k. no_word_of j.fine j.rest d top i t k) limit s b

    module _ (f : ℕ) (b : Best m.marks d 64 (Some f)) where
      pub some_word_lem : Lengths m₁ l₁ m₂ l₂ (cost_of d f)
      some_word_lem =
          subst₂ (λ (x : Machine) (y : List ℕ). Limit x.marks d top → Least top x y d → Best x.marks d 64 (Some f) → Lengths m₁ l₁ m₂ l₂ (cost_of d f)) (sym j.machine) (sym j.transitions)
          (λ i t k. some_word_of j.fine j.rest d top i t f k) limit s b

      pub aim : (n e : ℕ) → n ≡ cost_of d f / unit → e ≡ cost_of d f % unit + 1 → Aim m list d f n e
      aim =
          subst₂ (λ (x : Machine) (y : List ℕ). Limit x.marks d top → Least top x y d → Best x.marks d 64 (Some f) → (n e : ℕ) → n ≡ cost_of d f / unit → e ≡ cost_of d f % unit + 1 → Aim x y d f n e)
          (sym j.machine) (sym j.transitions)
          (λ i t k. aim_of j.fine j.rest d top i t f k) limit s b

      pub final_state : final m.marks f ≡ true
      final_state = (best_final m.marks d f b).1

-- The entries of a written run

abbrev Entry : Machine → ℕ → Type 0
Entry m e = (begin_buffering ≤ e) ⊎ (e < m.transitions)

data Entries (m : Machine) : List ℕ → Type 0 where
  nothing_more : Entries m []
  entry : {e : ℕ} {es : List ℕ} → Entry m e → Entries m es → Entries m (e ∷ es)

entries_append : {m : Machine} {es ds : List ℕ} → Entries m es → Entries m ds → Entries m (es ++ ds)
entries_append nothing_more k = k
entries_append (entry h r) k = entry h (entries_append r k)

entries_at : {m : Machine} {es : List ℕ} → Entries m es → (k : ℕ) → k < length es → Entry m (get_or es k 0)
entries_at nothing_more k h = absurd (omega arith)
entries_at (entry e r) zero h = e
entries_at (entry {es = es} e r) (suc k) h = entries_at r k (omega arith)

module _ (m : Machine) (list : List ℕ) where
  stores_entries : {s h : ℕ} {x es : List ℕ} → StoresBy m list s x es h → Entries m es
  stores_entries stored = nothing_more
  stores_entries (store t apart outside r) = entry (inr t.listed) (stores_entries r)

  matches_entries : {s z : ℕ} {x es : List ℕ} → MatchesBy m list s x es z → Entries m es
  matches_entries matched = nothing_more
  matches_entries (match t from to r) = entry (inr t.listed) (matches_entries r)

  leads_entries : {q f : ℕ} {w es : List ℕ} → LeadsBy m list q w es f → Entries m es
  leads_entries ended = nothing_more
  leads_entries (read t apart outside r) = entry (inr t.listed) (leads_entries r)
  leads_entries (copy g s h d z r) =
      entry {e = begin_buffering} (inl (omega arith))
      (entries_append (stores_entries s)
      (entry {e = begin_emptying} (inl (omega arith)) (entries_append (matches_entries d) (entry {e = back_to_normal} (inl (omega arith)) (leads_entries r)))))

-- Taking the run apart

module _ (m₁ : Machine) (l₁ : List ℕ) (m₂ : Machine) (l₂ : List ℕ) (m : Machine) (list : List ℕ) (j : Joined m₁ l₁ m₂ l₂ m list) (f : ℕ) (word run : List ℕ) (written : Shortest m list f word run)
    (some : 0 < length run) where
  count_is : m.transitions ≡ joined_count m₁ l₁ m₂ l₂
  unfolding joined_machine
  count_is = ap (λ (x : Machine). x.transitions) j.machine

  few : m.transitions ≤ 4000
  few = let k = (joinable m₁ l₁ m₂ l₂ j.fine).few_transitions in let e = count_is in omega arith

  pub to_split : (other : List ℕ) → length other ≡ length word + 1 → split.Joined m₁ l₁ m₂ l₂ list run other
  to_split other size =
      record {
        fine = j.fine;
        rest = j.rest;
        list_is = j.transitions;
        started = some;
        entries = λ k pos h. at k pos h;
        letters = let l = leads_letters m list (let z = few in omega arith) written.leads in omega arith;
      }
    where
      at : (k : ℕ) → 0 < k → k < length run → (begin_buffering ≤ get_or run k 0) ⊎ (get_or run k 0 < joined_count m₁ l₁ m₂ l₂)
      at zero pos h = absurd (omega arith)
      at (suc k) pos h =
          let size = length-drop 1 run in
          let one : suc k ≡ 1 + k = omega arith in
          let e : get_or (drop 1 run) k 0 ≡ get_or run (suc k) 0 = get_or-drop 1 run k 0 ∙ ap (λ (i : ℕ). get_or run i 0) (sym one) in
          let n : Entry m (get_or run (suc k) 0) = subst (Entry m) e (entries_at (leads_entries m list written.leads) k (omega arith)) in
          subst (λ (c : ℕ). (begin_buffering ≤ get_or run (suc k) 0) ⊎ (get_or run (suc k) 0 < c)) count_is n

  pub split_runs : final m.marks f ≡ true → (run' other' : List ℕ) → 0 < length run' → 0 < length other' → split.Split m₁ l₁ m₂ l₂ list run run' other'
      → (accepting m₁ l₁ word run' ≡ true) × (accepting m₂ l₂ word other' ≡ true)
  split_runs last run' other' some₁ some₂ s =
      let (a₁, a₂) = subst₂ (λ (x : Machine) (y : List ℕ).
      (fsbm_of x y).I (get_or run 0 0) → final x.marks f ≡ true → LeadsBy x y (get_or run 0 0) word (drop 1 run) f → Splits m₁ l₁ m₂ l₂ y (drop 1 run) (drop 1 run') (drop 1 other')
      → (accepting m₁ l₁ word (get_or run 0 0 / m₂.states ∷ drop 1 run') ≡ true) × (accepting m₂ l₂ word (get_or run 0 0 % m₂.states ∷ drop 1 other') ≡ true))
      (sym j.machine) (sym j.transitions)
      (λ i l r u. split_accepts m₁ l₁ m₂ l₂ j.fine j.rest i l r u) written.start last written.leads s.splits in
      let whole₁ : get_or run 0 0 / m₂.states ∷ drop 1 run' ≡ run' = ap (λ (x : ℕ). x ∷ drop 1 run') (sym s.first_start) ∙ sym (drop-cons run' 0 0 some₁) in
      let whole₂ : get_or run 0 0 % m₂.states ∷ drop 1 other' ≡ other' = ap (λ (x : ℕ). x ∷ drop 1 other') (sym s.second_start) ∙ sym (drop-cons other' 0 0 some₂) in
      (subst (λ (x : List ℕ). accepting m₁ l₁ word x ≡ true) whole₁ a₁, subst (λ (x : List ℕ). accepting m₂ l₂ word x ≡ true) whole₂ a₂)
