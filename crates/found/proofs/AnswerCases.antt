-- The ways through `answer`, over plain variables: c is the number of the final state f, n and e the letters and entries that it says.
--
-- says_none, says_word, says_first, says_second, says_found == what each answer comes with
-- length_fits          == the length that the first run's slice needs is a small number
-- entries_fit          == a run of e entries fits in a slice of that length
-- writable             == the word and the runs can be written into the front of the three slices
use Prim.Native.Nat.{ℕ, ◌+◌, ◌*◌, ◌/◌, ◌%◌, ◌≤◌, ◌<◌}
use mathlib.Core.Path.{◌≡◌, sym, ap, ◌∙◌, subst, subst₂}
use mathlib.Core.Bool.{true}
use mathlib.Core.List.{List, ◌++◌}
use native.Mathlib.Omega.{arith}
use lib.ListN.{length, take, drop, length-append, length-drop}
use lib.Seq.{take_at, length-take-le}
use Rattle.fsbm.specs.Moves.{accepting}
use Rattle.fsbm.specs.Accepted.{run_bound}
use Rattle.fsbm.specs.declared.machine.Machine.{Machine}
use Rattle.product.specs.Tables.{joinable}
use Rattle.pieces.specs.Pairs.{unit}
use Rattle.pieces.specs.Blocks.{cost_of}
use Rattle.std.specs.Prelude.{None, Some, Ok, Err}
use Rattle.fsbm.specs.declared.answer.Refusal.TheVariants.{ShortRun, ShortWord}
use Rattle.common.specs.Common.{least_common, Front, CommonWord}
use Rattle.found.specs.Runs.{Writable, Runs}
use Rattle.found.specs.Weighed.{Weighed}
use Rattle.found.proofs.SearchCases.{none, short_word, short_first, short_second, written}
use Rattle.found.proofs.FoundCases.{Lengths, no_word_lem, some_word_lem, aim, final_state}

-- a slice whose front is written
front : (k : ℕ) (before new : List ℕ) → length new ≡ k → k ≤ length before → Front k before (new ++ drop k before)
front k before new size fits =
    record {
      fits = fits;
      size = let d = length-drop k before in let a = length-append new (drop k before) in omega arith;
      rest = ap (λ (x : List ℕ). x ++ drop k before) (sym (take_at new (drop k before) k size));
    }

module _ (m₁ : Machine) (l₁ : List ℕ) (m₂ : Machine) (l₂ : List ℕ) (m : Machine) (list d b : List ℕ) (word first_run second_run : List ℕ) where
  pub says_none : Weighed m₁ l₁ m₂ l₂ m list d b None → CommonWord m₁ l₁ m₂ l₂ word word first_run first_run second_run second_run (Ok None)
  says_none w = none m₁ l₁ m₂ l₂ word first_run second_run w.joined.fine (no_word_lem m₁ l₁ m₂ l₂ m list w.joined d w.top w.limit w.least w.best)

  module _ (f : ℕ) (w : Weighed m₁ l₁ m₂ l₂ m list d b (Some f)) (c : ℕ) (is_c : c ≡ cost_of d f) (n : ℕ) (is-n : n ≡ c / unit) where
    said : Lengths m₁ l₁ m₂ l₂ c
    said = subst (Lengths m₁ l₁ m₂ l₂) (sym is_c) (some_word_lem m₁ l₁ m₂ l₂ m list w.joined d w.top w.limit w.least f w.best)

    n_is : n ≡ least_common m₁ l₁ m₂ l₂
    n_is = is-n ∙ said.letters

    pub says_word : length word < n → CommonWord m₁ l₁ m₂ l₂ word word first_run first_run second_run second_run (Err (ShortWord n))
    says_word short = short_word m₁ l₁ m₂ l₂ word first_run second_run w.joined.fine n n_is said.within short

    bound_small : run_bound m₁ n < unit
    bound_small = subst (λ (k : ℕ). run_bound m₁ k < unit) (sym n_is) said.small

    pub length_fits : (m₁.states ≤ 64) × (3 * m₁.states * (n + 1) < unit) × (n < unit)
    unfolding run_bound
    length_fits = let e = n_is in let k = said.within in ((joinable m₁ l₁ m₂ l₂ w.joined.fine).first.states_fit, bound_small, omega arith)

    module _ (fits : n ≤ length word) (needed : ℕ) (is-needed : needed ≡ 3 * m₁.states * (n + 1)) where
      bound_is : needed ≡ run_bound m₁ n
      unfolding run_bound
      bound_is = is-needed

      pub says_first : length first_run < needed → CommonWord m₁ l₁ m₂ l₂ word word first_run first_run second_run second_run (Err (ShortRun needed))
      says_first short = short_first m₁ l₁ m₂ l₂ word first_run second_run w.joined.fine n n_is said.within fits needed bound_is short

      module _ (fits-first : needed ≤ length first_run) where
        pub says_second : length second_run < n + 1 → CommonWord m₁ l₁ m₂ l₂ word word first_run first_run second_run second_run (Err (ShortRun (n + 1)))
        says_second short = short_second m₁ l₁ m₂ l₂ word first_run second_run w.joined.fine n n_is said.within fits needed bound_is fits-first short

        module _ (fits-second : n + 1 ≤ length second_run) (e : ℕ) (is-e : e ≡ c % unit + 1) where
          within_bound : e ≤ needed
          within_bound =
              let f = said.fits in
              let k : run_bound m₁ n ≡ run_bound m₁ (least_common m₁ l₁ m₂ l₂) = ap (run_bound m₁) n_is in
              let z = bound_is in
              omega arith

          pub entries_fit : e ≤ length first_run
          entries_fit = let z = within_bound in omega arith

          pub writable : Writable m₁ l₁ m₂ l₂ m list d b f (take n word) (take e first_run) (take (n + 1) second_run)
          writable =
              let size_word = length-take-le n word fits in
              let size-run = length-take-le e first_run entries_fit in
              let size-other = length-take-le (n + 1) second_run fits-second in
              record {
                joined = w.joined;
                past = w.past;
                last = final_state m₁ l₁ m₂ l₂ m list w.joined d w.top w.limit w.least f w.best;
                aim = aim m₁ l₁ m₂ l₂ m list w.joined d w.top w.limit w.least f w.best (length (take n word)) (length (take e first_run))
                    (size_word ∙ (is-n ∙ ap (λ (x : ℕ). x / unit) is_c)) (size-run ∙ (is-e ∙ ap (λ (x : ℕ). x % unit + 1) is_c));
                room = size-other ∙ ap (λ (x : ℕ). x + 1) (sym size_word);
              }

          pub says_found : (new run other : List ℕ) → length new ≡ n → length run ≡ e → length other ≡ n + 1 → Runs m₁ l₁ m₂ l₂ new run other
              → CommonWord m₁ l₁ m₂ l₂ word (new ++ drop n word) first_run (run ++ drop e first_run) second_run (other ++ drop (n + 1) second_run)
              (Ok (Some (record { letters = n; first = e; second = n + 1 })))
          says_found new run other size-new size-run size-other r =
              written m₁ l₁ m₂ l₂ word first_run second_run w.joined.fine n n_is said.within fits needed bound_is fits-first fits-second e within_bound
              (new ++ drop n word) (run ++ drop e first_run) (other ++ drop (n + 1) second_run)
              (front n word new size-new fits) (front e first_run run size-run entries_fit) (front (n + 1) second_run other size-other fits-second)
              (subst₂ (λ (x y : List ℕ). accepting m₁ l₁ x y ≡ true) (sym (take_at new (drop n word) n size-new)) (sym (take_at run (drop e first_run) e size-run)) r.first)
              (subst₂ (λ (x y : List ℕ). accepting m₂ l₂ x y ≡ true) (sym (take_at new (drop n word) n size-new)) (sym (take_at other (drop (n + 1) second_run) (n + 1) size-other)) r.second)
