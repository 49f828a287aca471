-- What document 01 asks of the search for a shortest common word (demand 3), for words that both machines accept. It is proved of the contract,
-- for acceptance by each machine's own runs and for the published definition, in specs/Demand/Laws.antt.
--
-- BothAccept .. w      == each machine has an accepting run of w
-- BothPublished .. w   == w is in the published language of each machine
-- Shortest C n         == some word with C has n letters, and none has fewer
-- Refuses r f          == r is the refusal f
-- WrittenWord C ..     == a word with C and no more letters than any other stands at the front of its slice, with an accepting run of each machine on it
-- Demand C ..          == what is asked of the answer r, C w being that both machines accept w
use Rattle.std.specs.Prelude.{ℕ, ◌+◌, ◌≤◌, ◌<◌, ◌≡◌, ◌↔◌, true, List, length, take}
use Rattle.fsbm.specs.Moves.{accepting}
use Rattle.fsbm.specs.Accepted.{run_bound}
use Rattle.fsbm.specs.Published.{fsbm_of, InLanguage}
use Rattle.fsbm.specs.Entries.{WrittenRun}
use Rattle.fsbm.specs.declared.machine.Machine.{Machine}
use Rattle.common.specs.declared.Lengths.{Lengths}
use Rattle.std.specs.Prelude.{Option, None, Some, Result, Ok, Err}
use Rattle.fsbm.specs.declared.answer.Refusal.{Refusal}
use Rattle.fsbm.specs.declared.answer.Refusal.TheVariants.{ShortRun, ShortWord}

abbrev pub BothAccept : Machine → List ℕ → Machine → List ℕ → List ℕ → Type 0
BothAccept m₁ l₁ m₂ l₂ w = ((run : List ℕ) × (accepting m₁ l₁ w run ≡ true)) × ((run : List ℕ) × (accepting m₂ l₂ w run ≡ true))

abbrev pub BothPublished : Machine → List ℕ → Machine → List ℕ → List ℕ → Type 0
BothPublished m₁ l₁ m₂ l₂ w = InLanguage (fsbm_of m₁ l₁) w × InLanguage (fsbm_of m₂ l₂) w

pub record Shortest (C : List ℕ → Type 0) (n : ℕ) : Type 0 where
  pub word : List ℕ
  pub letters : length word ≡ n
  pub common : C word
  pub least : (w : List ℕ) → C w → n ≤ length w

abbrev pub Refuses : Result (Option Lengths) Refusal → Refusal → Type 0
Refuses r f = r ≡ Err f

-- the word and the runs are as many elements as the answer says, at the front of their slices; each run is accepting by the run checker's rules, and
-- the written form of a published run
pub record WrittenWord (C : List ℕ → Type 0) (m₁ : Machine) (l₁ : List ℕ) (m₂ : Machine) (l₂ word' first' second' : List ℕ) (k : Lengths) : Type 0 where
  pub letters : length (take k.letters word') ≡ k.letters
  pub common : C (take k.letters word')
  pub least : (w : List ℕ) → C w → k.letters ≤ length w
  pub first_bounded : k.first ≤ run_bound m₁ k.letters
  pub first_entries : length (take k.first first') ≡ k.first
  pub first_accepts : accepting m₁ l₁ (take k.letters word') (take k.first first') ≡ true
  pub first_run : WrittenRun m₁ l₁ (take k.letters word') (take k.first first')
  pub second_entries : length (take k.second second') ≡ k.second
  pub second_accepts : accepting m₂ l₂ (take k.letters word') (take k.second second') ≡ true
  pub second_run : WrittenRun m₂ l₂ (take k.letters word') (take k.second second')

-- the slices have `word`, `first` and `second` elements before the call, and hold word', first' and second' after it
pub record Demand (C : List ℕ → Type 0) (m₁ : Machine) (l₁ : List ℕ) (m₂ : Machine) (l₂ : List ℕ) (word first second : ℕ) (word' first' second' : List ℕ) (r : Result (Option Lengths) Refusal) : Type 0 where
  -- no common word, exactly if no word of any length is accepted by both
  pub no_common_word : (r ≡ Ok None) ↔ ((w : List ℕ) → C w → ⊥)
  -- otherwise a shortest one has n letters, at most 515,970
  pub shortest : (w : List ℕ) → C w → (n : ℕ) × (n ≤ 515970) × Shortest C n
  -- and the first slice that is too short is refused with the length it needs
  pub word_too_short : (n : ℕ) → Shortest C n → Refuses r (ShortWord n) ↔ (word < n)
  pub first_too_short : (n : ℕ) → Shortest C n → Refuses r (ShortRun (run_bound m₁ n)) ↔ ((n ≤ word) × (first < run_bound m₁ n))
  pub second_too_short : (n : ℕ) → Shortest C n → Refuses r (ShortRun (n + 1)) ↔ ((n ≤ word) × (run_bound m₁ n ≤ first) × (second < n + 1))
  -- and where none is, exactly then, a word is written with its runs
  pub found : (n : ℕ) → Shortest C n → ((k : Lengths) × (r ≡ Ok (Some k))) ↔ ((n ≤ word) × (run_bound m₁ n ≤ first) × (n + 1 ≤ second))
  pub common_word : (k : Lengths) → r ≡ Ok (Some k) → WrittenWord C m₁ l₁ m₂ l₂ word' first' second' k
