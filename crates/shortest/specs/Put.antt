-- Entries and letters put in front of what a run and a word have already. The laws stand in specs/Put/Laws.antt.
--
-- PutReady, Put          == what put asks and ensures: the entry stands before place r of the run, the letter before place i of the word
-- Again word i n word'   == the n letters from place i on stand before place i too
-- later_list later c      == the first c numbers of later, the last of them first
-- Unloaded later c run r run' == these stand before place r of the run
use Rattle.std.specs.Prelude.{ℕ, zero, suc, ◌+◌, ◌-◌, ◌≤◌, ◌<◌, ◌≡◌, List, [], ◌∷◌, ◌++◌, length, get_or, take, drop}
use Rattle.fsbm.specs.Machine.{transition_at}
use Rattle.fsbm.specs.Published.{symbol}
pub mod Laws

pub record PutReady (list : List ℕ) (k : ℕ) (word : List ℕ) (i : ℕ) (run : List ℕ) (r : ℕ) : Type 0 where
  pub small : k < 65536
  pub letter_small : (transition_at list k).letter < 256
  pub run_room : 0 < r
  pub run_fits : r ≤ length run
  pub word_room : ((transition_at list k).letter ≡ 0 → ⊥) → 0 < i
  pub word_fits : i ≤ length word

pub record Put (list : List ℕ) (k : ℕ) (word : List ℕ) (i : ℕ) (run : List ℕ) (r : ℕ) (word' : List ℕ) (i' : ℕ) (run' : List ℕ) : Type 0 where
  pub run_size : length run' ≡ length run
  pub run_is : drop (r - 1) run' ≡ k ∷ drop r run
  pub word_size : length word' ≡ length word
  pub word_is : drop i' word' ≡ symbol (transition_at list k).letter ++ drop i word
  pub place : i' + length (symbol (transition_at list k).letter) ≡ i

pub record Again (word : List ℕ) (i n : ℕ) (word' : List ℕ) : Type 0 where
  pub size : length word' ≡ length word
  pub is : drop (i - n) word' ≡ take n (drop i word) ++ drop i word

unfoldable pub later_list : List ℕ → ℕ → List ℕ
later_list later zero = []
later_list later (suc c) = get_or later c 0 ∷ later_list later c

pub record Unloaded (later : List ℕ) (c : ℕ) (run : List ℕ) (r : ℕ) (run' : List ℕ) : Type 0 where
  pub size : length run' ≡ length run
  pub is : drop (r - c) run' ≡ later_list later c ++ drop r run
