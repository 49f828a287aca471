-- A whole copy of a least run, written from its end. The laws stand in specs/Copy/Laws.antt.
--
-- begun_test marks d b h s t == a copy with the guess h has just begun at the pair (s, t), and this makes the pair's number
-- at s t i r c           == a place of the walk
-- MatchedReady, Matched  == what is asked and ensured where a move of the matching half is written
-- StoredReady, KeptOrNot    == the same where a move of the storing half is kept
-- Room m list b h z i r  == every copy with the guess h that ends in z, begun at any pair, fits before place i of the word and place r of
--                           the run, with the two entries that begin it
-- Walking ..             == the two halves are written from (s, t) to (h, z), and the pairs passed have larger numbers
-- Going, Gone            == what walk_back asks and ensures
-- Fits m list d q i r    == all pieces to q along which its number is reached fit before place i of the word and place r of the run
-- CopyReady, Stepped     == what copy asks; pieces from p to q are written before place i of the word and place r of the run, and the number
--                           of q is reached along them
use Rattle.std.specs.Prelude.{ℕ, ◌+◌, ◌*◌, ◌-◌, ◌≤◌, ◌<◌, ◌≡◌, ◌⊎◌, Bool, true, ◌&&◌, length, get_or, set, drop, eqb, Option, MatchOption, ⊤}
use mathlib.Core.List.{List, ◌++◌, Memᴰ}
use Rattle.basics.specs.Search.{AllBelow}
use Rattle.basics.specs.Counting.{Distinct}
use Rattle.fsbm.specs.Machine.{transition_at, buffering, matching}
use Rattle.fsbm.specs.Published.{fsbm_of}
use Rattle.fsbm.specs.declared.machine.Machine.{Machine}
use Rattle.pieces.specs.Pieces.{Stores, Matches, Leads}
use Rattle.pieces.specs.Pairs.{unit}
use Rattle.pieces.proofs.PairsLaws.{pair_weight}
use Rattle.pieces.specs.Blocks.{nothing, cost_of, cell, Settles}
use Rattle.pieces.specs.Written.{StoresBy, MatchesBy, LeadsBy}
use Rattle.shortest.specs.Put.{PutReady, Put, later_list}
use Rattle.shortest.specs.declared.copy.Progress.{Progress}
use Rattle.shortest.specs.declared.copy.Walk.{Walk}
pub mod Laws
pub mod Whole

unfoldable pub begun_test : List ℕ → List ℕ → List ℕ → ℕ → ℕ → ℕ → Bool
begun_test marks d b h s t = eqb t h && (buffering marks s && eqb (cost_of d s + 1) (cell b s t))

abbrev pub place : ℕ → ℕ → ℕ → ℕ → ℕ → Walk
place s t i r c = record { storing = s; matching = t; letter = i; entry = r; kept = c }

abbrev pub MatchedReady : List ℕ → Option ℕ → List ℕ → List ℕ → Walk → Type 0
MatchedReady list k word run w = MatchOption k ⊤ (λ k. PutReady list k word w.letter run w.entry)

-- nothing was to be written
pub record Same (word run : List ℕ) (w : Walk) (word' run' : List ℕ) (w' : Walk) : Type 0 where
  pub word_same : word' ≡ word
  pub run_same : run' ≡ run
  pub walk_same : w' ≡ w

pub record Written (list : List ℕ) (k : ℕ) (word run : List ℕ) (w : Walk) (word' run' : List ℕ) (w' : Walk) : Type 0 where
  pub put : Put list k word w.letter run w.entry word' w'.letter run'
  pub is : w' ≡ place w.storing (transition_at list k).from w'.letter (w.entry - 1) w.kept

abbrev pub Matched : List ℕ → Option ℕ → List ℕ → List ℕ → Walk → List ℕ → List ℕ → Walk → Type 0
Matched list k word run w word' run' w' = MatchOption k (Same word run w word' run' w') (λ k. Written list k word run w word' run' w')

abbrev pub StoredReady : Option ℕ → Walk → Type 0
StoredReady k w = MatchOption k ⊤ (λ k. (k < 65536) × (w.kept < 4096))

pub record Unkept (later : List ℕ) (w : Walk) (later' : List ℕ) (w' : Walk) : Type 0 where
  pub later_same : later' ≡ later
  pub walk_same : w' ≡ w

pub record Kept (list : List ℕ) (k : ℕ) (later : List ℕ) (w : Walk) (later' : List ℕ) (w' : Walk) : Type 0 where
  pub later_is : later' ≡ set later w.kept k
  pub is : w' ≡ place (transition_at list k).from w.matching w.letter w.entry (w.kept + 1)

abbrev pub KeptOrNot : List ℕ → Option ℕ → List ℕ → Walk → List ℕ → Walk → Type 0
KeptOrNot list k later w later' w' = MatchOption k (Unkept later w later' w') (λ k. Kept list k later w later' w')

abbrev pub Room : Machine → List ℕ → List ℕ → ℕ → ℕ → ℕ → ℕ → Type 0
Room m list b h z i r =
    (s t : ℕ) (y : List ℕ) (j k : ℕ) → Stores (fsbm_of m list) s y h j → Matches (fsbm_of m list) t y z k → cell b s t + pair_weight y j k ≡ cell b h z
    → (length y + length y ≤ i) × (j + k + 2 ≤ r)

pub record Walking (m : Machine) (list b : List ℕ) (h z : ℕ) (word₀ : List ℕ) (i : ℕ) (run₀ : List ℕ) (r : ℕ) (word run later : List ℕ) (w : Walk) : Type 0 where
  pub read : List ℕ
  pub storing : List ℕ
  pub matching : List ℕ
  pub stores : StoresBy m list w.storing read storing h
  pub matches : MatchesBy m list w.matching read matching z
  pub weight : cell b w.storing w.matching + pair_weight read (length storing) (length matching) ≡ cell b h z
  pub word_size : length word ≡ length word₀
  pub word_is : drop w.letter word ≡ read ++ drop i word₀
  pub word_place : w.letter + length read ≡ i
  pub run_size : length run ≡ length run₀
  pub run_is : drop w.entry run ≡ matching ++ drop r run₀
  pub run_place : w.entry + length matching ≡ r
  pub later_size : length later ≡ 4096
  pub later_is : later_list later w.kept ≡ storing
  pub passed : List ℕ
  pub distinct : Distinct passed
  pub below : AllBelow 4096 passed
  pub larger : (k : ℕ) → Memᴰ k passed → cell b w.storing w.matching < get_or b k 0
  pub count : w.kept ≤ length passed

pub record Going (m : Machine) (list d b : List ℕ) (h z : ℕ) (word : List ℕ) (i : ℕ) (run : List ℕ) (r : ℕ) : Type 0 where
  pub set : ℕ
  pub settles : Settles m list h set d b
  pub low : cell b h z < nothing
  pub room : Room m list b h z i r
  pub word_fits : i ≤ length word
  pub run_fits : r ≤ length run

pub record Gone (m : Machine) (list d b : List ℕ) (h z : ℕ) (word : List ℕ) (i : ℕ) (run : List ℕ) (r : ℕ) (word' run' later' : List ℕ) (w : Walk) : Type 0 where
  pub walking : Walking m list b h z word i run r word' run' later' w
  pub arrived : w.matching ≡ h
  pub buffers : buffering m.marks w.storing ≡ true
  pub begins : cost_of d w.storing + 1 ≡ cell b w.storing h

abbrev pub Fits : Machine → List ℕ → List ℕ → ℕ → ℕ → ℕ → Type 0
Fits m list d q i r =
    (p : ℕ) (x : List ℕ) (k : ℕ) → Leads (fsbm_of m list) p x q k → cost_of d p + (length x * unit + k) ≡ cost_of d q → (length x ≤ i) × (k < r)

pub record CopyReady (m : Machine) (list d b : List ℕ) (h z : ℕ) (word : List ℕ) (i : ℕ) (run : List ℕ) (r : ℕ) : Type 0 where
  pub set : ℕ
  pub settles : Settles m list h set d b
  pub turns : matching m.marks h ≡ true
  pub ends : matching m.marks z ≡ true
  pub tight : cell b h z + 2 ≡ cost_of d z
  pub low : cost_of d z < nothing
  pub fits : Fits m list d z i r
  pub word_fits : i ≤ length word
  pub run_fits : r ≤ length run

pub record Stepped (m : Machine) (list d : List ℕ) (q : ℕ) (word : List ℕ) (i : ℕ) (run : List ℕ) (r : ℕ) (word' run' : List ℕ) (p : Progress) : Type 0 where
  pub read : List ℕ
  pub entries : List ℕ
  pub leads : LeadsBy m list p.state read entries q
  pub tight : cost_of d p.state + (length read * unit + length entries) ≡ cost_of d q
  pub some : 0 < length entries
  pub word_size : length word' ≡ length word
  pub word_is : drop p.letter word' ≡ read ++ drop i word
  pub word_place : p.letter + length read ≡ i
  pub run_size : length run' ≡ length run
  pub run_is : drop p.entry run' ≡ entries ++ drop r run
  pub run_place : p.entry + length entries ≡ r
