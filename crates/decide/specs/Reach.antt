-- The states that a run reaches at each position in normal mode, copies taken as one step.
--
-- Rooms targets states w   == the table has room for the row of each letter of w
-- Walk G w T i p j q       == in mode T the letters of w from i up to j lead from p to q
-- Tailed G w i tail        == what the tail has reached is what emptying walks from i up to its position reach from its set
-- Square w i j            == the letters of w from i up to j stand once more from j on
-- LastSquare w i r         == no square of w that starts at i is longer than the one up to r and as far again
-- Reach G w start k q      == some run from a state of the set start is in state q at position k in normal mode
-- StoringAt G w start p q  == some run from a state of the set start is in state q at position p in buffering mode
-- MatchingFrom G w i j s p q == with the letters from i up to j in the buffer, matching that begins at j in the state s is in state q at position p
-- MatchingAt G w start p q == some run from a state of the set start is in state q at position p in emptying mode
-- At G w start T p q       == Reach, StoringAt or MatchingAt, by the mode
-- CopyTo G w i starts k q  == a copy of at least one letter that begins at position i in a state of the set starts ends at k in q
-- Copied G w i starts a b  == the sets b are the sets a with what such copies reach
-- ReadTo G w i near k q     == a normal move from a state of the set near reads the letter at i and ends at position k in q
-- Passed G w a b i         == the sets b are the sets a once position i is completed and what it reaches at later positions is added
-- Stage G w start sets t   == the sets of the positions below t are complete; every member of a set is reached
use Rattle.std.specs.Prelude.{ℕ, suc, ◌+◌, ◌-◌, ◌≤◌, ◌<◌, ◌≡◌, ◌↔◌, ◌⊎◌, List, length, get_or, set}
use Rattle.std.specs.Int.Bits.{bit_and}
use Rattle.stateset.specs.Set.{In}
use Rattle.fsbm.specs.declared.config.Mode.{Mode}
use Rattle.fsbm.specs.declared.config.Mode.TheVariants.{Normal, Buffering, Emptying}
use Rattle.decide.specs.declared.walks.Tail.{Tail}
use Rattle.images.specs.Graph.{Members, From, Star, Graph, Fitting, Room, Edge, Free, Turn, Advance}

abbrev pub Rooms : List ℕ → ℕ → List ℕ → Type 0
Rooms targets states w = (i : ℕ) → i < length w → Room targets states (get_or w i 0)

pub data Walk (G : Graph) (w : List ℕ) (T : Mode) (i p : ℕ) : ℕ → ℕ → Type 0 where
  still : {j q : ℕ} → j ≡ i → Free G T p q → Walk G w T i p j q
  reads : {j k q r : ℕ} → Walk G w T i p j q → j < length w → Advance G T (get_or w j 0) q r → k ≡ suc j → Walk G w T i p k r

pub record Tailed (G : Graph) (w : List ℕ) (i : ℕ) (tail : Tail) : Type 0 where
  pub from : i ≤ tail.position
  pub walked : Members tail.reached.set (From tail.ready (λ p q. Walk G w Emptying i p tail.position q))

abbrev pub Square : List ℕ → ℕ → ℕ → Type 0
Square w i j = (t : ℕ) → t < j - i → get_or w (i + t) 0 ≡ get_or w (j + t) 0

pub record LastSquare (w : List ℕ) (i r : ℕ) : Type 0 where
  pub from : i ≤ r
  pub room : r + (r - i) ≤ length w
  pub last : (j : ℕ) → r < j → j + (j - i) ≤ length w → Square w i j → ⊥

pub data Reach (G : Graph) (w : List ℕ) (start : ℕ) : ℕ → ℕ → Type 0 where
  begins : {k q : ℕ} → k ≡ 0 → In start q → Reach G w start k q
  passes : {k p q : ℕ} → Reach G w start k p → Edge G Normal 0 p q → Reach G w start k q
  moves : {i k p q : ℕ} → Reach G w start i p → i < length w → 0 < get_or w i 0 → Edge G Normal (get_or w i 0) p q → k ≡ suc i → Reach G w start k q
  copies : {i j k p s q : ℕ} → Reach G w start i p → In G.buffering p → i ≤ j → Walk G w Buffering i p j s → In G.matching s
      → Walk G w Emptying i s j q → Square w i j → k ≡ j + (j - i) → k ≤ length w → Reach G w start k q

pub record StoringAt (G : Graph) (w : List ℕ) (start p q : ℕ) : Type 0 where
  pub from : ℕ
  pub first : ℕ
  pub reach : Reach G w start from first
  pub stores : In G.buffering first
  pub storing : Walk G w Buffering from first p q
  pub inside : p ≤ length w

pub record MatchingFrom (G : Graph) (w : List ℕ) (i j s p q : ℕ) : Type 0 where
  pub turns : In G.matching s
  pub taken : ℕ
  pub behind : taken ≤ j
  pub emptying : Walk G w Emptying i s taken q
  pub same : (t : ℕ) → t < taken - i → get_or w (i + t) 0 ≡ get_or w (j + t) 0
  pub position : p ≡ j + (taken - i)
  pub inside : p ≤ length w

pub record MatchingAt (G : Graph) (w : List ℕ) (start p q : ℕ) : Type 0 where
  pub from : ℕ
  pub first : ℕ
  pub reach : Reach G w start from first
  pub stores : In G.buffering first
  pub end : ℕ
  pub middle : ℕ
  pub storing : Walk G w Buffering from first end middle
  pub matching : MatchingFrom G w from end middle p q

abbrev pub At : Graph → List ℕ → ℕ → Mode → ℕ → ℕ → Type 0
At G w start Normal p q = Reach G w start p q
At G w start Buffering p q = StoringAt G w start p q
At G w start Emptying p q = MatchingAt G w start p q

pub record CopyTo (G : Graph) (w : List ℕ) (i starts k q : ℕ) : Type 0 where
  pub from : ℕ
  pub begins : In starts from
  pub end : ℕ
  pub some : i < end
  pub middle : ℕ
  pub storing : Walk G w Buffering i from end middle
  pub turns : In G.matching middle
  pub emptying : Walk G w Emptying i middle end q
  pub same : Square w i end
  pub position : k ≡ end + (end - i)
  pub inside : k ≤ length w

pub record Copied (G : Graph) (w : List ℕ) (i starts : ℕ) (a b : List ℕ) : Type 0 where
  pub fitting : Fitting 256 b
  pub members : (k q : ℕ) → In (get_or b k 0) q ↔ (In (get_or a k 0) q ⊎ CopyTo G w i starts k q)

pub record ReadTo (G : Graph) (w : List ℕ) (i near k q : ℕ) : Type 0 where
  pub position : k ≡ suc i
  pub inside : i < length w
  pub letter : 0 < get_or w i 0
  pub from : From near (Edge G Normal (get_or w i 0)) q

pub record Passed (G : Graph) (w : List ℕ) (a b : List ℕ) (i : ℕ) : Type 0 where
  pub fitting : Fitting 256 b
  pub near : ℕ
  pub completes : Members near (From (get_or a i 0) (Star (Turn G)))
  pub members : (k q : ℕ) → In (get_or b k 0) q ↔ (In (get_or (set a i near) k 0) q ⊎ (ReadTo G w i near k q ⊎ CopyTo G w i (bit_and near G.buffering) k q))

pub record Stage (G : Graph) (w : List ℕ) (start : ℕ) (sets : List ℕ) (t : ℕ) : Type 0 where
  pub fitting : Fitting 256 sets
  pub sound : (k q : ℕ) → In (get_or sets k 0) q → Reach G w start k q
  pub begun : (q : ℕ) → In start q → In (get_or sets 0 0) q
  pub passed : (k p q : ℕ) → k < t → In (get_or sets k 0) p → Edge G Normal 0 p q → In (get_or sets k 0) q
  pub read : (k p q : ℕ) → k < t → k < length w → 0 < get_or w k 0 → In (get_or sets k 0) p → Edge G Normal (get_or w k 0) p q → In (get_or sets (suc k) 0) q
  pub copied : (i j k p s q : ℕ) → i < t → In (get_or sets i 0) p → In G.buffering p → i ≤ j → Walk G w Buffering i p j s → In G.matching s
      → Walk G w Emptying i s j q → Square w i j → k ≡ j + (j - i) → k ≤ length w → In (get_or sets k 0) q
