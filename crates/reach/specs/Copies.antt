-- What the functions of copies.rt promise: the states that copies reach while storing and while matching.
--
-- Added a b P             == the sets b are the sets a with the states q of which P p q holds, p the position
-- StoreTo G w i near p q  == a copy that begins at position i in a state of the set near is in state q at position p while storing
-- MatchTo G w i near p q  == the same while matching
-- SomeStore G w normal n p q, SomeMatch G w normal n p q == the same of a copy that begins at a position below n, in a state of its set
use Rattle.std.specs.Prelude.{ℕ, ◌≤◌, ◌<◌, ◌↔◌, ◌⊎◌, List, length, get_or}
use Rattle.stateset.specs.Set.{In}
use Rattle.fsbm.specs.declared.config.Mode.TheVariants.{Buffering}
use Rattle.images.specs.Graph.{Fitting, Graph}
use Rattle.decide.specs.Reach.{Walk, MatchingFrom}

pub record Added (a b : List ℕ) (P : ℕ → ℕ → Type 0) : Type 0 where
  pub fitting : Fitting 256 b
  pub members : (p q : ℕ) → In (get_or b p 0) q ↔ (In (get_or a p 0) q ⊎ P p q)

pub record StoreTo (G : Graph) (w : List ℕ) (i near p q : ℕ) : Type 0 where
  pub first : ℕ
  pub begins : In near first
  pub stores : In G.buffering first
  pub storing : Walk G w Buffering i first p q
  pub inside : p ≤ length w

pub record MatchTo (G : Graph) (w : List ℕ) (i near p q : ℕ) : Type 0 where
  pub end : ℕ
  pub middle : ℕ
  pub stored : StoreTo G w i near end middle
  pub matching : MatchingFrom G w i end middle p q

abbrev pub SomeStore : Graph → List ℕ → List ℕ → ℕ → ℕ → ℕ → Type 0
SomeStore G w normal n p q = (i : ℕ) × (i < n) × StoreTo G w i (get_or normal i 0) p q

abbrev pub SomeMatch : Graph → List ℕ → List ℕ → ℕ → ℕ → ℕ → Type 0
SomeMatch G w normal n p q = (i : ℕ) × (i < n) × MatchTo G w i (get_or normal i 0) p q
