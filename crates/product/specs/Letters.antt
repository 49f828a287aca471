-- The letters by which states are left, and the transitions by each of them, as the functions of src/letters.rt find them. A state and
-- a letter are one number, the key (letter_key). A set of keys has 64 of them in a word; the letters of one state are four words.
--
-- HasKey words y          == y is a member of the set
-- Occurs list n y         == one of the first n transitions has the key y
-- KeySet list n words     == the set of the keys of the first n transitions
-- Starts list n starts    == starts has at the key of each of the first n transitions the first of them with this key
-- Indexed list n starts words == both
-- Noted list n starts words == the same as a fact that has one proof: a key of the set occurs where starts says
-- MayPair words r c       == letter c is epsilon, or state r can be left by it
-- Common first p second r letters == the letters of p that match at r
-- LeastFrom word x o      == o is the least member of a word that is not below x (LeastMember), or there is none
-- Least letters x o       == o is the least letter of the set that is not below x (LeastLetter), or there is none
-- Searching list starts letters p i hi == the transitions from i up to hi are the last ones of p, and the set has only letters of p
-- NextMove list letters i hi o == o is the first transition from i up to hi whose letter is in the set (FirstMove), or there is none
use Rattle.std.specs.Prelude.{ℕ, ◌+◌, ◌*◌, ◌/◌, ◌%◌, ◌≤◌, ◌<◌, ◌≡◌, ◌⊎◌, ◌↔◌, List, get_or, Option, None, Some}
use Rattle.fsbm.specs.Machine.{transition_at}
use Rattle.stateset.specs.Set.{In}
use Rattle.product.specs.Order.{letter_key, Block}

abbrev pub HasKey : List ℕ → ℕ → Type 0
HasKey words y = In (get_or words (y / 64) 0) (y % 64)

pub record Occurs (list : List ℕ) (n y : ℕ) : Type 0 where
  pub place : ℕ
  pub within : place < n
  pub keyed : letter_key list place ≡ y

pub record KeySet (list : List ℕ) (n : ℕ) (words : List ℕ) : Type 0 where
  pub all : (k : ℕ) → k < n → HasKey words (letter_key list k)
  pub only : (y : ℕ) → y < 16384 → HasKey words y → Occurs list n y

pub record Starts (list : List ℕ) (n : ℕ) (starts : List ℕ) : Type 0 where
  pub before : (k : ℕ) → k < n → get_or starts (letter_key list k) 0 ≤ k
  pub same : (k : ℕ) → k < n → letter_key list (get_or starts (letter_key list k) 0) ≡ letter_key list k

pub record Indexed (list : List ℕ) (n : ℕ) (starts words : List ℕ) : Type 0 where
  pub keys : KeySet list n words
  pub firsts : Starts list n starts

abbrev pub Noted : List ℕ → ℕ → List ℕ → List ℕ → Type 0
Noted list n starts words =
    ((k : ℕ) → k < n → HasKey words (letter_key list k))
    × ((y : ℕ) → y < 16384 → HasKey words y → (get_or starts y 0 < n) × (letter_key list (get_or starts y 0) ≡ y))
    × ((k : ℕ) → k < n → get_or starts (letter_key list k) 0 ≤ k)
    × ((k : ℕ) → k < n → letter_key list (get_or starts (letter_key list k) 0) ≡ letter_key list k)

abbrev pub MayPair : List ℕ → ℕ → ℕ → Type 0
MayPair words r c = (c ≡ 0) ⊎ HasKey words (r * 256 + c)

abbrev pub Common : List ℕ → ℕ → List ℕ → ℕ → List ℕ → Type 0
Common first p second r letters = (c : ℕ) → c < 256 → HasKey letters c ↔ (HasKey first (p * 256 + c) × MayPair second r c)

pub record LeastMember (word x b : ℕ) : Type 0 where
  pub low : x ≤ b
  pub high : b < 64
  pub none : (c : ℕ) → x ≤ c → c < b → In word c → ⊥
  pub member : In word b

abbrev pub LeastFrom : ℕ → ℕ → Option ℕ → Type 0
LeastFrom word x None = (c : ℕ) → x ≤ c → In word c → ⊥
LeastFrom word x (Some b) = LeastMember word x b

pub record LeastLetter (letters : List ℕ) (x b : ℕ) : Type 0 where
  pub low : x ≤ b
  pub high : b < 256
  pub none : (c : ℕ) → x ≤ c → c < b → HasKey letters c → ⊥
  pub member : HasKey letters b

abbrev pub Least : List ℕ → ℕ → Option ℕ → Type 0
Least letters x None = (c : ℕ) → x ≤ c → c < 256 → HasKey letters c → ⊥
Least letters x (Some b) = LeastLetter letters x b

pub record Searching (list starts letters : List ℕ) (p i hi : ℕ) : Type 0 where
  pub count : ℕ
  pub lo : ℕ
  pub block : Block list count p lo hi
  pub low : lo ≤ i
  pub high : i ≤ hi
  pub state : p < 64
  pub sorted : (u v : ℕ) → u ≤ v → v < count → letter_key list u ≤ letter_key list v
  pub letters_small : (u : ℕ) → u < count → (transition_at list u).letter < 256
  pub firsts : Starts list count starts
  pub only : (b : ℕ) → b < 256 → HasKey letters b → Occurs list count (p * 256 + b)

pub record FirstMove (list letters : List ℕ) (i hi r : ℕ) : Type 0 where
  pub low : i ≤ r
  pub high : r < hi
  pub passed : (k : ℕ) → i ≤ k → k < r → HasKey letters (transition_at list k).letter → ⊥
  pub reached : HasKey letters (transition_at list r).letter

abbrev pub NextMove : List ℕ → List ℕ → ℕ → ℕ → Option ℕ → Type 0
NextMove list letters i hi None = (k : ℕ) → i ≤ k → k < hi → HasKey letters (transition_at list k).letter → ⊥
NextMove list letters i hi (Some r) = FirstMove list letters i hi r
