-- The marked examples of document 01 on common words, as rows of one table with those on joining and on one machine. The laws stand in
-- specs/Examples/Laws.antt.
--
-- some, some_list       == the plain machine of the words with some letter 2
-- odd_machine           == the product of T with "odd number of 1", written out
-- Row                  == a row of an earlier kind, a pair of machines with no common word, or one with a shortest common word
-- Meaning r            == what the row r says about the definitions
-- some_word, none_shorter == some word of at most so many letters passes a test; no word of fewer letters does (computed)
-- same_machine          == two records agree in every field (a Bool)
-- has_none, has_shortest == the computed tests of the rows on two machines
-- rows                 == the table
use Rattle.std.specs.Prelude.{ℕ, zero, suc, ◌+◌, ◌≤◌, ◌≡◌, List, [], ◌∷◌, map, Bool, true, false, not, ◌&&◌, ◌||◌, length, get_or, ltb}
use Rattle.std.proofs.Math.Dec.{eqb}
use Rattle.basics.specs.Search.{any_below, all_below}
use Rattle.fsbm.specs.Machine.{well_formed}
use Rattle.fsbm.specs.Moves.{well_placed, reads_letter, passes, reads_stored, may_take, after, changes, move, accepts, accepting_from, accepting}
use Rattle.fsbm.specs.Accepted.{run_bound}
use Rattle.fsbm.specs.declared.machine.Machine.{Machine}
use Rattle.language.specs.Examples.{machine, doubling, doubling_list}
use Rattle.language.specs.Reached.{decided}
use Rattle.product.specs.Each.{each, sum_over}
use Rattle.product.specs.Product.{plain, letter_count, joined_count, pair_mark, joined_mark, joined_marks, joined_transitions, joined_machine, join_fault}
use Rattle.product.specs.Examples as product
use Rattle.product.specs.Examples.{odd, odd_list, odd_joined, joins}
use Rattle.pieces.specs.Spots.{no_copy_word}
use Rattle.std.specs.Prelude.{None, Some, Ok, Err}
use Rattle.fsbm.specs.declared.answer.Refusal.TheVariants.{ShortWord}
use Rattle.common.specs.Common.{is_common, common_answer}

abbrev pub some : Machine
some = machine 2 4 (1 ∷ 2 ∷ [])

abbrev pub some_list : List ℕ
some_list = 0 ∷ 1 ∷ 0 ∷ 0 ∷ 2 ∷ 1 ∷ 1 ∷ 1 ∷ 1 ∷ 1 ∷ 2 ∷ 1 ∷ []

-- the pairs (p, r) in the order of p × 2 + r
abbrev pub odd_machine : Machine
odd_machine = machine 2 12 (5 ∷ 4 ∷ 0 ∷ 0 ∷ 8 ∷ 10 ∷ [])

pub data Row : Type 0 where
  -- a row on one machine, or the product of two
  before : product.Row → Row
  -- the two machines, whose product is m with this list, have no common word
  no_common : (m₁ : Machine) (l₁ : List ℕ) (m₂ : Machine) (l₂ : List ℕ) (m : Machine) (list : List ℕ) → Row
  -- w is a shortest common word, with these runs; a word slice of `short` elements is too short
  shortest_common : (m₁ : Machine) (l₁ : List ℕ) (m₂ : Machine) (l₂ w run₁ run₂ : List ℕ) (short : ℕ) → Row

abbrev pub Meaning : Row → Type 0
Meaning (before r) = product.Meaning r
Meaning (no_common m₁ l₁ m₂ l₂ m list) =
    (join_fault m₁ l₁ m₂ l₂ ≡ 0)
    × (joined_machine m₁ l₁ m₂ l₂ ≡ m)
    × (joined_transitions m₁ l₁ m₂ l₂ ≡ list)
    × ((w : List ℕ) → is_common m₁ l₁ m₂ l₂ w ≡ false)
    × ((word first second entries : ℕ) → common_answer m₁ l₁ m₂ l₂ word first second entries ≡ Ok None)
Meaning (shortest_common m₁ l₁ m₂ l₂ w run₁ run₂ short) =
    (join_fault m₁ l₁ m₂ l₂ ≡ 0)
    × (accepting m₁ l₁ w run₁ ≡ true)
    × (accepting m₂ l₂ w run₂ ≡ true)
    × (is_common m₁ l₁ m₂ l₂ w ≡ true)
    × ((v : List ℕ) → is_common m₁ l₁ m₂ l₂ v ≡ true → length w ≤ length v)
    × ((word first second entries : ℕ) → length w ≤ word → run_bound m₁ (length w) ≤ first → length w + 1 ≤ second
    → common_answer m₁ l₁ m₂ l₂ word first second entries ≡ Ok (Some (record { letters = length w; first = entries; second = length w + 1 })))
    × ((first second entries : ℕ) → common_answer m₁ l₁ m₂ l₂ short first second entries ≡ Err (ShortWord (length w)))

unfoldable pub some_word : ℕ → ℕ → (List ℕ → Bool) → Bool
unfolding any_below
some_word n zero p = p []
some_word n (suc len) p = p [] || any_below n (λ x. some_word n len (λ w. p (x ∷ w)))

-- no word of fewer letters than n, each a number below letters, passes p
unfoldable pub none_shorter : ℕ → ℕ → (List ℕ → Bool) → Bool
unfolding some_word
none_shorter letters zero p = true
none_shorter letters (suc len) p = not (some_word letters len p)

unfoldable pub same_machine : Machine → Machine → Bool
unfolding all_below
same_machine m m' =
    eqb m.states m'.states
    && (eqb m.letters m'.letters
    && (eqb m.transitions m'.transitions
    && (eqb (length m.marks) (length m'.marks) && all_below (length m.marks) (λ q. eqb (get_or m.marks q 0) (get_or m'.marks q 0)))))

module _ (m₁ : Machine) (l₁ : List ℕ) (m₂ : Machine) (l₂ : List ℕ) where
  unfoldable pub has_none : Machine → List ℕ → Bool
  unfolding joins same_machine joined_machine joined_marks joined_mark pair_mark each no_copy_word
  has_none m list = joins m₁ l₁ m₂ l₂ m.states list && (same_machine m (joined_machine m₁ l₁ m₂ l₂) && no_copy_word m list)

  unfoldable pub has_shortest : List ℕ → List ℕ → List ℕ → ℕ → Bool
  unfolding join_fault well_formed all_below plain joined_count letter_count sum_over accepting accepting_from accepts move well_placed passes reads_stored may_take after changes reads_letter none_shorter decided
  has_shortest w run₁ run₂ short =
      eqb (join_fault m₁ l₁ m₂ l₂) 0
      && (accepting m₁ l₁ w run₁
      && (accepting m₂ l₂ w run₂
      && (ltb short (length w) && none_shorter (suc m₁.letters) (length w) (λ v. decided m₁ l₁ v && decided m₂ l₂ v))))

abbrev pub rows : List Row
rows =
    no_common doubling doubling_list odd odd_list odd_machine odd_joined
    ∷ shortest_common doubling doubling_list some some_list (2 ∷ 2 ∷ []) (0 ∷ 65533 ∷ 0 ∷ 3 ∷ 1 ∷ 65534 ∷ 5 ∷ 65535 ∷ []) (0 ∷ 1 ∷ 3 ∷ []) 1
    ∷ map before product.rows
