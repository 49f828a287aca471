-- The copy list of an accepting run (document 01, "How a run moves"; document 02, change 3). The laws stand in
-- specs/Copies/Laws.antt.
--
-- Copy                    == a copy: the position where buffering began, and the number of letters stored
-- copies_of m list w run   == the copies of an accepting run, one for each entry 65,534, in order
-- is_empty k               == a copy of no letters
-- with_letters ks          == the copies of ks that are not empty, in order
-- copy_list m list w run   == the copies that are listed: those of the run with letters
-- pairs ks                == the copies as they are written, two numbers each
-- total_back ks            == the total of the letters stored, taken from the last copy to the first
-- total_forward n ks       == the total taken from the first copy to the last, on top of n
-- copies_refusal           == the first refusal of list_copies, if there is one
-- copies_answer, copies_after == what list_copies answers, and what the caller's slice holds afterwards
-- copied_values r          == document 01's number and values for each case of the answer
-- copies_values            == the number and values that the rules give
use Rattle.std.specs.Prelude.{ℕ, ◌+◌, ◌*◌, ◌-◌, List, [], ◌∷◌, ◌++◌, Bool, cond, length, drop, eqb, Option, Result, Ok, Err, leb}
use Rattle.fsbm.specs.Moves.{move, start_at, accepting, begin_emptying}
use Rattle.fsbm.specs.Answers.{number_of, needed_of, by_refusal, table_and_word, run_refusal}
use Rattle.fsbm.specs.declared.machine.Machine.{Machine}
use Rattle.fsbm.specs.declared.config.Config.{Config}
use Rattle.fsbm.specs.declared.answer.Refusal.{Refusal}
use Rattle.fsbm.specs.declared.answer.Refusal.TheVariants.{ShortCopies}
use Rattle.copies.specs.declared.Copied.{Copied}
pub mod Laws

-- the longest word that copies are listed of
abbrev pub longest_copied : ℕ
longest_copied = 255

pub record Copy : Type 0 where
  pub start : ℕ
  pub stored : ℕ

-- the copy whose buffer is complete in c, where an entry 65,534 follows
abbrev pub copy_at : Config → Copy
copy_at c = record { start = c.start; stored = c.end - c.start }

-- the copies that the entries es make from c
unfoldable pub copies_from : Machine → List ℕ → List ℕ → Config → List ℕ → List Copy
copies_from m list w c [] = []
copies_from m list w c (e ∷ es) =
    let rest = copies_from m list w (move m list w c e).config es in
    cond (eqb e begin_emptying) (copy_at c ∷ rest) rest

unfoldable pub copies_of : Machine → List ℕ → List ℕ → List ℕ → List Copy
copies_of m list w [] = []
copies_of m list w (q ∷ es) = copies_from m list w (start_at q) es

abbrev pub is_empty : Copy → Bool
is_empty k = eqb k.stored 0

unfoldable pub with_letters : List Copy → List Copy
with_letters [] = []
with_letters (k ∷ ks) = cond (is_empty k) (with_letters ks) (k ∷ with_letters ks)

-- a copy of no letters is not listed
abbrev pub copy_list : Machine → List ℕ → List ℕ → List ℕ → List Copy
copy_list m list w run = with_letters (copies_of m list w run)

unfoldable pub pairs : List Copy → List ℕ
pairs [] = []
pairs (k ∷ ks) = k.start ∷ k.stored ∷ pairs ks

-- 0 past the last copy; at each copy its letters are added to the total of those behind it
unfoldable pub total_back : List Copy → ℕ
total_back [] = 0
total_back (k ∷ ks) = total_back ks + k.stored

-- at each copy its letters are added to the total of those before it
unfoldable pub total_forward : ℕ → List Copy → ℕ
total_forward n [] = n
total_forward n (k ∷ ks) = total_forward (n + k.stored) ks

-- how long a slice the list needs
unfoldable pub copies_need : Machine → List ℕ → List ℕ → List ℕ → ℕ
copies_need m list w run = length (copy_list m list w run) * 2

-- 16, 9 and 8; 14 the run does not accept; 20 the slice of this length is too short
unfoldable pub copies_refusal : Machine → List ℕ → List ℕ → List ℕ → ℕ → Option Refusal
copies_refusal m list w run room =
    run_refusal (table_and_word longest_copied m list w) (accepting m list w run) (ShortCopies (copies_need m list w run)) room

-- what the list has: how many copies, and the total of their letters
abbrev pub copied : List Copy → Copied
copied ks = record { copies = length ks; total = total_back ks }

unfoldable pub copies_answer : Machine → List ℕ → List ℕ → List ℕ → ℕ → Result Copied Refusal
copies_answer m list w run room = by_refusal (copies_refusal m list w run room) (Ok (copied (copy_list m list w run))) (λ f. Err f)

-- the slice as it was, or the list at its front
unfoldable pub copies_after : Machine → List ℕ → List ℕ → List ℕ → List ℕ → List ℕ
copies_after m list w run slice =
    by_refusal (copies_refusal m list w run (length slice)) (pairs (copy_list m list w run) ++ drop (copies_need m list w run) slice) (λ f. slice)

-- the refusal's number or 0, the length needed or 0, the number of copies listed and the total of the letters stored
pub record CopiedValues : Type 0 where
  pub refusal : ℕ
  pub needed : ℕ
  pub copies : ℕ
  pub total : ℕ

abbrev pub copied_values : Result Copied Refusal → CopiedValues
copied_values (Err f) = record { refusal = number_of f; needed = needed_of f; copies = 0; total = 0 }
copied_values (Ok c) = record { refusal = 0; needed = 0; copies = c.copies; total = c.total }

unfoldable pub copies_values : Machine → List ℕ → List ℕ → List ℕ → ℕ → CopiedValues
copies_values m list w run room =
    cond (eqb (table_and_word longest_copied m list w) 0)
    (cond (accepting m list w run)
    (cond (leb (copies_need m list w run) room)
    (record { refusal = 0; needed = 0; copies = length (copy_list m list w run); total = total_back (copy_list m list w run) })
    (record { refusal = 20; needed = copies_need m list w run; copies = 0; total = 0 }))
    (record { refusal = 14; needed = 0; copies = 0; total = 0 }))
    (record { refusal = table_and_word longest_copied m list w; needed = 0; copies = 0; total = 0 })
