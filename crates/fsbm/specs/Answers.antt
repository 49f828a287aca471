-- The answers of the public calls: document 01's numbers, in its order. The laws stand in specs/Answers/Laws.antt.
--
-- number_of f, needed_of f     == the number of a refusal, and the length that a slice needs which is too short
-- refusal n                    == the refusal of number n, for a number without a length
-- unless n a                   == the answer a where n is 0, else the refusal of number n; passed n == the same with nothing to answer
-- by_refusal o a g             == a where o has no refusal, else g of it
-- good_letters letters w       == every letter of w is one of the machine's
-- word_fault longest letters w == the first refusal of a word: 9, 8; 0 where there is none
-- table_and_word longest m list w == the first refusal of a table and a word: 16, 9, 8; 0 where there is none
-- run_refusal fault accepts short room == the first refusal of a call that takes an accepting run and writes to a slice, if there is one
-- step_answer m list w c e     == what Config::step answers
-- check_answer m list w run    == what check_run answers
-- stepped_values, checked_values, count_values, machine_values == document 01's number and values for each case of an answer
-- step_values, check_values     == the number and values that the rules give
use Rattle.std.specs.Prelude.{ℕ, List, Bool, true, false, cond, ◌&&◌, length, replicate, leb, eqb, Option, None, Some, Result, Ok, Err, ⊤}
use Rattle.basics.specs.Search.{all_in}
use Rattle.fsbm.specs.Machine.{well_formed, max_states}
use Rattle.fsbm.specs.Moves.{move, accepting}
use Rattle.fsbm.specs.declared.machine.Machine.{Machine}
use Rattle.fsbm.specs.declared.config.Config.{Config}
use Rattle.fsbm.specs.declared.config.Move.{Move}
use Rattle.fsbm.specs.declared.answer.Refusal.{Refusal}
use Rattle.fsbm.specs.declared.answer.Refusal.TheVariants.{MissingBytes, BadColumn, BadCount, BadState, AbsentName, NotRising, BytesLeft, AbsentLetter, TooLong, NotPlain, LettersDiffer, ManyStates, ManyTransitions, NotAccepting, ShortList, BadTable, ShortRun, ShortWord, ShortSheet, ShortCopies, BadByte, MissingLetter, BadEnds, ShortAnswers, ShortSets}
pub mod Laws

-- the number of a refusal
abbrev pub number_of : Refusal → ℕ
number_of MissingBytes = 1
number_of BadColumn = 2
number_of BadCount = 3
number_of BadState = 4
number_of AbsentName = 5
number_of NotRising = 6
number_of BytesLeft = 7
number_of AbsentLetter = 8
number_of TooLong = 9
number_of NotPlain = 10
number_of LettersDiffer = 11
number_of ManyStates = 12
number_of ManyTransitions = 13
number_of NotAccepting = 14
number_of (ShortList needed) = 15
number_of BadTable = 16
number_of (ShortRun needed) = 17
number_of (ShortWord needed) = 18
number_of (ShortSheet needed) = 19
number_of (ShortCopies needed) = 20
number_of BadByte = 21
number_of MissingLetter = 22
number_of BadEnds = 34
number_of (ShortAnswers needed) = 35
number_of (ShortSets needed) = 36

-- the length that a slice needs which is too short, in its own elements; else 0
abbrev pub needed_of : Refusal → ℕ
needed_of MissingBytes = 0
needed_of BadColumn = 0
needed_of BadCount = 0
needed_of BadState = 0
needed_of AbsentName = 0
needed_of NotRising = 0
needed_of BytesLeft = 0
needed_of AbsentLetter = 0
needed_of TooLong = 0
needed_of NotPlain = 0
needed_of LettersDiffer = 0
needed_of ManyStates = 0
needed_of ManyTransitions = 0
needed_of NotAccepting = 0
needed_of (ShortList needed) = needed
needed_of BadTable = 0
needed_of (ShortRun needed) = needed
needed_of (ShortWord needed) = needed
needed_of (ShortSheet needed) = needed
needed_of (ShortCopies needed) = needed
needed_of BadByte = 0
needed_of MissingLetter = 0
needed_of BadEnds = 0
needed_of (ShortAnswers needed) = needed
needed_of (ShortSets needed) = needed

-- the refusal of this number, which is one without a length: 1 to 14, 16, 21, 22 or 34 (any other number stands for 34)
unfoldable pub refusal : ℕ → Refusal
refusal n =
    cond (eqb n 1) MissingBytes
    (cond (eqb n 2) BadColumn
    (cond (eqb n 3) BadCount
    (cond (eqb n 4) BadState
    (cond (eqb n 5) AbsentName
    (cond (eqb n 6) NotRising
    (cond (eqb n 7) BytesLeft
    (cond (eqb n 8) AbsentLetter
    (cond (eqb n 9) TooLong
    (cond (eqb n 10) NotPlain
    (cond (eqb n 11) LettersDiffer
    (cond (eqb n 12) ManyStates
    (cond (eqb n 13) ManyTransitions
    (cond (eqb n 14) NotAccepting
    (cond (eqb n 16) BadTable
    (cond (eqb n 21) BadByte
    (cond (eqb n 22) MissingLetter
    BadEnds))))))))))))))))

-- what a call answers whose tests give the number n: a where it is 0
abbrev pub unless : {A : Type 0} → ℕ → Result A Refusal → Result A Refusal
unless n a = cond (eqb n 0) a (Err (refusal n))

-- the same of a call that only tests
abbrev pub passed : ℕ → Result ⊤ Refusal
passed n = unless n (Ok tt)

-- by what may be a refusal: a where there is none, else g of it
abbrev pub by_refusal : {A : Type 0} → Option Refusal → A → (Refusal → A) → A
by_refusal None a g = a
by_refusal (Some f) a g = g f

-- the longest word that a run is checked on
abbrev pub longest_checked : ℕ
longest_checked = 1048576

-- the longest word that is recognized
abbrev pub longest_recognized : ℕ
longest_recognized = 255

-- letters are numbered from 1
abbrev pub good_letter : ℕ → ℕ → Bool
good_letter letters x = leb 1 x && leb x letters

abbrev pub good_letters : ℕ → List ℕ → Bool
good_letters letters w = all_in (good_letter letters) w

-- 9 the word is too long, 8 it has a letter that is not there
abbrev pub word_fault : ℕ → ℕ → List ℕ → ℕ
word_fault longest letters w = cond (leb (length w) longest) (cond (good_letters letters w) 0 8) 9

-- 16 the table breaks the rules; then those of the word
unfoldable pub table_and_word : ℕ → Machine → List ℕ → List ℕ → ℕ
table_and_word longest m list w = cond (well_formed m list) (word_fault longest m.letters w) 16

-- the machine of an answer that has none
abbrev pub no_machine : Machine
no_machine = record { states = 0; letters = 0; transitions = 0; marks = replicate max_states 0 }

-- that of what comes before the run, if there is one; 14 the run does not accept; the slice of length room is too short
unfoldable pub run_refusal : ℕ → Bool → Refusal → ℕ → Option Refusal
run_refusal fault accepts short room = cond (eqb fault 0) (cond accepts (cond (leb (needed_of short) room) None (Some short)) (Some NotAccepting)) (Some (refusal fault))

unfoldable pub step_answer : Machine → List ℕ → List ℕ → Config → ℕ → Result Move Refusal
step_answer m list w c e = unless (table_and_word longest_checked m list w) (Ok (move m list w c e))

unfoldable pub check_answer : Machine → List ℕ → List ℕ → List ℕ → Result Bool Refusal
check_answer m list w run = unless (table_and_word longest_checked m list w) (Ok (accepting m list w run))

-- Document 01's number and values for each case of an answer

-- of a step: the refusal's number or 0, 1 for an allowed move and else 0, and the configuration after the entry, which is the old one where no
-- move was made
pub record SteppedValues : Type 0 where
  pub refusal : ℕ
  pub allowed : ℕ
  pub config : Config

abbrev pub stepped_values : Config → Result Move Refusal → SteppedValues
stepped_values c (Err f) = record { refusal = number_of f; allowed = 0; config = c }
stepped_values c (Ok v) = record { refusal = 0; allowed = cond v.allowed 1 0; config = cond v.allowed v.config c }

unfoldable pub step_values : Machine → List ℕ → List ℕ → Config → ℕ → SteppedValues
step_values m list w c e =
    cond (eqb (table_and_word longest_checked m list w) 0)
    (record { refusal = 0; allowed = cond (move m list w c e).allowed 1 0; config = cond (move m list w c e).allowed (move m list w c e).config c })
    (record { refusal = table_and_word longest_checked m list w; allowed = 0; config = c })

-- of a count of what is written: the refusal's number or 0, the length needed or 0, and the count
pub record CountValues : Type 0 where
  pub refusal : ℕ
  pub needed : ℕ
  pub count : ℕ

abbrev pub count_values : Result ℕ Refusal → CountValues
count_values (Err f) = record { refusal = number_of f; needed = needed_of f; count = 0 }
count_values (Ok n) = record { refusal = 0; needed = 0; count = n }

-- of a table: the refusal's number or 0, the length needed or 0, and the machine, whose fields are 0 on a refusal
pub record MachineValues : Type 0 where
  pub refusal : ℕ
  pub needed : ℕ
  pub machine : Machine

abbrev pub machine_values : Result Machine Refusal → MachineValues
machine_values (Err f) = record { refusal = number_of f; needed = needed_of f; machine = no_machine }
machine_values (Ok m) = record { refusal = 0; needed = 0; machine = m }

-- of a run: the refusal's number or 0, and 1 for a run that accepts and else 0
pub record CheckedValues : Type 0 where
  pub refusal : ℕ
  pub accepting : ℕ

abbrev pub checked_values : Result Bool Refusal → CheckedValues
checked_values (Err f) = record { refusal = number_of f; accepting = 0 }
checked_values (Ok b) = record { refusal = 0; accepting = cond b 1 0 }

unfoldable pub check_values : Machine → List ℕ → List ℕ → List ℕ → CheckedValues
check_values m list w run =
    cond (eqb (table_and_word longest_checked m list w) 0)
    (record { refusal = 0; accepting = cond (accepting m list w run) 1 0 })
    (record { refusal = table_and_word longest_checked m list w; accepting = 0 })
