-- What accept_words answers, and what the caller's slice holds afterwards. Numbers above 33 are the library's own. The laws stand in
-- specs/Words/Laws.antt.
--
-- stretch l from end               == the elements of l from one index up to another
-- start_of ends k, word_at letters ends k == where word number k begins, and the word
-- good_ends n from ends             == no end is below the one before it, the first not below from, and none is above n
-- answer_byte d                     == the byte of an answer: 1 yes, 0 no, else the refusal's number
-- answers_from m list letters from ends == the byte for each word, the first of which begins at from
-- words_refusal m list letters ends len == the refusal of the whole list, if there is one: 16, 34, 35
-- words_answer, words_after          == what accept_words answers, and what the slice for the answers holds afterwards
-- words_values                       == the number and values that the rules give
use Rattle.std.specs.Prelude.{ℕ, ◌-◌, List, [], ◌∷◌, Bool, true, cond, ◌&&◌, length, get_or, take, drop, leb, Option, None, Some, Result, Ok, Err}
use Rattle.basics.specs.Lists.{put}
use Rattle.fsbm.specs.Machine.{well_formed}
use Rattle.fsbm.specs.Answers.{number_of, needed_of, by_refusal, CountValues, count_values}
use Rattle.fsbm.specs.declared.machine.Machine.{Machine}
use Rattle.fsbm.specs.declared.answer.Refusal.{Refusal}
use Rattle.accepts.specs.Decision.{decision}
use Rattle.fsbm.specs.declared.answer.Refusal.TheVariants.{BadTable, BadEnds, ShortAnswers}
pub mod Laws

abbrev pub stretch : List ℕ → ℕ → ℕ → List ℕ
stretch l from end = take (end - from) (drop from l)

-- the first word begins at 0, each other where the one before it ends
abbrev pub start_of : List ℕ → ℕ → ℕ
start_of ends k = get_or (0 ∷ ends) k 0

abbrev pub word_at : List ℕ → List ℕ → ℕ → List ℕ
word_at letters ends k = stretch letters (start_of ends k) (get_or ends k 0)

unfoldable pub good_ends : ℕ → ℕ → List ℕ → Bool
good_ends n from [] = true
good_ends n from (end ∷ ends) = leb from end && (leb end n && good_ends n end ends)

abbrev pub answer_byte : Result Bool Refusal → ℕ
answer_byte (Err f) = number_of f
answer_byte (Ok b) = cond b 1 0

-- a word is the letters from the end of the one before it up to its own
unfoldable pub answers_from : Machine → List ℕ → List ℕ → ℕ → List ℕ → List ℕ
answers_from m list letters from [] = []
answers_from m list letters from (end ∷ ends) = answer_byte (decision m list (stretch letters from end)) ∷ answers_from m list letters end ends

-- 16 the table breaks the rules, 34 the ends fall or pass the letters, 35 the slice is shorter than the number of words, which it needs
unfoldable pub words_refusal : Machine → List ℕ → List ℕ → List ℕ → ℕ → Option Refusal
words_refusal m list letters ends len =
    cond (well_formed m list)
    (cond (good_ends (length letters) 0 ends) (cond (leb (length ends) len) None (Some (ShortAnswers (length ends)))) (Some BadEnds))
    (Some BadTable)

unfoldable pub words_answer : Machine → List ℕ → List ℕ → List ℕ → ℕ → Result ℕ Refusal
words_answer m list letters ends len = by_refusal (words_refusal m list letters ends len) (Ok (length ends)) (λ f. Err f)

unfoldable pub words_after : Machine → List ℕ → List ℕ → List ℕ → List ℕ → List ℕ
words_after m list letters ends answers =
    by_refusal (words_refusal m list letters ends (length answers)) (put 0 answers (answers_from m list letters 0 ends)) (λ f. answers)

unfoldable pub words_values : Machine → List ℕ → List ℕ → List ℕ → ℕ → CountValues
words_values m list letters ends len =
    cond (well_formed m list)
    (cond (good_ends (length letters) 0 ends)
    (cond (leb (length ends) len) (record { refusal = 0; needed = 0; count = length ends }) (record { refusal = 35; needed = length ends; count = 0 }))
    (record { refusal = 34; needed = 0; count = 0 }))
    (record { refusal = 16; needed = 0; count = 0 })
