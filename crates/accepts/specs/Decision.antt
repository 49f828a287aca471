-- What accepts answers (document 02, change 6).
--
-- decision m list w == the answer to a word: 16, 9, 8, else yes or no
-- decided_values r   == document 01's number and values for each case of the answer
-- decision_values    == the number and values that the rules give
use Rattle.std.specs.Prelude.{ℕ, List, Bool, cond, eqb, Result, Ok, Err}
use Rattle.fsbm.specs.Accepted.{accepted}
use Rattle.fsbm.specs.Answers.{longest_recognized, table_and_word, number_of, unless}
use Rattle.fsbm.specs.declared.machine.Machine.{Machine}
use Rattle.fsbm.specs.declared.answer.Refusal.{Refusal}

unfoldable pub decision : Machine → List ℕ → List ℕ → Result Bool Refusal
decision m list w = unless (table_and_word longest_recognized m list w) (Ok (accepted m list w))

-- the refusal's number or 0, and 1 for yes and else 0
pub record DecidedValues : Type 0 where
  pub refusal : ℕ
  pub accepted : ℕ

abbrev pub decided_values : Result Bool Refusal → DecidedValues
decided_values (Err f) = record { refusal = number_of f; accepted = 0 }
decided_values (Ok b) = record { refusal = 0; accepted = cond b 1 0 }

unfoldable pub decision_values : Machine → List ℕ → List ℕ → DecidedValues
decision_values m list w =
    cond (eqb (table_and_word longest_recognized m list w) 0) (record { refusal = 0; accepted = cond (accepted m list w) 1 0 })
    (record { refusal = table_and_word longest_recognized m list w; accepted = 0 })
