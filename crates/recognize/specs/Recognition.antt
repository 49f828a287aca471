-- What recognize answers, and what the caller's slice holds afterwards (document 01; demand 2).
--
-- recognition m list w len entries == the answer to a slice of len elements; entries is the length of the run that is written on yes
-- recognized_values r               == document 01's number and values for each case of the answer
-- recognition_values                == the number and values that the rules give
-- AtFront m list w r run run'      == an accepting run of r entries, no more than the bound, stands at the front of run', and the rest is that of run
-- Recognition                      == the contract: the answer with its number and values, the run at the front of the slice, the rest as it was
use Rattle.std.specs.Prelude.{ℕ, ◌≤◌, ◌≡◌, true, cond, List, ◌++◌, length, take, drop, leb, eqb, Option, None, Some, Result, Ok, Err}
use Rattle.fsbm.specs.Moves.{accepting}
use Rattle.fsbm.specs.Accepted.{run_bound, accepted}
use Rattle.fsbm.specs.Answers.{longest_recognized, table_and_word, number_of, needed_of, unless}
use Rattle.fsbm.specs.declared.machine.Machine.{Machine}
use Rattle.fsbm.specs.declared.answer.Refusal.{Refusal}
use Rattle.fsbm.specs.declared.answer.Refusal.TheVariants.{ShortRun}

-- 16, 9, 8, then 17 with the length needed, then yes with the number of entries, or no
unfoldable pub recognition : Machine → List ℕ → List ℕ → ℕ → ℕ → Result (Option ℕ) Refusal
recognition m list w len entries =
    unless (table_and_word longest_recognized m list w)
    (cond (leb (run_bound m (length w)) len) (Ok (cond (accepted m list w) (Some entries) None)) (Err (ShortRun (run_bound m (length w)))))

-- the refusal's number or 0, the length needed or 0, 1 for yes and else 0, and the number of entries written
pub record RecognizedValues : Type 0 where
  pub refusal : ℕ
  pub needed : ℕ
  pub accepted : ℕ
  pub entries : ℕ

abbrev pub recognized_values : Result (Option ℕ) Refusal → RecognizedValues
recognized_values (Err f) = record { refusal = number_of f; needed = needed_of f; accepted = 0; entries = 0 }
recognized_values (Ok None) = record { refusal = 0; needed = 0; accepted = 0; entries = 0 }
recognized_values (Ok (Some k)) = record { refusal = 0; needed = 0; accepted = 1; entries = k }

unfoldable pub recognition_values : Machine → List ℕ → List ℕ → ℕ → ℕ → RecognizedValues
recognition_values m list w len entries =
    cond (eqb (table_and_word longest_recognized m list w) 0)
    (cond (leb (run_bound m (length w)) len)
    (record { refusal = 0; needed = 0; accepted = cond (accepted m list w) 1 0; entries = cond (accepted m list w) entries 0 })
    (record { refusal = 17; needed = run_bound m (length w); accepted = 0; entries = 0 }))
    (record { refusal = table_and_word longest_recognized m list w; needed = 0; accepted = 0; entries = 0 })

pub record AtFront (m : Machine) (list w : List ℕ) (r : ℕ) (run run' : List ℕ) : Type 0 where
  pub fits : r ≤ length run
  pub bounded : r ≤ run_bound m (length w)
  pub front : run' ≡ take r run' ++ drop r run
  pub accepts : accepting m list w (take r run') ≡ true

-- Which accepting run is written, and so how many entries it has, is left open by document 01; the rest is one equation each.
pub record Recognition (m : Machine) (list w before after : List ℕ) (r : Result (Option ℕ) Refusal) : Type 0 where
  pub entries : ℕ
  pub answer : r ≡ recognition m list w (length before) entries
  pub values : recognized_values r ≡ recognition_values m list w (length before) entries
  pub fits : (recognized_values r).entries ≤ length before
  pub bounded : (recognized_values r).entries ≤ run_bound m (length w)
  pub rest : after ≡ take (recognized_values r).entries after ++ drop (recognized_values r).entries before
  pub accepts : (k : ℕ) → r ≡ Ok (Some k) → accepting m list w (take k after) ≡ true
