-- What write_sheet answers and writes.
--
-- write_refusal m list len == 16, 19 with the length needed, or none
-- write_answer m list len  == what write_sheet answers to a slice of this length
-- write_sheet m list sheet == what the slice holds afterwards
-- write_values m list len  == the number and values that the rules give
use Rattle.std.specs.Prelude.{ℕ, List, ◌++◌, Option, None, Some, Result, Ok, Err, cond, length, drop, leb}
use Rattle.fsbm.specs.Machine.{well_formed}
use Rattle.fsbm.specs.Answers.{by_refusal, CountValues}
use Rattle.fsbm.specs.declared.machine.Machine.{Machine}
use Rattle.fsbm.specs.declared.answer.Refusal.{Refusal}
use Rattle.fsbm.specs.declared.answer.Refusal.TheVariants.{BadTable, ShortSheet}
use Rattle.sheet.specs.Format.{sheet_length, sheet_of}

unfoldable pub write_refusal : Machine → List ℕ → ℕ → Option Refusal
write_refusal m list len = cond (well_formed m list) (cond (leb (sheet_length m) len) None (Some (ShortSheet (sheet_length m)))) (Some BadTable)

unfoldable pub write_answer : Machine → List ℕ → ℕ → Result ℕ Refusal
write_answer m list len = by_refusal (write_refusal m list len) (Ok (sheet_length m)) (λ f. Err f)

unfoldable pub write_sheet : Machine → List ℕ → List ℕ → List ℕ
write_sheet m list sheet = by_refusal (write_refusal m list (length sheet)) (sheet_of m list ++ drop (sheet_length m) sheet) (λ f. sheet)

unfoldable pub write_values : Machine → List ℕ → ℕ → CountValues
write_values m list len =
    cond (well_formed m list)
    (cond (leb (sheet_length m) len) (record { refusal = 0; needed = 0; count = sheet_length m }) (record { refusal = 19; needed = sheet_length m; count = 0 }))
    (record { refusal = 16; needed = 0; count = 0 })
