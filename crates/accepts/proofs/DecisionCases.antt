-- The ways through accepts and accepts_next, over plain variables.
--
-- says    == an answer that is right has the right number and values
-- word_says == so is one that is right by the word, on a table that obeys the rules
-- of_word == a table that obeys the rules is refused for its word alone
use Prim.Native.Nat.{ℕ}
use mathlib.Core.Path.{◌≡◌, refl, ap, ◌∙◌}
use mathlib.Core.Bool.{Bool, true, false, cond}
use mathlib.Core.List.{List}
use lib.Dec.{eqb}
use borrow.Author.Tests.{eqb-false}
use Rattle.std.specs.Prelude.{Result, Ok, Err}
use Rattle.basics.specs.Search.Loops.{first}
use Rattle.fsbm.specs.Machine.{well_formed}
use Rattle.fsbm.specs.Accepted.{accepted}
use Rattle.fsbm.specs.Answers.{longest_recognized, word_fault, table_and_word, refusal, unless}
use Rattle.fsbm.specs.Answers.Laws.{table_numbered}
use Rattle.fsbm.specs.declared.machine.Machine.{Machine}
use Rattle.fsbm.specs.declared.answer.Refusal.{Refusal}
use Rattle.accepts.specs.Decision.{decision, decided_values, decision_values}

pub of_word : (longest : ℕ) (m : Machine) (list w : List ℕ) → well_formed m list ≡ true → word_fault longest m.letters w ≡ table_and_word longest m list w
unfolding table_and_word
of_word longest m list w good = first _ good refl

-- the answer to a word on a table that obeys the rules
pub word_says : (m : Machine) (list w : List ℕ) (r : Result Bool Refusal) → well_formed m list ≡ true → r ≡ unless (word_fault longest_recognized m.letters w) (Ok (accepted m list w)) → r ≡ decision m list w
unfolding decision
word_says m list w r good h = h ∙ ap (λ (n : ℕ). unless n (Ok (accepted m list w))) (of_word longest_recognized m list w good)

pub says : (m : Machine) (list w : List ℕ) (r : Result Bool Refusal) → r ≡ unless (table_and_word longest_recognized m list w) (Ok (accepted m list w))
    → (r ≡ decision m list w) × (decided_values r ≡ decision_values m list w)
unfolding decision decision_values
says m list w r h = (h, ap decided_values h ∙ at (eqb (table_and_word longest_recognized m list w) 0) refl)
  where
    at : (b : Bool) → eqb (table_and_word longest_recognized m list w) 0 ≡ b
        → decided_values (cond b (Ok (accepted m list w)) (Err (refusal (table_and_word longest_recognized m list w))))
        ≡ cond b (record { refusal = 0; accepted = cond (accepted m list w) 1 0 }) (record { refusal = table_and_word longest_recognized m list w; accepted = 0 })
    at true is = refl
    at false is = ap (λ (k : ℕ). record { refusal = k; accepted = 0 }) ((table_numbered longest_recognized m list w).number (eqb-false _ 0 is))
