-- The definitions of specs/Answers.antt case by case, over plain variables: what each way through a function gives.
--
-- step_says, check_says == an answer that is right has the right number and values
-- word_good, table_good == what no refusal says of a word, and of a table and a word
use Prim.Native.Nat.{ℕ, ◌≤◌, ◌<◌}
use mathlib.Core.Path.{◌≡◌, refl, ◌∙◌, ap}
use mathlib.Core.Bool.{Bool, true, false, cond}
use mathlib.Core.List.{List}
use mathlib.Core.Logic.{◌⊎◌, inl, inr}
use native.Mathlib.Omega.{arith}
use lib.ListN.{length, get_or}
use lib.Dec.{leb, eqb}
use borrow.Author.Tests.{leb-true, eqb-false}
use Rattle.std.specs.Prelude.{Result, Ok, Err}
use Rattle.basics.specs.Search.Laws.{true_or_false, and_true, all_in_at}
use Rattle.fsbm.specs.Machine.{well_formed}
use Rattle.basics.specs.Search.Loops.{first, second}
use Rattle.fsbm.specs.declared.machine.Machine.{Machine}
use Rattle.fsbm.specs.declared.config.Config.{Config}
use Rattle.fsbm.specs.declared.config.Move.{Move}
use Rattle.fsbm.specs.declared.answer.Refusal.{Refusal}
use Rattle.fsbm.specs.Moves.{move, accepting}
use Rattle.fsbm.specs.Answers.{longest_checked, good_letter, good_letters, word_fault, table_and_word, number_of, refusal, unless, step_answer, stepped_values, step_values, check_answer, checked_values, check_values}
use Rattle.fsbm.specs.Answers.Laws.{table_numbered}

module _ (m : Machine) (list w : List ℕ) where
  abbrev n : ℕ
  n = table_and_word longest_checked m list w

  numbered : eqb n 0 ≡ false → number_of (refusal n) ≡ n
  numbered f = (table_numbered longest_checked m list w).number (eqb-false n 0 f)

  pub step_says : (c : Config) (e : ℕ) (r : Result Move Refusal) → r ≡ unless n (Ok (move m list w c e)) → (r ≡ step_answer m list w c e) × (stepped_values c r ≡ step_values m list w c e)
  unfolding step_answer step_values
  step_says c e r h = (h, ap (stepped_values c) h ∙ at (eqb n 0) refl)
    where
      v : Move
      v = move m list w c e

      at : (b : Bool) → eqb n 0 ≡ b
          → stepped_values c (cond b (Ok v) (Err (refusal n)))
          ≡ cond b (record { refusal = 0; allowed = cond v.allowed 1 0; config = cond v.allowed v.config c }) (record { refusal = n; allowed = 0; config = c })
      at true is = refl
      at false is = ap (λ (k : ℕ). record { refusal = k; allowed = 0; config = c }) (numbered is)

  pub check_says : (run : List ℕ) (r : Result Bool Refusal) → r ≡ unless n (Ok (accepting m list w run)) → (r ≡ check_answer m list w run) × (checked_values r ≡ check_values m list w run)
  unfolding check_answer check_values
  check_says run r h = (h, ap checked_values h ∙ at (eqb n 0) refl)
    where
      at : (b : Bool) → eqb n 0 ≡ b
          → checked_values (cond b (Ok (accepting m list w run)) (Err (refusal n))) ≡ cond b (record { refusal = 0; accepting = cond (accepting m list w run) 1 0 }) (record { refusal = n; accepting = 0 })
      at true is = refl
      at false is = ap (λ (k : ℕ). record { refusal = k; accepting = 0 }) (numbered is)

-- a word that no test refuses
pub word_good : (longest letters : ℕ) (w : List ℕ) → word_fault longest letters w ≡ 0 → (length w ≤ longest) × ((i : ℕ) → i < length w → get_or w i 0 ≤ letters)
word_good longest letters w e = at (true_or_false (leb (length w) longest)) (true_or_false (good_letters letters w))
  where
    at : (leb (length w) longest ≡ true) ⊎ (leb (length w) longest ≡ false) → (good_letters letters w ≡ true) ⊎ (good_letters letters w ≡ false)
        → (length w ≤ longest) × ((i : ℕ) → i < length w → get_or w i 0 ≤ letters)
    at (inr f) g = absurd (let d = second {r = 9} _ f refl ∙ e in omega arith)
    at (inl l) (inr f) = absurd (let d = first {r = 8} _ l (second _ f refl) ∙ e in omega arith)
    at (inl l) (inl g) = (
      leb-true (length w) longest l,
      λ i lt. leb-true (get_or w i 0) letters (and_true (leb 1 (get_or w i 0)) (leb (get_or w i 0) letters) (all_in_at (good_letter letters) w g i 0 lt)).1,
    )

-- a table and a word that no test refuses
pub table_good : (longest : ℕ) (m : Machine) (list w : List ℕ) → table_and_word longest m list w ≡ 0
    → (well_formed m list ≡ true) × (length w ≤ longest) × ((i : ℕ) → i < length w → get_or w i 0 ≤ m.letters)
unfolding table_and_word
table_good longest m list w e = at (true_or_false (well_formed m list))
  where
    at : (well_formed m list ≡ true) ⊎ (well_formed m list ≡ false) → (well_formed m list ≡ true) × (length w ≤ longest) × ((i : ℕ) → i < length w → get_or w i 0 ≤ m.letters)
    at (inr f) = absurd (let d = second {r = 16} _ f refl ∙ e in omega arith)
    at (inl t) = let (l, g) = word_good longest m.letters w (first _ t refl ∙ e) in (t, l, g)
