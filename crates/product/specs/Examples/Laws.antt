-- The laws of specs/Examples.antt.
--
-- odd_joins            == the row on two machines passes its test, by evaluation
-- joins_means          == a row that passes its test means what it says
-- examples             == every row of the table means what it says
use Rattle.std.specs.Prelude.{ℕ, ◌*◌, ◌≡◌, refl, ◌⊎◌, true, ◌&&◌, length, eqb}
use Rattle.std.proofs.Common.{sym, subst, inl, inr, eqb-true}
use mathlib.Core.List.Memᴰ
use mathlib.Core.List.{List, [], ◌∷◌, map, Memᴰ}
use Rattle.std.proofs.lemmas.Bool.{false≢true}
use Rattle.basics.specs.Search.Laws.{and_true}
use Rattle.fsbm.specs.declared.machine.Machine.{Machine}
use Rattle.language.specs.Examples as language
use Rattle.language.specs.Examples.{doubling, doubling_list}
use Rattle.language.specs.Examples.Laws as language-laws
use Rattle.product.specs.Product.{joined_transitions, joined_machine, join_fault}
use Rattle.product.specs.Examples.{odd, odd_list, odd_joined, Row, alone, joins_to, Meaning, same_list, joins, rows}

same_list_lem : (l k : List ℕ) → same_list l k ≡ true → l ≡ k
unfolding same_list
same_list_lem [] [] h = refl
same_list_lem [] (y ∷ k) h = absurd (false≢true h)
same_list_lem (x ∷ l) [] h = absurd (false≢true h)
same_list_lem (x ∷ l) (y ∷ k) h =
    let (a, b) = and_true (eqb x y) (same_list l k) h in
    let e = eqb-true x y a in
    let r = same_list_lem l k b in
    λ i. e i ∷ r i

pub joins_means : (m₁ : Machine) (l₁ : List ℕ) (m₂ : Machine) (l₂ : List ℕ) (states : ℕ) (transitions : List ℕ) → joins m₁ l₁ m₂ l₂ states transitions ≡ true
    → Meaning (joins_to m₁ l₁ m₂ l₂ states transitions)
unfolding joins
joins_means m₁ l₁ m₂ l₂ states transitions h =
    let count = (joined_machine m₁ l₁ m₂ l₂).transitions in
    let same = same_list (joined_transitions m₁ l₁ m₂ l₂) transitions in
    let (a, r₁) = and_true (eqb (join_fault m₁ l₁ m₂ l₂) 0) (eqb (joined_machine m₁ l₁ m₂ l₂).states states && (eqb (count * 3) (length transitions) && same)) h in
    let (b, r₂) = and_true (eqb (joined_machine m₁ l₁ m₂ l₂).states states) (eqb (count * 3) (length transitions) && same) r₁ in
    let (c, d) = and_true (eqb (count * 3) (length transitions)) same r₂ in
    (eqb-true (join_fault m₁ l₁ m₂ l₂) 0 a, eqb-true (joined_machine m₁ l₁ m₂ l₂).states states b, eqb-true (count * 3) (length transitions) c, same_list_lem (joined_transitions m₁ l₁ m₂ l₂) transitions d)

pub odd_joins : joins doubling doubling_list odd odd_list 6 odd_joined ≡ true
unfolding joins
odd_joins = refl

pub examples : (r : Row) → Memᴰ r rows → Meaning r
examples r k = at (Memᴰ.cases_cons k)
  where
    at : (r ≡ joins_to doubling doubling_list odd odd_list 6 odd_joined) ⊎ Memᴰ r (map alone language.rows) → Meaning r
    at (inl e) = subst Meaning (sym e) (joins_means doubling doubling_list odd odd_list 6 odd_joined odd_joins)
    at (inr m) = let (x, i, e) = Memᴰ.of_map alone language.rows m in subst Meaning e (language-laws.examples x i)
