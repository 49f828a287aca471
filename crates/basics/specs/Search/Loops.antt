-- Tests in the form that code meets them: one branch, or one turn of a loop, at a time.
--
-- pass, stop      == a conjunction whose first test holds is the rest of it; one whose first test fails is false
-- first, second   == cond at a test that holds, and at one that fails
-- all_below_before == the test below k is the test at k - 1 and the test below that
-- all_fails, all_goes_on, all_done == a loop that goes down through the numbers below n: it meets a number that fails, goes on, ends
-- in_fails, in_goes_on, in_done == a loop that goes up through a list: it meets an element that fails, goes on, ends
-- all_in_from      == the test of a list from place i on is the test at i and the test from i + 1 on
use Rattle.std.specs.Prelude.{ℕ, zero, suc, ◌+◌, ◌-◌, ◌<◌, ◌≤◌, ◌≡◌, Bool, true, false, cond, ◌&&◌, List, length, get_or, drop}
use Rattle.std.proofs.Common.{sym, ap, ◌∙◌, add-one, sub-one, arith, drop_of_length-le, drop-cons}
use Rattle.basics.specs.Search.{all_below, all_in}

pub pass : {a b c : Bool} → a ≡ true → c ≡ b → c ≡ (a && b)
pass {a} {b} h e = e ∙ ap (λ (z : Bool). z && b) (sym h)

pub stop : {a : Bool} (b : Bool) → a ≡ false → false ≡ (a && b)
stop b h = ap (λ (z : Bool). z && b) (sym h)

module _ {A : Type 0} where
  pub first : {t : Bool} {r x : A} (y : A) → t ≡ true → r ≡ x → r ≡ cond t x y
  first {x = x} y h e = e ∙ ap (λ (z : Bool). cond z x y) (sym h)

  pub second : {t : Bool} {r y : A} (x : A) → t ≡ false → r ≡ y → r ≡ cond t x y
  second {y = y} x h e = e ∙ ap (λ (z : Bool). cond z x y) (sym h)

pub all_below_before : (p : ℕ → Bool) (k : ℕ) → 0 < k → all_below k p ≡ (p (k - 1) && all_below (k - 1) p)
unfolding all_below
all_below_before p zero h = absurd (omega arith)
all_below_before p (suc n) h = simp sub-one

pub all_in_from : {A : Type 0} (p : A → Bool) (l : List A) (i : ℕ) (d : A) → i < length l
    → all_in p (drop i l) ≡ (p (get_or l i d) && all_in p (drop (i + 1) l))
unfolding all_in
all_in_from p l i d h = rw (drop-cons l i d h, add-one)

-- a loop that goes down through a test of all numbers below a bound
module _ (p : ℕ → Bool) (n k : ℕ) (b : Bool) (so_far : all_below k p ≡ all_below n p) (some : 0 < k) (b-test : b ≡ p (k - 1)) where
  pub all_fails : b ≡ false → false ≡ all_below n p
  all_fails h = ap (λ (z : Bool). z && all_below (k - 1) p) (sym h ∙ b-test) ∙ (sym (all_below_before p k some) ∙ so_far)

  pub all_goes_on : b ≡ true → all_below (k - 1) p ≡ all_below n p
  all_goes_on h = ap (λ (z : Bool). z && all_below (k - 1) p) (sym h ∙ b-test) ∙ (sym (all_below_before p k some) ∙ so_far)

pub all_done : (p : ℕ → Bool) (n k : ℕ) → all_below k p ≡ all_below n p → k ≤ 0 → true ≡ all_below n p
unfolding all_below
all_done p n k h z = ap (λ (j : ℕ). all_below j p) (sym zero_k) ∙ h
  where
    zero_k : k ≡ 0
    zero_k = omega arith

-- a loop that goes up through a list
module _ {A : Type 0} (p : A → Bool) (l : List A) (i : ℕ) (d : A) (b : Bool) (so_far : all_in p (drop i l) ≡ all_in p l) (inside : i < length l) (b-test : b ≡ p (get_or l i d)) where
  pub in_fails : b ≡ false → false ≡ all_in p l
  in_fails h = ap (λ (z : Bool). z && all_in p (drop (i + 1) l)) (sym h ∙ b-test) ∙ (sym (all_in_from p l i d inside) ∙ so_far)

  pub in_goes_on : b ≡ true → all_in p (drop (i + 1) l) ≡ all_in p l
  in_goes_on h = ap (λ (z : Bool). z && all_in p (drop (i + 1) l)) (sym h ∙ b-test) ∙ (sym (all_in_from p l i d inside) ∙ so_far)

pub in_done : {A : Type 0} (p : A → Bool) (l : List A) (i : ℕ) → all_in p (drop i l) ≡ all_in p l → length l ≤ i → true ≡ all_in p l
unfolding all_in
in_done p l i h z = ap (λ x. all_in p x) (sym (drop_of_length-le l z)) ∙ h
