-- A number written as a column, from its last digit on.
--
-- put_last      == a part put is its last element stored, and what stands before it put
-- column_begun  == a column put is its last digit stored, and its other places put
-- place_written == the same of the places of a number whose last digit a column has already
-- column_done   == where no place is left, nothing is put
-- fits_less     == a number of so many digits has one less without its last
-- one_digit     == a number of at most one digit is below 10
-- same_last     == of a number of more than five digits the last five are those of a smaller one that has six
use Rattle.std.specs.Prelude.{ℕ, zero, suc, ◌+◌, ◌-◌, ◌*◌, ◌/◌, ◌%◌, ◌^◌, ◌<◌, ◌≤◌, ◌≡◌, List, [], ◌∷◌, ◌++◌, Bool, cond, length, take, drop, set}
use Rattle.std.proofs.Common.{sym, ap, ◌∙◌, refl, subst, arith, append_assoc, length-append, ne_eqb, pow-suc}
use Rattle.std.proofs.Math.Nat.{pow-le-pow_right}
use Rattle.std.proofs.lemmas.List.{take-set-le}
use Rattle.basics.specs.Lists.{put}
use Rattle.basics.specs.Lists.Laws.{put_none, drop_set}
use Rattle.columns.specs.Column.{digit_or, padded, column_of}
use Rattle.columns.specs.Column.Laws.{padded_length}

pub put_last : (l a : List ℕ) (at p x : ℕ) → p ≡ at + length a → p < length l → put at l (a ++ (x ∷ [])) ≡ put at (set l p x) a
unfolding put
put_last l a at p x is h =
    let long : at + length (a ++ (x ∷ [])) ≡ suc p = omega (arith, length-append a (x ∷ [])) in
    ap (λ (z : List ℕ). z ++ drop (at + length (a ++ (x ∷ []))) l) (sym (append_assoc (take at l) a (x ∷ [])))
    ∙ (append_assoc (take at l ++ a) (x ∷ []) (drop (at + length (a ++ (x ∷ []))) l)
    ∙ (ap (λ (k : ℕ). take at l ++ a ++ (x ∷ drop k l)) long
    ∙ (ap (λ (z : List ℕ). take at l ++ a ++ z) (sym (drop_set l (suc p) p x refl (omega arith)))
    ∙ (ap (λ (z : List ℕ). z ++ a ++ drop p (set l p x)) (sym (take-set-le at l p x (omega arith)))
    ∙ ap (λ (k : ℕ). take at (set l p x) ++ a ++ drop k (set l p x)) is))))

pub column_begun : (l : List ℕ) (at w k n p x left : ℕ) → suc k ≡ w → p ≡ at + k → p < length l → x ≡ 48 + n % 10 → left ≡ n / 10
    → put at l (column_of w n) ≡ put at (set l p x) (padded k left)
unfolding column_of
column_begun l at w k n p x left wide is fits x-is left-is =
    ap (λ (z : ℕ). put at l (column_of z n)) (sym wide)
    ∙ (ap (λ (d : ℕ). put at l (padded k (n / 10) ++ (d ∷ []))) (sym x-is)
    ∙ (put_last l (padded k (n / 10)) at p x (omega (arith, padded_length k (n / 10))) fits ∙ ap (λ (q : ℕ). put at (set l p x) (padded k q)) (sym left-is)))

pub place_written : (l : List ℕ) (at w k v p x tenth : ℕ) → suc k ≡ w → p ≡ at + k → p < length l → x ≡ digit_or v → tenth ≡ v / 10
    → put at l (padded w v) ≡ put at (set l p x) (padded k tenth)
unfolding padded
place_written l at w k v p x tenth wide is fits x-is tenth-is =
    ap (λ (z : ℕ). put at l (padded z v)) (sym wide)
    ∙ (ap (λ (d : ℕ). put at l (padded k (v / 10) ++ (d ∷ []))) (sym x-is)
    ∙ (put_last l (padded k (v / 10)) at p x (omega (arith, padded_length k (v / 10))) fits ∙ ap (λ (q : ℕ). put at (set l p x) (padded k q)) (sym tenth-is)))

pub column_done : (l : List ℕ) (at w v : ℕ) → w ≡ 0 → put at l (padded w v) ≡ l
unfolding padded
column_done l at w v none = ap (λ (k : ℕ). put at l (padded k v)) none ∙ sym (put_none at l)

pub fits_less : (d e v t : ℕ) → e ≡ d - 1 → t ≡ v / 10 → v < 10 ^ d → t < 10 ^ e
fits_less zero e v t less is h = let none : e ≡ 0 = omega arith in rw none (omega arith)
fits_less (suc f) e v t less is h = let g : v < 10 ^ f * 10 = rw pow-suc at h in let same : f ≡ e = omega arith in subst (λ (k : ℕ). t < 10 ^ k) same (omega arith)

pub one_digit : (d v : ℕ) → d ≤ 1 → v < 10 ^ d → v < 10
one_digit d v small h = let g : 10 ^ d ≤ 10 ^ 1 = pow-le-pow_right (omega arith) small in omega arith

digits_same : (p q : ℕ) → 0 < p → 0 < q → p % 10 ≡ q % 10 → digit_or p ≡ digit_or q
unfolding digit_or
digits_same p q a b e =
    ap (λ (z : Bool). cond z 32 (48 + p % 10)) (ne_eqb p 0 (λ (z : p ≡ 0). omega arith))
    ∙ (ap (λ (r : ℕ). 48 + r) e ∙ sym (ap (λ (z : Bool). cond z 32 (48 + q % 10)) (ne_eqb q 0 (λ (z : q ≡ 0). omega arith))))

pub same_last : (n : ℕ) → 100000 ≤ n → column_of 5 (100000 + n % 100000) ≡ column_of 5 n
unfolding column_of padded
same_last n h =
    let m : ℕ = 100000 + n % 100000 in
    λ j.
    digits_same (m / 10 / 10 / 10 / 10) (n / 10 / 10 / 10 / 10) (omega arith) (omega arith) (omega arith) j
    ∷ digits_same (m / 10 / 10 / 10) (n / 10 / 10 / 10) (omega arith) (omega arith) (omega arith) j
    ∷ digits_same (m / 10 / 10) (n / 10 / 10) (omega arith) (omega arith) (omega arith) j
    ∷ digits_same (m / 10) (n / 10) (omega arith) (omega arith) (omega arith) j
    ∷ ap (λ (r : ℕ). 48 + r) (let e : m % 10 ≡ n % 10 = omega arith in e) j
    ∷ []
