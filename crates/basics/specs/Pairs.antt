-- Two numbers as one: p * n + r stands for the pair of p and r, where r is below n. Generic.
--
-- pair_before              == the number rises with p
-- pair_below               == where p is below a, it is below a * n
-- pair_first, pair_second  == p and r are read off it
-- pair_same                == so it is the number of one pair only
use Rattle.std.specs.Prelude.{ℕ, ◌+◌, ◌*◌, ◌/◌, ◌%◌, ◌<◌, ◌≡◌}
use Rattle.std.proofs.Common.{sym, ap, ◌∙◌, arith, mul-le-mul_right, suc-mul, mod-eq_of_lt}
use Rattle.std.proofs.Math.Nat.{mul-add-div_right, div-eq_of_lt, mul-add-mod_self_right}

pub pair_before : (n p r q s : ℕ) → p < q → r < n → p * n + r < q * n + s
pair_before n p r q s lt lr =
    let rows = mul-le-mul_right n lt in
    let row = suc-mul p n in
    omega arith

pub pair_below : (a n p r : ℕ) → p < a → r < n → p * n + r < a * n
pair_below a n p r lt lr = let z = pair_before n p r a 0 lt lr in omega arith

pub pair_first : (n p r : ℕ) → r < n → (p * n + r) / n ≡ p
pair_first n p r lr =
    let pos : 0 < n = omega arith in
    let e = mul-add-div_right pos p r in
    let z = div-eq_of_lt lr in
    omega arith

pub pair_second : (n p r : ℕ) → r < n → (p * n + r) % n ≡ r
pair_second n p r lr = mul-add-mod_self_right p n r ∙ mod-eq_of_lt lr

pub pair_same : (n p r q s : ℕ) → r < n → s < n → p * n + r ≡ q * n + s → (p ≡ q) × (r ≡ s)
pair_same n p r q s lr ls e = (
  sym (pair_first n p r lr) ∙ (ap (λ (z : ℕ). z / n) e ∙ pair_first n q s ls),
  sym (pair_second n p r lr) ∙ (ap (λ (z : ℕ). z % n) e ∙ pair_second n q s ls),
)
