-- The laws of sets of states. Those on numbers hold for every width w; those on the sets that the functions of this crate return are
-- at its width. Assumes nothing.
--
-- digit_zero, digit_suc            == the digit at 0; the digit one place up is that of the half
-- digit_cases, in?                 == a digit is 0 or 1; q is a member or it is not
-- has_in, has_not                  == the Bool test is membership
-- digit_high, has_high, in_lt      == a number below 2 ^ w has no member at w or above
-- same_members                     == same members, same number
-- empty_in, in_or, in_and, in_bit  == the members of 0, of an or, of an and, of a single bit
-- in_not, in_full                  == the members of a complement, of 2 ^ n - 1
-- in_add, in_remove, in_difference == the members with one more, with one less, without those of another set
-- ones_zero, ones_mono, ones_same  == size 0 is empty; a part is no larger; a part of the same size is the whole
-- or_grows                         == an or is the same, or has more ones: the measure of a fixpoint
-- ones_add, add_member             == the size with a new member; adding a member changes nothing
-- ones_remove                      == the size without a member
-- lowest_in, lowest_lt, lowest_not == the lowest is a member, below the width, and nothing below it is a member
-- less_one, in_less_one            == the digits of x - 1, and the members of x that are members of x - 1: all but the lowest
-- rest_is, rest_none, lowest_removed == what is left of a set without its lowest member
-- empty_is, below_is, collected_is, added_is, single_is, removed_is, union_is, intersection_is, without_is, lowest_is
--                                  == what each function returns, with its members
-- removed_size                     == the size after removing
-- drop_lowest, union_grows         == the measure of a loop that takes out the lowest member; of one that joins sets until nothing changes
-- begins_with                      == a loop over the members of a set begins with that set
use Rattle.std.specs.Prelude.{◌≡◌, refl, ◌↔◌, ◌⊎◌, Bool, true, false, cond, ℕ, zero, suc, ◌+◌, ◌-◌, ◌*◌, ◌/◌, ◌%◌, ◌^◌, ◌≤◌, ◌<◌, min, max}
use Rattle.std.proofs.Common.{sym, ◌∙◌, ap, subst, inl, inr, ⊎_elim, arith, pow-suc, lt_of_lt_of_le, mod-eq_of_lt, one-mul, one-add, eqb-true, eq-eqb, lt-ltb, le-ltb, shr-shr, pow_mono, pow_pos}
use Rattle.std.proofs.lemmas.Bool.{false≢true, eqb-false}
use Rattle.std.proofs.Math.Nat.{div-eq_of_lt, sub-zero}
use Rattle.std.proofs.Math.Decide.{ℕ_discrete, dec_lt}
use Rattle.std.proofs.Math.Arith.{bin_ind}
use Rattle.std.proofs.Math.Pow.{pow-lt}
use Rattle.std.specs.Int.Bits.{bit_and, bit_or, and_lt, or_zero_r, and_step, or_step}
use Rattle.std.proofs.lemmas.Nat.{or_lt, and_shr, or_shr, ones-le, trailing_le}
use Rattle.std.specs.Int.Count.{ones, count_trailing_zeros, under, ones_step, trailing_of_zero}
use Rattle.stateset.specs.Set.{width, digit, In, has, added, removed, without, below, collected, lowest_of, SetIs, Lowest}
use Rattle.stateset.specs.declared.iter.Members.{Members}

-- Digits

pub digit_zero : (x : ℕ) → digit x 0 ≡ x % 2
unfolding digit
digit_zero x = omega arith

pub digit_suc : (x q : ℕ) → digit x (suc q) ≡ digit (x / 2) q
unfolding digit
digit_suc x q = ap (λ n. x / 2 ^ n % 2) (sym (one-add q)) ∙ ap (λ n. n % 2) (sym (shr-shr x 1 q))

pub digit_cases : (x q : ℕ) → (digit x q ≡ 0) ⊎ (digit x q ≡ 1)
unfolding digit
digit_cases x q = at (ℕ_discrete (x / 2 ^ q % 2) 0)
  where
    at : Dec (x / 2 ^ q % 2 ≡ 0) → (x / 2 ^ q % 2 ≡ 0) ⊎ (x / 2 ^ q % 2 ≡ 1)
    at (yes e) = inl e
    at (no d) = inr (omega arith)

pub digit_of_zero : (q : ℕ) → digit 0 q ≡ 0
digit_of_zero zero = digit_zero 0
digit_of_zero (suc q) = digit_suc 0 q ∙ digit_of_zero q

-- a number below 2 ^ w has no digit at w or above
pub digit_high : {w x q : ℕ} → x < 2 ^ w → w ≤ q → digit x q ≡ 0
unfolding digit
digit_high {w} {x} {q} h l = ap (λ n. n % 2) (div-eq_of_lt (lt_of_lt_of_le h (pow_mono l)))

pub in? : (x q : ℕ) → Dec (In x q)
in? x q = ℕ_discrete (digit x q) 1

pub has_in : (x q : ℕ) → (has x q ≡ true) ↔ In x q
has_in x q = (eqb-true (digit x q) 1, eq-eqb (digit x q) 1)

pub has_not : (x q : ℕ) → has x q ≡ false → In x q → ⊥
has_not x q e i = eqb-false (digit x q) 1 e i

pub has_high : {w x q : ℕ} → x < 2 ^ w → w ≤ q → has x q ≡ false
has_high h l = rw (digit_high h l)

pub in_lt : {w x q : ℕ} → x < 2 ^ w → In x q → q < w
in_lt {w} {x} {q} h m = at (dec_lt q w)
  where
    at : Dec (q < w) → q < w
    at (yes l) = l
    at (no l) = let u : w ≤ q = omega arith in let z = digit_high h u in absurd (omega arith)

-- the digit of a half, at a place and at the place above it
in_half : (x q : ℕ) → In (x / 2) q ↔ In x (suc q)
in_half x q = (λ m. digit_suc x q ∙ m, λ m. sym (digit_suc x q) ∙ m)

-- Same members, same number

pub digits_zero : (x : ℕ) → ((q : ℕ) → digit x q ≡ 0) → x ≡ 0
digits_zero =
    bin_ind (λ (x : ℕ). ((q : ℕ) → digit x q ≡ 0) → x ≡ 0) (λ h. refl)
    (λ x ih h.
    let half = ih (λ q. sym (digit_suc x q) ∙ h (suc q)) in
    let low = sym (digit_zero x) ∙ h 0 in
    omega arith)

pub same_digits : (x y : ℕ) → ((q : ℕ) → digit x q ≡ digit y q) → x ≡ y
same_digits =
    bin_ind (λ (x : ℕ). (y : ℕ) → ((q : ℕ) → digit x q ≡ digit y q) → x ≡ y)
    (λ y h. sym (digits_zero y (λ q. sym (h q) ∙ digit_of_zero q)))
    (λ x ih y h.
    let half = ih (y / 2) (λ q. sym (digit_suc x q) ∙ h (suc q) ∙ digit_suc y q) in
    let low = sym (digit_zero x) ∙ h 0 ∙ digit_zero y in
    omega arith)

not_in : (x q : ℕ) → (In x q → ⊥) → digit x q ≡ 0
not_in x q f = at (digit_cases x q)
  where
    at : (digit x q ≡ 0) ⊎ (digit x q ≡ 1) → digit x q ≡ 0
    at (inl z) = z
    at (inr m) = absurd (f m)

pub same_members : (x y : ℕ) → ((q : ℕ) → In x q ↔ In y q) → x ≡ y
same_members x y h = same_digits x y (λ q. at q (digit_cases x q))
  where
    at : (q : ℕ) → (digit x q ≡ 0) ⊎ (digit x q ≡ 1) → digit x q ≡ digit y q
    at q (inl z) = z ∙ sym (not_in y q (λ m. let u = (h q).1 m in omega arith))
    at q (inr m) = m ∙ sym ((h q).0 m)

pub empty_in : (q : ℕ) → In 0 q → ⊥
empty_in q m = let z = digit_of_zero q in omega arith

-- Or, and, one bit, complement

pub digit_or_lem : (x y q : ℕ) → digit (bit_or x y) q ≡ max (digit x q) (digit y q)
unfolding digit
digit_or_lem x y q = rw (or_shr x y q) (let e = or_step (x / 2 ^ q) (y / 2 ^ q) in omega arith)

pub digit_and : (x y q : ℕ) → digit (bit_and x y) q ≡ min (digit x q) (digit y q)
unfolding digit
digit_and x y q = rw (and_shr x y q) (let e = and_step (x / 2 ^ q) (y / 2 ^ q) in omega arith)

pub in_or : (x y q : ℕ) → In (bit_or x y) q ↔ (In x q ⊎ In y q)
in_or x y q = (λ m. to m (digit_cases x q), of)
  where
    to : In (bit_or x y) q → (digit x q ≡ 0) ⊎ (digit x q ≡ 1) → In x q ⊎ In y q
    to m (inl z) = let e = digit_or_lem x y q in inr (omega arith)
    to m (inr k) = inl k

    of : In x q ⊎ In y q → In (bit_or x y) q
    of (inl m) = ⊎_elim (λ (k : digit y q ≡ 0). omega (arith, digit_or_lem x y q)) (λ (k : digit y q ≡ 1). omega (arith, digit_or_lem x y q)) (digit_cases y q)
    of (inr m) = ⊎_elim (λ (k : digit x q ≡ 0). omega (arith, digit_or_lem x y q)) (λ (k : digit x q ≡ 1). omega (arith, digit_or_lem x y q)) (digit_cases x q)

pub in_and : (x y q : ℕ) → In (bit_and x y) q ↔ (In x q × In y q)
in_and x y q = (λ m. to m (digit_cases x q) (digit_cases y q), λ (m : In x q × In y q). let a = m.0 in let b = m.1 in omega (arith, digit_and x y q))
  where
    to : In (bit_and x y) q → (digit x q ≡ 0) ⊎ (digit x q ≡ 1) → (digit y q ≡ 0) ⊎ (digit y q ≡ 1) → In x q × In y q
    to m (inl z) k = absurd (omega (arith, digit_and x y q))
    to m (inr k) (inl z) = absurd (omega (arith, digit_and x y q))
    to m (inr k) (inr l) = (k, l)

half_pow : (p : ℕ) → 2 ^ suc p / 2 ≡ 2 ^ p
half_pow p = let e = pow-suc 2 p in omega arith

pub in_bit : (p q : ℕ) → In (2 ^ p) q ↔ (q ≡ p)
in_bit p q = (to p q, of p q)
  where
    to : (p q : ℕ) → In (2 ^ p) q → q ≡ p
    to zero zero m = refl
    to zero (suc q) m = absurd (empty_in q ((in_half 1 q).1 m))
    to (suc p) zero m = let e = pow-suc 2 p in let d = digit_zero (2 ^ suc p) in absurd (omega arith)
    to (suc p) (suc q) m = ap suc (to p q (rw half_pow at ((in_half (2 ^ suc p) q).1 m)))

    of : (p q : ℕ) → q ≡ p → In (2 ^ p) q
    of zero zero e = digit_zero 1
    of zero (suc q) e = absurd (omega arith)
    of (suc p) zero e = absurd (omega arith)
    of (suc p) (suc q) e = (in_half (2 ^ suc p) q).0 (rw half_pow (of p q (omega arith)))

-- below the width a complement has the other digit
digit_not : (w x q : ℕ) → x < 2 ^ w → q < w → digit (2 ^ w - 1 - x) q + digit x q ≡ 1
digit_not zero x q h l = absurd (omega arith)
digit_not (suc w) x zero h l =
    let e = pow-suc 2 w in
    let a = digit_zero x in
    let b = digit_zero (2 ^ suc w - 1 - x) in
    omega arith
digit_not (suc w) x (suc q) h l =
    let e = pow-suc 2 w in
    let u : (2 ^ suc w - 1 - x) / 2 ≡ 2 ^ w - 1 - x / 2 = omega arith in
    let s : x / 2 < 2 ^ w = omega arith in
    let t : q < w = omega arith in
    let ih = digit_not w (x / 2) q s t in
    let a = digit_suc x q in
    let b = digit_suc (2 ^ suc w - 1 - x) q ∙ ap (λ n. digit n q) u in
    omega arith

not_lt : (w x : ℕ) → 2 ^ w - 1 - x < 2 ^ w
not_lt w x = let h = pow_pos w in omega arith

pub in_not : (w x q : ℕ) → x < 2 ^ w → In (2 ^ w - 1 - x) q ↔ ((q < w) × (In x q → ⊥))
in_not w x q h = (to, of)
  where
    to : In (2 ^ w - 1 - x) q → (q < w) × (In x q → ⊥)
    to m =
        let l = in_lt {w = w} {x = 2 ^ w - 1 - x} {q = q} (not_lt w x) m in
        let d = digit_not w x q h l in
        (l, λ (k : In x q). omega arith)

    of : (q < w) × (In x q → ⊥) → In (2 ^ w - 1 - x) q
    of k =
        let d = digit_not w x q h k.0 in
        let z = not_in x q k.1 in
        omega arith

-- the n lowest states
pub in_full : (n q : ℕ) → In (2 ^ n - 1) q ↔ (q < n)
in_full n q = (λ m. in_lt {w = n} {x = 2 ^ n - 1} {q = q} (let h = pow_pos n in omega arith) m, of)
  where
    of : q < n → In (2 ^ n - 1) q
    of l =
        let d = digit_not n 0 q (pow_pos n) l in
        let z = digit_of_zero q in
        let e = ap (λ k. digit k q) (sub-zero (2 ^ n - 1)) in
        omega arith

-- one state more; all but those of another set; one state less

pub in_add : (x q p : ℕ) → In (bit_or x (2 ^ q)) p ↔ (In x p ⊎ (p ≡ q))
in_add x q p = (λ m. to ((in_or x (2 ^ q) p).0 m), λ k. (in_or x (2 ^ q) p).1 (of k))
  where
    to : In x p ⊎ In (2 ^ q) p → In x p ⊎ (p ≡ q)
    to (inl m) = inl m
    to (inr m) = inr ((in_bit q p).0 m)

    of : In x p ⊎ (p ≡ q) → In x p ⊎ In (2 ^ q) p
    of (inl m) = inl m
    of (inr e) = inr ((in_bit q p).1 e)

pub in_difference : (w x y p : ℕ) → x < 2 ^ w → y < 2 ^ w → In (bit_and x (2 ^ w - 1 - y)) p ↔ (In x p × (In y p → ⊥))
in_difference w x y p hx hy = (to, of)
  where
    to : In (bit_and x (2 ^ w - 1 - y)) p → In x p × (In y p → ⊥)
    to m = let k = (in_and x (2 ^ w - 1 - y) p).0 m in (k.0, ((in_not w y p hy).0 k.1).1)

    of : In x p × (In y p → ⊥) → In (bit_and x (2 ^ w - 1 - y)) p
    of k = (in_and x (2 ^ w - 1 - y) p).1 (k.0, (in_not w y p hy).1 (in_lt {w = w} {x = x} {q = p} hx k.0, k.1))

pub in_remove : (w x q p : ℕ) → x < 2 ^ w → q < w → In (bit_and x (2 ^ w - 1 - 2 ^ q)) p ↔ (In x p × (p ≡ q → ⊥))
in_remove w x q p hx hq = (to, of)
  where
    d : In (bit_and x (2 ^ w - 1 - 2 ^ q)) p ↔ (In x p × (In (2 ^ q) p → ⊥))
    d = in_difference w x (2 ^ q) p hx (pow-lt hq)

    to : In (bit_and x (2 ^ w - 1 - 2 ^ q)) p → In x p × (p ≡ q → ⊥)
    to m = let k = d.0 m in (k.0, λ e. k.1 ((in_bit q p).1 e))

    of : In x p × (p ≡ q → ⊥) → In (bit_and x (2 ^ w - 1 - 2 ^ q)) p
    of k = d.1 (k.0, λ m. k.1 ((in_bit q p).0 m))

-- Size

pub ones_zero : (x : ℕ) → ones x ≡ 0 → x ≡ 0
ones_zero =
    bin_ind (λ (x : ℕ). ones x ≡ 0 → x ≡ 0) (λ h. refl)
    (λ x ih h.
    let s = ones_step x in
    let z : ones (x / 2) ≡ 0 = omega arith in
    let half = ih z in
    omega arith)

in_low : (x : ℕ) → In x 0 → x % 2 ≡ 1
in_low x m = sym (digit_zero x) ∙ m

-- the lowest digits and the halves of a set and of one that holds it
low_le : (x y : ℕ) → ((q : ℕ) → In x q → In y q) → x % 2 ≤ y % 2
low_le x y h = at (digit_cases x 0)
  where
    at : (digit x 0 ≡ 0) ⊎ (digit x 0 ≡ 1) → x % 2 ≤ y % 2
    at (inl z) = let e = digit_zero x in omega arith
    at (inr m) = let e = in_low y (h 0 m) in omega arith

half_part : (x y : ℕ) → ((q : ℕ) → In x q → In y q) → (q : ℕ) → In (x / 2) q → In (y / 2) q
half_part x y h q m = (in_half y q).1 (h (suc q) ((in_half x q).0 m))

pub ones_of_zero : ones 0 ≡ 0
unfolding ones
ones_of_zero = refl

pub ones_mono : (x y : ℕ) → ((q : ℕ) → In x q → In y q) → ones x ≤ ones y
ones_mono =
    bin_ind (λ (x : ℕ). (y : ℕ) → ((q : ℕ) → In x q → In y q) → ones x ≤ ones y)
    (λ y h. let z = ones_of_zero in omega arith)
    (λ x ih y h.
    let half = ih (y / 2) (half_part x y h) in
    let low = low_le x y h in
    let s = ones_step x in
    let t = ones_step y in
    omega arith)

-- a set that holds another of the same size is the same
pub ones_same : (x y : ℕ) → ((q : ℕ) → In x q → In y q) → ones x ≡ ones y → x ≡ y
ones_same =
    bin_ind (λ (x : ℕ). (y : ℕ) → ((q : ℕ) → In x q → In y q) → ones x ≡ ones y → x ≡ y)
    (λ y h e. sym (ones_zero y (sym e ∙ ones_of_zero)))
    (λ x ih y h e.
    let le = ones_mono (x / 2) (y / 2) (half_part x y h) in
    let low = low_le x y h in
    let s = ones_step x in
    let t = ones_step y in
    let k : ones (x / 2) ≡ ones (y / 2) = omega arith in
    let half = ih (y / 2) (half_part x y h) k in
    omega arith)

-- the measure of a fixpoint: what is joined to a set leaves it the same, or it has more members
pub or_grows : (x y : ℕ) → (bit_or x y ≡ x) ⊎ (ones x < ones (bit_or x y))
or_grows x y = at (ℕ_discrete (bit_or x y) x)
  where
    part : (q : ℕ) → In x q → In (bit_or x y) q
    part q m = (in_or x y q).1 (inl m)

    at : Dec (bit_or x y ≡ x) → (bit_or x y ≡ x) ⊎ (ones x < ones (bit_or x y))
    at (yes e) = inl e
    at (no d) =
        let le = ones_mono x (bit_or x y) part in
        let ne : ones x ≡ ones (bit_or x y) → ⊥ = λ e. d (sym (ones_same x (bit_or x y) part e)) in
        inr (omega arith)

half_or : (x y : ℕ) → bit_or x y / 2 ≡ bit_or (x / 2) (y / 2)
half_or x y = or_shr x y 1

low_or : (x y : ℕ) → bit_or x y % 2 ≡ max (x % 2) (y % 2)
low_or x y = let e = or_step x y in omega arith

pub ones_add : (x q : ℕ) → (In x q → ⊥) → ones (bit_or x (2 ^ q)) ≡ suc (ones x)
ones_add x zero f =
    let z = not_in x 0 f in
    let d = digit_zero x in
    let s = ones_step x in
    let t = ones_step (bit_or x 1) in
    let l = low_or x 1 in
    let h = ap ones (half_or x 1 ∙ or_zero_r (x / 2)) in
    omega arith
ones_add x (suc q) f =
    let ih = ones_add (x / 2) q (λ m. f ((in_half x q).0 m)) in
    let s = ones_step x in
    let t = ones_step (bit_or x (2 ^ suc q)) in
    let e = pow-suc 2 q in
    let l = low_or x (2 ^ suc q) in
    let h = ap ones (half_or x (2 ^ suc q) ∙ ap (λ n. bit_or (x / 2) n) (half_pow q)) in
    omega arith

pub add_member : (x q : ℕ) → In x q → bit_or x (2 ^ q) ≡ x
add_member x q m = same_members (bit_or x (2 ^ q)) x (λ p. (λ k. to p ((in_add x q p).0 k), λ k. (in_add x q p).1 (inl k)))
  where
    to : (p : ℕ) → In x p ⊎ (p ≡ q) → In x p
    to p (inl k) = k
    to p (inr e) = ap (digit x) e ∙ m

pub ones_remove : (w x q : ℕ) → x < 2 ^ w → In x q → suc (ones (bit_and x (2 ^ w - 1 - 2 ^ q))) ≡ ones x
ones_remove w x q h m = sym (ones_add y q (λ k. ((in_remove w x q q h l).0 k).1 refl)) ∙ ap ones back
  where
    l : q < w
    l = in_lt {w = w} {x = x} {q = q} h m

    y : ℕ
    y = bit_and x (2 ^ w - 1 - 2 ^ q)

    to : (p : ℕ) → In y p ⊎ (p ≡ q) → In x p
    to p (inl k) = ((in_remove w x q p h l).0 k).0
    to p (inr e) = ap (digit x) e ∙ m

    of : (p : ℕ) → In x p → Dec (p ≡ q) → In y p ⊎ (p ≡ q)
    of p k (yes e) = inr e
    of p k (no d) = inl ((in_remove w x q p h l).1 (k, d))

    back : bit_or y (2 ^ q) ≡ x
    back =
        same_members (bit_or y (2 ^ q)) x
        (λ p. (λ k. to p ((in_add y q p).0 k), λ k. (in_add y q p).1 (of p k (ℕ_discrete p q))))

-- The lowest member

-- nothing below it is a member
pub lowest_least : (w x q : ℕ) → q < count_trailing_zeros w x → digit x q ≡ 0
unfolding count_trailing_zeros
lowest_least zero x q h = absurd (omega arith)
lowest_least (suc w) x q h = at (x % 2) refl h (lowest_least w (x / 2))
  where
    below : (q : ℕ) → x % 2 ≡ 0 → q < suc (count_trailing_zeros w (x / 2)) → ((q : ℕ) → q < count_trailing_zeros w (x / 2) → digit (x / 2) q ≡ 0) → digit x q ≡ 0
    below zero e l rest = digit_zero x ∙ e
    below (suc q) e l rest = digit_suc x q ∙ rest q (omega arith)

    at : (d : ℕ) → x % 2 ≡ d → q < under d (count_trailing_zeros w (x / 2)) → ((q : ℕ) → q < count_trailing_zeros w (x / 2) → digit (x / 2) q ≡ 0) → digit x q ≡ 0
    at zero e l rest = below q e l rest
    at (suc d) e l rest = absurd (omega arith)

-- it is a member, where it is below the width
lowest_member : (w x : ℕ) → count_trailing_zeros w x < w → In x (count_trailing_zeros w x)
unfolding count_trailing_zeros
lowest_member zero x h = absurd (omega arith)
lowest_member (suc w) x h = at (x % 2) refl h (lowest_member w (x / 2))
  where
    at : (d : ℕ) → x % 2 ≡ d → under d (count_trailing_zeros w (x / 2)) < suc w → (count_trailing_zeros w (x / 2) < w → In (x / 2) (count_trailing_zeros w (x / 2))) → In x (under d (count_trailing_zeros w (x / 2)))
    at zero e l rest = (in_half x (count_trailing_zeros w (x / 2))).0 (rest (omega arith))
    at (suc d) e l rest = digit_zero x ∙ (omega arith)

pub lowest_lt : (w x : ℕ) → 0 < x → x < 2 ^ w → count_trailing_zeros w x < w
lowest_lt w x p h = at (dec_lt (count_trailing_zeros w x) w)
  where
    zeros : (count_trailing_zeros w x < w → ⊥) → (q : ℕ) → Dec (q < w) → digit x q ≡ 0
    zeros f q (yes l) = lowest_least w x q (let g = trailing_le w x in omega arith)
    zeros f q (no l) = digit_high {w = w} {x = x} {q = q} h (omega arith)

    at : Dec (count_trailing_zeros w x < w) → count_trailing_zeros w x < w
    at (yes l) = l
    at (no f) = let z = digits_zero x (λ q. zeros f q (dec_lt q w)) in absurd (omega arith)

pub lowest_in : (w x : ℕ) → 0 < x → x < 2 ^ w → In x (count_trailing_zeros w x)
lowest_in w x p h = lowest_member w x (lowest_lt w x p h)

pub lowest_not : (w x q : ℕ) → q < count_trailing_zeros w x → In x q → ⊥
lowest_not w x q l m = let z = lowest_least w x q l in omega arith

-- one less than a number: the digit of its lowest member becomes 0, those above stay
less_one : (x q : ℕ) → In x q → ((p : ℕ) → p < q → digit x p ≡ 0) → (digit (x - 1) q ≡ 0) × ((p : ℕ) → q < p → digit (x - 1) p ≡ digit x p)
less_one =
    bin_ind
    (λ (x : ℕ). (q : ℕ) → In x q → ((p : ℕ) → p < q → digit x p ≡ 0) → (digit (x - 1) q ≡ 0) × ((p : ℕ) → q < p → digit (x - 1) p ≡ digit x p))
    (λ q m least. absurd (empty_in q m))
    (λ x ih q m least. at x ih (digit_cases x 0) q m least)
  where
    odd : (x : ℕ) → In x 0 → (p : ℕ) → 0 < p → digit (x - 1) p ≡ digit x p
    odd x m zero l = absurd (omega arith)
    odd x m (suc p) l =
        let low = in_low x m in
        let u : (x - 1) / 2 ≡ x / 2 = omega arith in
        digit_suc (x - 1) p ∙ ap (λ n. digit n p) u ∙ sym (digit_suc x p)

    even : (x : ℕ) → digit x 0 ≡ 0 → (p : ℕ) → digit (x - 1) (suc p) ≡ digit (x / 2 - 1) p
    even x z p =
        let low = sym (digit_zero x) ∙ z in
        let u : (x - 1) / 2 ≡ x / 2 - 1 = omega arith in
        digit_suc (x - 1) p ∙ ap (λ n. digit n p) u

    above : (x q : ℕ) → digit x 0 ≡ 0 → ((p : ℕ) → q < p → digit (x / 2 - 1) p ≡ digit (x / 2) p) → (p : ℕ) → suc q < p → digit (x - 1) p ≡ digit x p
    above x q z rest zero l = absurd (omega arith)
    above x q z rest (suc p) l = even x z p ∙ rest p (omega arith) ∙ sym (digit_suc x p)

    at : (x : ℕ) →
        ((q : ℕ) → In (x / 2) q → ((p : ℕ) → p < q → digit (x / 2) p ≡ 0) → (digit (x / 2 - 1) q ≡ 0) × ((p : ℕ) → q < p → digit (x / 2 - 1) p ≡ digit (x / 2) p)) →
        (digit x 0 ≡ 0) ⊎ (digit x 0 ≡ 1) → (q : ℕ) → In x q → ((p : ℕ) → p < q → digit x p ≡ 0) →
        (digit (x - 1) q ≡ 0) × ((p : ℕ) → q < p → digit (x - 1) p ≡ digit x p)
    at x ih (inl z) zero m least = absurd (omega arith)
    at x ih (inl z) (suc q) m least =
        let half = ih q ((in_half x q).1 m) (λ p l. sym (digit_suc x p) ∙ least (suc p) (omega arith)) in
        (even x z q ∙ half.0, above x q z half.1)
    at x ih (inr m₀) zero m least =
        let low = in_low x m in
        (digit_zero (x - 1) ∙ (omega arith), odd x m)
    at x ih (inr m₀) (suc q) m least = let z = least 0 (omega arith) in absurd (omega arith)

-- the members of a number that are members of one less are all but the lowest
pub in_less_one : (x q : ℕ) → In x q → ((p : ℕ) → p < q → In x p → ⊥) → (p : ℕ) → In (bit_and x (x - 1)) p ↔ (In x p × (p ≡ q → ⊥))
in_less_one x q m least p = (to, of (dec_lt q p))
  where
    less : (digit (x - 1) q ≡ 0) × ((p : ℕ) → q < p → digit (x - 1) p ≡ digit x p)
    less = less_one x q m (λ p l. not_in x p (least p l))

    to : In (bit_and x (x - 1)) p → In x p × (p ≡ q → ⊥)
    to k =
        let b = (in_and x (x - 1) p).0 k in
        (b.0, λ (e : p ≡ q). let z = ap (digit (x - 1)) e ∙ less.0 in let o = b.1 in omega arith)

    of : Dec (q < p) → In x p × (p ≡ q → ⊥) → In (bit_and x (x - 1)) p
    of (yes l) k = (in_and x (x - 1) p).1 (k.0, less.1 p l ∙ k.0)
    of (no f) k = let l : p < q = (let d = k.1 in omega arith) in absurd (least p l k.0)

-- The sets that the functions return, by their members

module _ (x q : ℕ) where
  pub added_state : q < width → added x q ≡ bit_or x (2 ^ q)
  unfolding added
  added_state h = simp (lt-ltb q width h)

  pub added_other : width ≤ q → added x q ≡ x
  unfolding added
  added_other h = simp (le-ltb q width h)

  pub removed_state : q < width → removed x q ≡ without x (2 ^ q)
  unfolding removed
  removed_state h = simp (lt-ltb q width h)

  pub removed_other : width ≤ q → removed x q ≡ x
  unfolding removed
  removed_other h = simp (le-ltb q width h)

pub below_less : (n : ℕ) → n < width → below n ≡ 2 ^ n - 1
unfolding below
below_less n h = ap (λ k. 2 ^ k - 1) (omega arith)

pub below_all : (n : ℕ) → width ≤ n → below n ≡ 2 ^ width - 1
unfolding below
below_all n h = let e : min n width ≡ width = omega arith in ap (λ k. 2 ^ k - 1) e

-- one bit, as a shift gives it
pub bit_shifted : (w q : ℕ) → q < w → 1 * 2 ^ q % 2 ^ w ≡ 2 ^ q
bit_shifted w q h = ap (λ n. n % 2 ^ w) (one-mul (2 ^ q)) ∙ mod-eq_of_lt (pow-lt h)

-- a set that is the number v has the members of v
pub moved : {r v : ℕ} {P : ℕ → Type 0} → r ≡ v → SetIs v v P → SetIs r v P
moved {P = P} e s = record { value = e; fits = let h = s.fits in omega arith; members = rw e s.members }

pub empty_is : SetIs 0 0 (λ p. ⊥)
empty_is = record { value = refl; fits = omega arith; members = λ p. (empty_in p, λ z. absurd z) }

module _ (x y : ℕ) (hx : x < 2 ^ width) (hy : y < 2 ^ width) where
  pub union_is : SetIs (bit_or x y) (bit_or x y) (λ p. In x p ⊎ In y p)
  union_is = record { value = refl; fits = or_lt width x y hx hy; members = in_or x y }

  pub intersection_is : SetIs (bit_and x y) (bit_and x y) (λ p. In x p × In y p)
  intersection_is = record { value = refl; fits = and_lt width x y hx hy; members = in_and x y }

  pub without_is : SetIs (without x y) (without x y) (λ p. In x p × (In y p → ⊥))
  without_is = record { value = refl; fits = and_lt width x (2 ^ width - 1 - y) hx (not_lt width y); members = λ p. in_difference width x y p hx hy }

module _ (x q : ℕ) (hx : x < 2 ^ width) where
  pub added_is : SetIs (added x q) (added x q) (λ p. In x p ⊎ ((p ≡ q) × (p < width)))
  added_is = at (dec_lt q width)
    where
      to : q < width → (p : ℕ) → In x p ⊎ (p ≡ q) → In x p ⊎ ((p ≡ q) × (p < width))
      to h p (inl m) = inl m
      to h p (inr e) = inr (e, omega arith)

      of : (p : ℕ) → In x p ⊎ ((p ≡ q) × (p < width)) → In x p ⊎ (p ≡ q)
      of p (inl m) = inl m
      of p (inr k) = inr k.0

      old : width ≤ q → (p : ℕ) → In x p ⊎ ((p ≡ q) × (p < width)) → In x p
      old h p (inl m) = m
      old h p (inr k) = let e = k.0 in let l = k.1 in absurd (omega arith)

      at : Dec (q < width) → SetIs (added x q) (added x q) (λ p. In x p ⊎ ((p ≡ q) × (p < width)))
      at (yes h) =
          rw (added_state x q h)
          (record {
            value = refl;
            fits = or_lt width x (2 ^ q) hx (pow-lt h);
            members = λ p. (λ m. to h p ((in_add x q p).0 m), λ k. (in_add x q p).1 (of p k));
          })
      at (no f) =
          let h : width ≤ q = omega arith in
          rw (added_other x q h) (record { value = refl; fits = hx; members = λ p. (λ m. inl m, old h p) })

  pub removed_is : SetIs (removed x q) (removed x q) (λ p. In x p × (p ≡ q → ⊥))
  removed_is = at (dec_lt q width)
    where
      at : Dec (q < width) → SetIs (removed x q) (removed x q) (λ p. In x p × (p ≡ q → ⊥))
      at (yes h) =
          rw (removed_state x q h)
          (record {
            value = refl;
            fits = and_lt width x (2 ^ width - 1 - 2 ^ q) hx (not_lt width (2 ^ q));
            members = λ p. in_remove width x q p hx h;
          })
      at (no f) =
          let h : width ≤ q = omega arith in
          rw (removed_other x q h)
          (record {
            value = refl;
            fits = hx;
            members = λ p. (λ m. (m, λ (e : p ≡ q). let l = in_lt {w = width} {x = x} {q = p} hx m in omega arith), λ k. k.0);
          })

  pub removed_size : In x q → suc (ones (removed x q)) ≡ ones x
  removed_size m =
      let h = in_lt {w = width} {x = x} {q = q} hx m in
      ap (λ n. suc (ones n)) (removed_state x q h) ∙ ones_remove width x q hx m

-- the set of one state: that state added to the empty set
pub single_is : (x q r : ℕ) → x ≡ 0 → r ≡ added x q → SetIs r (added 0 q) (λ p. (p ≡ q) × (p < width))
single_is x q r e v = moved (v ∙ ap (λ (n : ℕ). added n q) e) alone
  where
    to : (p : ℕ) → In 0 p ⊎ ((p ≡ q) × (p < width)) → (p ≡ q) × (p < width)
    to p (inl m) = absurd (empty_in p m)
    to p (inr k) = k

    alone : SetIs (added 0 q) (added 0 q) (λ p. (p ≡ q) × (p < width))
    alone = let a = added_is 0 q (omega arith) in record { value = refl; fits = a.fits; members = λ p. (λ m. to p ((a.members p).0 m), λ k. (a.members p).1 (inr k)) }

pub below_is : (n : ℕ) → SetIs (below n) (below n) (λ p. (p < n) × (p < width))
unfolding below
below_is n =
    record {
      value = refl;
      fits = let h = pow_mono {i = min n width} {j = width} (omega arith) in let k = pow_pos (min n width) in omega arith;
      members = λ p. (λ m. let l = (in_full (min n width) p).0 m in omega arith, λ k. (in_full (min n width) p).1 (let a = k.0 in let b = k.1 in omega arith));
    }

-- one state more
collected_more : (n : ℕ) (p : ℕ → Bool) → SetIs (collected n p) (collected n p) (λ q. (q < n) × (q < width) × (p q ≡ true))
    → SetIs (cond (p n) (added (collected n p) n) (collected n p)) (cond (p n) (added (collected n p) n) (collected n p)) (λ q. (q < suc n) × (q < width) × (p q ≡ true))
collected_more n p rest = at (p n) refl
  where
    more : SetIs (added (collected n p) n) (added (collected n p) n) (λ q. In (collected n p) q ⊎ ((q ≡ n) × (q < width)))
    more = added_is (collected n p) n rest.fits

    to : p n ≡ true → (q : ℕ) → In (collected n p) q ⊎ ((q ≡ n) × (q < width)) → (q < suc n) × (q < width) × (p q ≡ true)
    to t q (inl m) = let k = (rest.members q).0 m in (let z = k.0 in omega arith, k.1, k.2)
    to t q (inr k) = (let z = k.0 in omega arith, k.1, subst (λ (x : ℕ). p x ≡ true) (sym k.0) t)

    of : (q : ℕ) → (q < suc n) × (q < width) × (p q ≡ true) → Dec (q ≡ n) → In (collected n p) q ⊎ ((q ≡ n) × (q < width))
    of q k (yes e) = inr (e, k.1)
    of q k (no f) = inl ((rest.members q).1 (let z = k.0 in omega arith, k.1, k.2))

    without_it : p n ≡ false → (q : ℕ) → (q < suc n) × (q < width) × (p q ≡ true) → Dec (q ≡ n) → In (collected n p) q
    without_it t q k (yes e) = absurd (false≢true (sym (subst (λ (x : ℕ). p x ≡ false) (sym e) t) ∙ k.2))
    without_it t q k (no f) = (rest.members q).1 (let z = k.0 in omega arith, k.1, k.2)

    at : (b : Bool) → p n ≡ b → SetIs (cond b (added (collected n p) n) (collected n p)) (cond b (added (collected n p) n) (collected n p)) (λ q. (q < suc n) × (q < width) × (p q ≡ true))
    at true t = record { value = refl; fits = more.fits; members = λ q. (λ m. to t q ((more.members q).0 m), λ k. (more.members q).1 (of q k (ℕ_discrete q n))) }
    at false t =
        record {
          value = refl;
          fits = rest.fits;
          members = λ q. (λ m. let k = (rest.members q).0 m in (let z = k.0 in omega arith, k.1, k.2), λ k. without_it t q k (ℕ_discrete q n));
        }

pub collected_is : (n : ℕ) (p : ℕ → Bool) → SetIs (collected n p) (collected n p) (λ q. (q < n) × (q < width) × (p q ≡ true))
unfolding collected
collected_is zero p = record { value = refl; fits = omega arith; members = λ q. (λ m. absurd (empty_in q m), λ k. let z = k.0 in absurd (omega arith)) }
collected_is (suc n) p = collected_more n p (collected_is n p)

pub lowest_is : (x : ℕ) → x < 2 ^ width → Lowest x (count_trailing_zeros width x)
lowest_is x h =
    record {
      value = refl;
      within = trailing_le width x;
      none = λ e. ap (count_trailing_zeros width) e ∙ trailing_of_zero width;
      member = λ p. lowest_in width x p h;
      least = lowest_not width x;
    }

-- a set without its lowest member, by taking one off
pub rest_is : (x : ℕ) → x < 2 ^ width → 0 < x → SetIs (bit_and x (x - 1)) (removed x (lowest_of x)) (λ p. In x p × (p ≡ lowest_of x → ⊥))
rest_is x h p₀ =
    let r = removed_is x (lowest_of x) h in
    let same : bit_and x (x - 1) ≡ removed x (lowest_of x) =
    same_members (bit_and x (x - 1)) (removed x (lowest_of x))
    (λ p. (λ m. (r.members p).1 ((members p).0 m), λ m. (members p).1 ((r.members p).0 m))) in
    moved same r
  where
    members : (p : ℕ) → In (bit_and x (x - 1)) p ↔ (In x p × (p ≡ lowest_of x → ⊥))
    members = in_less_one x (lowest_of x) (lowest_in width x p₀ h) (lowest_not width x)

pub rest_none : (x : ℕ) → x ≡ 0 → SetIs 0 (removed x (lowest_of x)) (λ p. In x p × (p ≡ lowest_of x → ⊥))
rest_none x e =
    let h : x < 2 ^ width = omega arith in
    let l = (lowest_is x h).none e in
    moved (sym (removed_other x (lowest_of x) (omega arith) ∙ e)) (removed_is x (lowest_of x) h)

-- the same by the lowest member's name
pub lowest_removed : {x q r : ℕ} → Lowest x q → SetIs r (removed x (lowest_of x)) (λ p. In x p × (p ≡ lowest_of x → ⊥)) → SetIs r (removed x q) (λ p. In x p × (p ≡ q → ⊥))
lowest_removed {x} {q} {r} low s = rw low.value s

-- The measures of loops: what is left of a set without its lowest member is smaller; a set that a union changes comes closer to the width

pub drop_lowest : (x q r : ℕ) → x < 2 ^ width → 0 < x → Lowest x q → r ≡ removed x q → ones r < ones x
drop_lowest x q r h p low e =
    let s = removed_size x q h (low.member p) in
    let t = ap ones e in
    omega arith

pub union_grows : (x y r : ℕ) → r < 2 ^ width → r ≡ bit_or x y → (r ≡ x → ⊥) → width - ones r < width - ones x
union_grows x y r h e f = at (or_grows x y)
  where
    at : (bit_or x y ≡ x) ⊎ (ones x < ones (bit_or x y)) → width - ones r < width - ones x
    at (inl same) = absurd (f (e ∙ same))
    at (inr l) = let k = ones-le width r h in let t = ap ones e in omega arith

-- a loop over the members of a set begins with that set
pub begins_with : {s it : Members} {x : ℕ} → it ≡ s → s.rest ≡ x → it.rest ≡ x
begins_with e h = ap (λ m. m.rest) e ∙ h
