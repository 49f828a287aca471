-- The laws of one column.
--
-- column_length    == a column of width w has w bytes
-- column_wider     == a number that fits the width is, in a column one wider, a space and its column
-- number_of_column == a number that fits the width, written and read, is itself
-- column_of_number == the column of the number that a column holds is that column, filled where it is blank
-- column_holds     == a column of at most widest_column bytes holds n, exactly if it is the column of n, or it is blank and n is 0
-- column_none      == it holds no number, exactly if it is neither the column of one nor blank
-- blank_column     == a column of spaces alone holds 0, whatever its width
-- none_answered, number_answered == what code's answer says of the number
-- or_no_number    == that answer, no_number where there is none, is the number
-- filled_same, filled_blank == a column that is not blank is filled already; one that is blank is filled to the column of 0
-- filled_length    == a column that is filled keeps its width
-- filled_number    == and its number
-- line_end_none    == a column that holds a number does not begin with byte 10
-- blank_iff_spaces == a blank column is a column of spaces
-- column_not_blank == the column of a number is not blank
-- pass_from_append  == a pass over two parts is a pass over the second from where the first left it
-- pass_broken      == a pass that is broken stays so
-- pass_spaces, pass_nought, pass_digits == what a pass holds after spaces, after the column of 0, after that of a number above 0
-- digit_range      == the bytes that are digits
-- spaces_passed, nought_passed, digits_passed == the way back: what the bytes are by what a pass over them holds
-- padded_spaces    == no digits are spaces alone
use Prim.Native.Nat.{ℕ, zero, suc, ◌+◌, ◌*◌, ◌-◌, ◌/◌, ◌%◌, ◌<◌, ◌≤◌, ◌^◌}
use Rattle.std.specs.Prelude.{◌≡◌, ◌⊎◌, ◌↔◌, Some, None, List, [], ◌∷◌, ◌++◌, Bool, true, false, cond, length, get_or, replicate, leb, eqb}
use Rattle.std.proofs.Math.Path.{refl, ap, subst}
use Rattle.std.proofs.Common.{unwrap_or, sym, ◌∙◌, inl, inr, append_assoc, append-nil, pow-suc, add-one, length-append, le-leb, ne_eqb, eqb-true, leb-true}
use native.Mathlib.Omega.{arith}
use Rattle.std.proofs.Math.Nat.{one-le-pow, pow-le-pow_right}
use Rattle.std.proofs.Math.Decide.{ℕ_discrete}
use Rattle.std.proofs.lemmas.List.{replicate-append-replicate}
use Rattle.std.proofs.lemmas.Bool.{eqb-false}
use Rattle.std.proofs.lemmas.Option.{none-some, same_Some}
use Rattle.basics.specs.Search.{all_in}
use Rattle.basics.specs.Search.Laws.{true_or_false, and_true, and_both_true}
use Rattle.columns.specs.Column.{widest_column, no_number, is_digit, Pass, blank, nought, digits, broken, next, pass_from, found, column_number, some_number, digit_or, padded, column_of, is_blank, filled_column}

pub pass_from_append : (p : Pass) (l r : List ℕ) → pass_from p (l ++ r) ≡ pass_from (pass_from p l) r
unfolding pass_from
pass_from_append p [] r = refl
pass_from_append p (b ∷ l) r = pass_from_append (next p b) l r

pub pass_broken : (l : List ℕ) → pass_from broken l ≡ broken
unfolding pass_from next
pass_broken [] = refl
pass_broken (b ∷ l) = pass_broken l

pub padded_length : (w q : ℕ) → length (padded w q) ≡ w
unfolding padded
padded_length zero q = refl
padded_length (suc w) q = length-append (padded w (q / 10)) (digit_or q ∷ []) ∙ (add-one _ ∙ ap suc (padded_length w (q / 10)))

pub column_length : (w n : ℕ) → length (column_of w n) ≡ w
unfolding column_of
column_length zero n = refl
column_length (suc w) n = length-append (padded w (n / 10)) ((48 + n % 10) ∷ []) ∙ (add-one _ ∙ ap suc (padded_length w (n / 10)))

padded_wider : (w q : ℕ) → q < 10 ^ w → padded (suc w) q ≡ 32 ∷ padded w q
unfolding padded digit_or
padded_wider zero q h = let z : q ≡ 0 = omega arith in ap (λ (v : ℕ). digit_or v ∷ []) z
padded_wider (suc w) q h =
    let g : q < 10 ^ w * 10 = rw pow-suc at h in
    ap (λ (l : List ℕ). l ++ (digit_or q ∷ [])) (padded_wider w (q / 10) (omega arith))

pub column_wider : (w n : ℕ) → n < 10 ^ suc w → column_of (suc (suc w)) n ≡ 32 ∷ column_of (suc w) n
unfolding column_of
column_wider w n h =
    let g : n < 10 ^ w * 10 = rw pow-suc at h in
    ap (λ (l : List ℕ). l ++ ((48 + n % 10) ∷ [])) (padded_wider w (n / 10) (omega arith))

-- Bytes

digit_is : (d : ℕ) → d < 10 → is_digit (48 + d) ≡ true
digit_is d h = and_both_true (leb 48 (48 + d)) (leb (48 + d) 57) (le-leb 48 (48 + d) (omega arith)) (le-leb (48 + d) 57 (omega arith))

digit_or_zero : digit_or 0 ≡ 32
unfolding digit_or
digit_or_zero = refl

digit_or_more : (q : ℕ) → 0 < q → digit_or q ≡ 48 + q % 10
unfolding digit_or
digit_or_more q h = ap (λ (z : Bool). cond z 32 (48 + q % 10)) (ne_eqb q 0 (λ (e : q ≡ 0). omega arith))

next_space : next blank 32 ≡ blank
unfolding next
next_space = refl

next_nought : next blank 48 ≡ nought
unfolding next
next_nought = refl

next_first : (d : ℕ) → 0 < d → d < 10 → next blank (48 + d) ≡ digits d
unfolding next
next_first d p h =
    ap (λ (z : Bool). cond z blank (cond (eqb (48 + d) 48) nought (cond (is_digit (48 + d)) (digits (48 + d - 48)) broken))) (ne_eqb (48 + d) 32 (λ (e : 48 + d ≡ 32). omega arith))
    ∙ (ap (λ (z : Bool). cond z nought (cond (is_digit (48 + d)) (digits (48 + d - 48)) broken)) (ne_eqb (48 + d) 48 (λ (e : 48 + d ≡ 48). omega arith))
    ∙ (ap (λ (z : Bool). cond z (digits (48 + d - 48)) broken) (digit_is d h)
    ∙ ap digits (omega arith)))

next_digit : (v d : ℕ) → d < 10 → next (digits v) (48 + d) ≡ digits (v * 10 + d)
unfolding next
next_digit v d h =
    ap (λ (z : Bool). cond z (digits (v * 10 + (48 + d - 48))) broken) (digit_is d h)
    ∙ ap (λ (z : ℕ). digits (v * 10 + z)) (omega arith)

-- Writing and then reading

-- what a pass holds after the digits of q: nothing but spaces where q is 0
spaces_or : ℕ → Pass
spaces_or zero = blank
spaces_or (suc v) = digits (suc v)

next_spaces : (v : ℕ) → next (spaces_or (v / 10)) (digit_or v) ≡ spaces_or v
unfolding spaces_or
next_spaces zero = ap (λ (b : ℕ). next blank b) digit_or_zero ∙ next_space
next_spaces (suc u) = at (v / 10) refl
  where
    v : ℕ
    v = suc u

    at : (t : ℕ) → v / 10 ≡ t → next (spaces_or (v / 10)) (digit_or v) ≡ digits v
    at zero e =
        ap (λ (z : ℕ). next (spaces_or z) (digit_or v)) e
        ∙ (ap (λ (b : ℕ). next blank b) (digit_or_more v (omega arith))
        ∙ (next_first (v % 10) (omega arith) (omega arith) ∙ ap digits (omega arith)))
    at (suc t) e =
        ap (λ (z : ℕ). next (spaces_or z) (digit_or v)) e
        ∙ (ap (λ (b : ℕ). next (digits (suc t)) b) (digit_or_more v (omega arith))
        ∙ (next_digit (suc t) (v % 10) (omega arith) ∙ ap digits (omega arith)))

fits_less : (w v : ℕ) → v < 10 ^ suc w → v / 10 < 10 ^ w
fits_less w v h = let g : v < 10 ^ w * 10 = rw pow-suc at h in omega arith

pass_padded : (w v : ℕ) → v < 10 ^ w → pass_from blank (padded w v) ≡ spaces_or v
unfolding padded pass_from spaces_or
pass_padded zero zero h = refl
pass_padded zero (suc v) h = absurd (omega arith)
pass_padded (suc w) v h =
    pass_from_append blank (padded w (v / 10)) (digit_or v ∷ [])
    ∙ (ap (λ (p : Pass). next p (digit_or v)) (pass_padded w (v / 10) (fits_less w v h)) ∙ next_spaces v)

-- what a pass holds after the column of n
column_pass : ℕ → Pass
column_pass zero = nought
column_pass (suc v) = digits (suc v)

next_last : (n : ℕ) → next (spaces_or (n / 10)) (48 + n % 10) ≡ column_pass n
unfolding spaces_or column_pass
next_last zero = next_nought
next_last (suc v) = ap (λ (b : ℕ). next (spaces_or (suc v / 10)) b) (sym (digit_or_more (suc v) (omega arith))) ∙ next_spaces (suc v)

pass_column : (w n : ℕ) → n < 10 ^ suc w → pass_from blank (column_of (suc w) n) ≡ column_pass n
unfolding column_of pass_from
pass_column w n h =
    pass_from_append blank (padded w (n / 10)) ((48 + n % 10) ∷ [])
    ∙ (ap (λ (p : Pass). next p (48 + n % 10)) (pass_padded w (n / 10) (fits_less w n h)) ∙ next_last n)

pub pass_spaces : (w : ℕ) → pass_from blank (padded w 0) ≡ blank
unfolding spaces_or
pass_spaces w = pass_padded w 0 (one-le-pow w 10 (omega arith))

pub pass_nought : (w : ℕ) → 0 < w → pass_from blank (column_of w 0) ≡ nought
unfolding column_pass
pass_nought zero p = absurd (omega arith)
pass_nought (suc w) p = pass_column w 0 (one-le-pow (suc w) 10 (omega arith))

pub pass_digits : (w v : ℕ) → 0 < v → v < 10 ^ w → pass_from blank (column_of w v) ≡ digits v
unfolding column_pass
pass_digits w zero p h = absurd (omega arith)
pass_digits zero (suc v) p h = absurd (omega arith)
pass_digits (suc w) (suc v) p h = pass_column w (suc v) h

found_column : (n : ℕ) → found (column_pass n) ≡ n
unfolding found column_pass
found_column zero = refl
found_column (suc v) = refl

pub number_of_column : (w n : ℕ) → n < 10 ^ suc w → column_number (column_of (suc w) n) ≡ n
unfolding column_number
number_of_column w n h = ap found (pass_column w n h) ∙ found_column n

-- Reading and then writing

-- what a pass that holds p after k bytes l says of them
unfoldable Told : Pass → ℕ → List ℕ → Type 0
Told blank k l = l ≡ padded k 0
Told nought k l = (0 < k) × (l ≡ column_of k 0)
Told (digits v) k l = (l ≡ padded k v) × (0 < v) × (v < 10 ^ k)
Told broken k l = Unit {0}

pub digit_range : (b : ℕ) → is_digit b ≡ true → (48 ≤ b) × (b ≤ 57)
digit_range b e = let s = and_true (leb 48 b) (leb b 57) e in (leb-true _ _ s.0, leb-true _ _ s.1)

padded_digit : (k v d : ℕ) → d < 10 → 0 < v * 10 + d → padded (suc k) (v * 10 + d) ≡ padded k v ++ ((48 + d) ∷ [])
unfolding padded
padded_digit k v d h p =
    ap (λ (q : ℕ). padded k q ++ (digit_or (v * 10 + d) ∷ [])) (omega arith)
    ∙ ap (λ (b : ℕ). padded k v ++ (b ∷ [])) (digit_or_more (v * 10 + d) p ∙ ap (λ (r : ℕ). 48 + r) (omega arith))

told_next : (p : Pass) (k : ℕ) (l : List ℕ) (b : ℕ) → Told p k l → Told (next p b) (suc k) (l ++ (b ∷ []))
unfolding Told next padded column_of
told_next blank k l b e = at (true_or_false (eqb b 32)) (true_or_false (eqb b 48)) (true_or_false (is_digit b))
  where
    Goal : Pass → Type 0
    Goal p = Told p (suc k) (l ++ (b ∷ []))

    first : (d : ℕ) → 0 < d → d < 10 → b ≡ 48 + d → Goal (digits d)
    first d p h q = (
      ap (λ (x : List ℕ). x ++ (b ∷ [])) e ∙ (ap (λ (c : ℕ). padded k 0 ++ (c ∷ [])) q ∙ (sym (padded_digit k 0 d h (omega arith)) ∙ ap (λ (v : ℕ). padded (suc k) v) (omega arith))),
      p,
      (let g : 0 < 10 ^ k = one-le-pow k 10 (omega arith) in rw pow-suc (omega arith)),
    )

    at : (eqb b 32 ≡ true) ⊎ (eqb b 32 ≡ false) → (eqb b 48 ≡ true) ⊎ (eqb b 48 ≡ false) → (is_digit b ≡ true) ⊎ (is_digit b ≡ false) → Goal (next blank b)
    at (inl s) n d =
        subst Goal (sym (ap (λ (c : ℕ). next blank c) (eqb-true b 32 s) ∙ next_space))
        (ap (λ (x : List ℕ). x ++ (b ∷ [])) e ∙ ap (λ (c : ℕ). padded k 0 ++ (c ∷ [])) (eqb-true b 32 s ∙ sym digit_or_zero))
    at (inr s) (inl n) d =
        subst Goal (sym (ap (λ (c : ℕ). next blank c) (eqb-true b 48 n) ∙ next_nought))
        (omega arith, ap (λ (x : List ℕ). x ++ (b ∷ [])) e ∙ ap (λ (c : ℕ). padded k 0 ++ (c ∷ [])) (eqb-true b 48 n))
    at (inr s) (inr n) (inl d) =
        let r = digit_range b d in
        let z : b ≡ 48 → ⊥ = eqb-false b 48 n in
        let q : b ≡ 48 + (b - 48) = omega arith in
        let m : 0 < b - 48 = omega arith in
        subst Goal (sym (ap (λ (c : ℕ). next blank c) q ∙ next_first (b - 48) m (omega arith))) (first (b - 48) m (omega arith) q)
    at (inr s) (inr n) (inr d) = let q : next blank b ≡ broken = simp (s, n, d) in subst Goal (sym q) tt
told_next nought k l b e = tt
told_next (digits v) k l b e = at (true_or_false (is_digit b))
  where
    Goal : Pass → Type 0
    Goal p = Told p (suc k) (l ++ (b ∷ []))

    at : (is_digit b ≡ true) ⊎ (is_digit b ≡ false) → Goal (next (digits v) b)
    at (inl d) =
        let r = digit_range b d in
        let q : b ≡ 48 + (b - 48) = omega arith in
        let p : 0 < v = e.1 in
        let f : v < 10 ^ k = e.2 in
        subst Goal (sym (ap (λ (c : ℕ). next (digits v) c) q ∙ next_digit v (b - 48) (omega arith))) (
          ap (λ (x : List ℕ). x ++ (b ∷ [])) e.0 ∙ (ap (λ (c : ℕ). padded k v ++ (c ∷ [])) q ∙ sym (padded_digit k v (b - 48) (omega arith) (omega arith))),
          omega arith,
          rw pow-suc (omega arith),
        )
    at (inr d) = subst Goal (sym (ap (λ (z : Bool). cond z (digits (v * 10 + (b - 48))) broken) d)) tt
told_next broken k l b e = tt

told_from : (p : Pass) (k : ℕ) (l r : List ℕ) → Told p k l → Told (pass_from p r) (k + length r) (l ++ r)
unfolding pass_from
told_from p k l [] h = subst (λ (x : List ℕ). Told p (k + 0) x) (sym (append-nil l)) (subst (λ (n : ℕ). Told p n l) (omega arith) h)
told_from p k l (b ∷ r) h =
    subst (λ (x : List ℕ). Told (pass_from (next p b) r) (k + suc (length r)) x) (append_assoc l (b ∷ []) r)
    (subst (λ (n : ℕ). Told (pass_from (next p b) r) n ((l ++ (b ∷ [])) ++ r)) (omega arith) (told_from (next p b) (suc k) (l ++ (b ∷ [])) r (told_next p k l b h)))

told : (l : List ℕ) → Told (pass_from blank l) (length l) l
unfolding Told padded
told l = subst (λ (n : ℕ). Told (pass_from blank l) n l) (omega arith) (told_from blank 0 [] l refl)

column_padded : (k v : ℕ) → 0 < v → v < 10 ^ k → column_of k v ≡ padded k v
unfolding column_of padded
column_padded zero v p f = absurd (omega arith)
column_padded (suc k) v p f = ap (λ (b : ℕ). padded k (v / 10) ++ (b ∷ [])) (sym (digit_or_more v p))

pub spaces_passed : (l : List ℕ) → pass_from blank l ≡ blank → l ≡ padded (length l) 0
unfolding Told
spaces_passed l e = subst (λ (p : Pass). Told p (length l) l) e (told l)

pub nought_passed : (l : List ℕ) → pass_from blank l ≡ nought → (0 < length l) × (l ≡ column_of (length l) 0)
unfolding Told
nought_passed l e = subst (λ (p : Pass). Told p (length l) l) e (told l)

pub digits_passed : (l : List ℕ) (v : ℕ) → pass_from blank l ≡ digits v → (0 < v) × (v < 10 ^ length l) × (l ≡ column_of (length l) v)
unfolding Told
digits_passed l v e =
    let t : (l ≡ padded (length l) v) × (0 < v) × (v < 10 ^ length l) = subst (λ (p : Pass). Told p (length l) l) e (told l) in
    (t.1, t.2, t.0 ∙ sym (column_padded (length l) v t.1 t.2))

-- As code answers it

pub none_answered : (n : ℕ) → None ≡ some_number n → n ≡ no_number
unfolding some_number
none_answered n e = eqb-true n no_number (cond_none (eqb n no_number) e)
  where
    cond_none : (b : Bool) → None ≡ cond b None (Some n) → b ≡ true
    cond_none true q = refl
    cond_none false q = absurd (none-some n q)

pub number_answered : (n v : ℕ) → Some v ≡ some_number n → (v ≡ n) × (v ≡ no_number → ⊥)
unfolding some_number
number_answered n v e = at (true_or_false (eqb n no_number))
  where
    at : (eqb n no_number ≡ true) ⊎ (eqb n no_number ≡ false) → (v ≡ n) × (v ≡ no_number → ⊥)
    at (inl t) = absurd (none-some v (sym (e ∙ ap (λ (b : Bool). cond b None (Some n)) t)))
    at (inr f) = let s = same_Some v n (e ∙ ap (λ (b : Bool). cond b None (Some n)) f) in (s, λ (q : v ≡ no_number). eqb-false n no_number f (sym s ∙ q))

pub or_no_number : (n : ℕ) → unwrap_or (some_number n) no_number ≡ n
unfolding some_number
or_no_number n = at (true_or_false (eqb n no_number))
  where
    at : (eqb n no_number ≡ true) ⊎ (eqb n no_number ≡ false) → unwrap_or (cond (eqb n no_number) None (Some n)) no_number ≡ n
    at (inl t) = ap (λ (b : Bool). unwrap_or (cond b None (Some n)) no_number) t ∙ sym (eqb-true n no_number t)
    at (inr f) = ap (λ (b : Bool). unwrap_or (cond b None (Some n)) no_number) f

-- Blank columns

pub padded_spaces : (k : ℕ) → padded k 0 ≡ replicate k 32
unfolding padded digit_or
padded_spaces zero = refl
padded_spaces (suc k) = ap (λ (l : List ℕ). l ++ (32 ∷ [])) (padded_spaces k) ∙ (replicate-append-replicate k 1 32 ∙ ap (λ (n : ℕ). replicate n 32) (add-one k))

blank_spaces : (l : List ℕ) → is_blank l ≡ true → l ≡ replicate (length l) 32
unfolding is_blank all_in
blank_spaces [] h = refl
blank_spaces (b ∷ l) h =
    let s = and_true (eqb b 32) (is_blank l) h in
    ap (λ (x : ℕ). x ∷ l) (eqb-true b 32 s.0) ∙ ap (λ (r : List ℕ). 32 ∷ r) (blank_spaces l s.1)

spaces_blank : (k : ℕ) → is_blank (replicate k 32) ≡ true
unfolding is_blank all_in
spaces_blank zero = refl
spaces_blank (suc k) = spaces_blank k

pub blank_iff_spaces : (l : List ℕ) → (is_blank l ≡ true) ↔ (l ≡ replicate (length l) 32)
blank_iff_spaces l = (blank_spaces l, λ (e : l ≡ replicate (length l) 32). ap is_blank e ∙ spaces_blank (length l))

pass_blank : (l : List ℕ) → is_blank l ≡ true → pass_from blank l ≡ blank
pass_blank l h = ap (pass_from blank) (blank_spaces l h ∙ sym (padded_spaces (length l))) ∙ pass_spaces (length l)

pub blank_column : (w : ℕ) → column_number (replicate w 32) ≡ 0
unfolding column_number found
blank_column w = ap found (pass_blank (replicate w 32) (spaces_blank w))

pub filled_same : (l : List ℕ) → is_blank l ≡ false → filled_column l ≡ l
unfolding filled_column
filled_same l h = ap (λ (b : Bool). cond b (column_of (length l) 0) l) h

pub filled_blank : (l : List ℕ) → is_blank l ≡ true → filled_column l ≡ column_of (length l) 0
unfolding filled_column
filled_blank l h = ap (λ (b : Bool). cond b (column_of (length l) 0) l) h

pub filled_length : (l : List ℕ) → length (filled_column l) ≡ length l
filled_length l = at (true_or_false (is_blank l))
  where
    at : (is_blank l ≡ true) ⊎ (is_blank l ≡ false) → length (filled_column l) ≡ length l
    at (inl t) = ap length (filled_blank l t) ∙ column_length (length l) 0
    at (inr f) = ap length (filled_same l f)

pub filled_number : (l : List ℕ) → column_number (filled_column l) ≡ column_number l
filled_number l = at (true_or_false (is_blank l))
  where
    zero_column : (w : ℕ) → column_number (column_of w 0) ≡ 0
    zero_column zero = unfold column_of in blank_column 0
    zero_column (suc w) = number_of_column w 0 (one-le-pow (suc w) 10 (omega arith))

    at : (is_blank l ≡ true) ⊎ (is_blank l ≡ false) → column_number (filled_column l) ≡ column_number l
    at (inl t) = ap column_number (filled_blank l t) ∙ (zero_column (length l) ∙ sym (ap column_number (blank_spaces l t) ∙ blank_column (length l)))
    at (inr f) = ap column_number (filled_same l f)

pub line_end_none : (l : List ℕ) → (column_number l ≡ no_number → ⊥) → get_or l 0 0 ≡ 10 → ⊥
unfolding column_number pass_from next found
line_end_none [] n e = omega arith
line_end_none (b ∷ l) n e = n (ap (λ (z : ℕ). column_number (z ∷ l)) e ∙ ap found (pass_broken l))

-- a pass that holds something else than spaces
not_blank : (l : List ℕ) (p : Pass) → pass_from blank l ≡ p → (p ≡ blank → ⊥) → is_blank l ≡ false
not_blank l p e n = at (true_or_false (is_blank l))
  where
    at : (is_blank l ≡ true) ⊎ (is_blank l ≡ false) → is_blank l ≡ false
    at (inl t) = absurd (n (sym e ∙ pass_blank l t))
    at (inr f) = f

nought_not_blank : nought ≡ blank → ⊥
nought_not_blank e = let z : ◌≡◌ {A = ℕ} 0 1 = cc in omega arith

digits_not_blank : (v : ℕ) → digits v ≡ blank → ⊥
digits_not_blank v e = let z : ◌≡◌ {A = ℕ} 0 1 = cc in omega arith

pub column_not_blank : (w n : ℕ) → n < 10 ^ suc w → is_blank (column_of (suc w) n) ≡ false
unfolding column_pass
column_not_blank w zero h = not_blank (column_of (suc w) 0) nought (pass_column w 0 h) nought_not_blank
column_not_blank w (suc n) h = not_blank (column_of (suc w) (suc n)) (digits (suc n)) (pass_column w (suc n) h) (digits_not_blank (suc n))

-- a pass that found a number
column_found : (p : Pass) (l : List ℕ) → pass_from blank l ≡ p → (found p ≡ no_number → ⊥) → column_of (length l) (found p) ≡ filled_column l
unfolding found
column_found blank l e n =
    sym (filled_blank l ((blank_iff_spaces l).1 (spaces_passed l e ∙ padded_spaces (length l))))
column_found nought l e n = sym (nought_passed l e).1 ∙ sym (filled_same l (not_blank l nought e nought_not_blank))
column_found (digits v) l e n = sym (digits_passed l v e).2 ∙ sym (filled_same l (not_blank l (digits v) e (digits_not_blank v)))
column_found broken l e n = absurd (n refl)

pub column_of_number : (l : List ℕ) → (column_number l ≡ no_number → ⊥) → column_of (length l) (column_number l) ≡ filled_column l
unfolding column_number
column_of_number l n = column_found (pass_from blank l) l refl n

-- What a column holds

number_below : (p : Pass) (l : List ℕ) → pass_from blank l ≡ p → (found p ≡ no_number → ⊥) → found p < 10 ^ length l
unfolding found
number_below blank l e n = one-le-pow (length l) 10 (omega arith)
number_below nought l e n = one-le-pow (length l) 10 (omega arith)
number_below (digits v) l e n = (digits_passed l v e).1
number_below broken l e n = absurd (n refl)

-- a column of w bytes
module _ (l : List ℕ) (w : ℕ) (wide : length l ≡ w) (narrow : w ≤ widest_column) where
  small : (n : ℕ) → n < 10 ^ w → n ≡ no_number → ⊥
  small n fits e = let m : 10 ^ w ≤ 10 ^ 10 = pow-le-pow_right (omega arith) narrow in omega arith

  spaces_zero : l ≡ replicate w 32 → column_number l ≡ 0
  spaces_zero b = ap column_number b ∙ blank_column w

  holds : (n : ℕ) → n < 10 ^ w → column_number l ≡ n → (l ≡ column_of w n) ⊎ ((l ≡ replicate w 32) × (n ≡ 0))
  holds n fits e = at (true_or_false (is_blank l))
    where
      at : (is_blank l ≡ true) ⊎ (is_blank l ≡ false) → (l ≡ column_of w n) ⊎ ((l ≡ replicate w 32) × (n ≡ 0))
      at (inl t) = let b = blank_spaces l t ∙ ap (λ (k : ℕ). replicate k 32) wide in inr (b, sym e ∙ spaces_zero b)
      at (inr f) =
          inl (sym (filled_same l f)
          ∙ (sym (column_of_number l (λ (z : column_number l ≡ no_number). small n fits (sym e ∙ z))) ∙ (ap (column_of (length l)) e ∙ ap (λ (k : ℕ). column_of k n) wide)))

  written : (k n : ℕ) → w ≡ k → n < 10 ^ k → l ≡ column_of k n → column_number l ≡ n
  unfolding column_of
  written zero n z fits e = let q : 0 ≡ n = omega arith in ap column_number e ∙ (blank_column 0 ∙ q)
  written (suc k) n z fits e = ap column_number e ∙ number_of_column k n fits

  pub column_holds : (n : ℕ) → n < 10 ^ w → (column_number l ≡ n) ↔ ((l ≡ column_of w n) ⊎ ((l ≡ replicate w 32) × (n ≡ 0)))
  column_holds n fits = (holds n fits, by)
    where
      by : (l ≡ column_of w n) ⊎ ((l ≡ replicate w 32) × (n ≡ 0)) → column_number l ≡ n
      by (inl e) = written w n refl fits e
      by (inr b) = spaces_zero b.0 ∙ sym b.1

  pub column_none : (column_number l ≡ no_number) ↔ (((n : ℕ) → n < 10 ^ w → l ≡ column_of w n → ⊥) × (l ≡ replicate w 32 → ⊥))
  column_none = (
    λ (e : column_number l ≡ no_number). (
      λ n fits c. small n fits (sym (written w n refl fits c) ∙ e),
      λ (b : l ≡ replicate w 32). let z : 0 ≡ no_number = sym (spaces_zero b) ∙ e in omega arith,
    ),
    none (ℕ_discrete (column_number l) no_number),
  )
    where
      none : Dec (column_number l ≡ no_number) → ((n : ℕ) → n < 10 ^ w → l ≡ column_of w n → ⊥) × (l ≡ replicate w 32 → ⊥) → column_number l ≡ no_number
      none (yes e) h = e
      none (no d) h = absurd (by (holds (column_number l) fits refl))
        where
          fits : column_number l < 10 ^ w
          fits = unfold column_number in subst (λ (k : ℕ). found (pass_from blank l) < 10 ^ k) wide (number_below (pass_from blank l) l refl d)

          by : (l ≡ column_of w (column_number l)) ⊎ ((l ≡ replicate w 32) × (column_number l ≡ 0)) → ⊥
          by (inl c) = h.0 (column_number l) fits c
          by (inr b) = h.1 b.0
