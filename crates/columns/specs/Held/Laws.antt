-- The laws of what is held after some bytes of a column.
--
-- held_start     == before the first byte Blank is held
-- held_told      == what is held after one byte more is what was held, moved on by that byte
-- held_after     == the same for the bytes of a list from place at on
-- held_says      == h is held after the bytes l exactly if Says h l
-- may_follow     == a byte breaks what is held exactly if no column begins with the bytes and that one
-- as_before      == the number at the end, no_number where there is none, is that of specs/Column.antt, for every column of every width
-- numbers_column == and of a column of at most widest_column bytes it is that number as code answers it
-- so_far_below   == the number so far has at most as many digits as there were bytes
use Rattle.std.specs.Prelude.{ℕ, zero, suc, ◌+◌, ◌*◌, ◌-◌, ◌<◌, ◌≤◌, ◌^◌, ◌≡◌, refl, ◌⊎◌, ◌↔◌, List, [], ◌∷◌, ◌++◌, Some, None, unwrap_or, Bool, true, false, cond, length, take, drop, get_or, eqb}
use Rattle.std.proofs.Common.{sym, ap, ◌∙◌, subst, inl, inr, append-nil, arith, zero-add, add-one, length-drop, take-suc, get_or-drop, eqb-true, ne_eqb}
use Rattle.std.proofs.Math.Nat.{one-le-pow, pow-le-pow_right}
use Rattle.basics.specs.Search.{all_in}
use Rattle.basics.specs.Search.Laws.{true_or_false, not_both}
use Rattle.columns.specs.Column.{widest_column, no_number, is_digit, Pass, blank, nought, digits, broken, next, pass_from, found, column_number, some_number, column_of}
use Rattle.columns.specs.Column.Laws.{pass_from_append, pass_broken, pass_spaces, pass_nought, pass_digits, spaces_passed, nought_passed, digits_passed, padded_spaces}
use Rattle.columns.specs.Held.{unpadded, value_from, held_digits, held, held_next, so_far, held_number, NoColumn, Says}
use Rattle.columns.specs.declared.Held.{Held}
use Rattle.columns.specs.declared.Held.TheVariants.{Blank, Nought, Digits, Broken}

pub held_start : held [] ≡ Blank
unfolding held unpadded held_digits
held_start = refl

-- What is held is what a pass holds

as_held : Pass → Held
as_held blank = Blank
as_held nought = Nought
as_held (digits v) = Digits v
as_held broken = Broken

choice_same : {A : Type 0} (b : Bool) (x : A) → cond b x x ≡ x
choice_same true x = refl
choice_same false x = refl

after_broken : (l : List ℕ) → as_held (pass_from broken l) ≡ Broken
unfolding as_held
after_broken l = ap as_held (pass_broken l)

after_digits : (v : ℕ) (l : List ℕ) → cond (all_in is_digit l) (Digits (value_from v l)) Broken ≡ as_held (pass_from (digits v) l)
unfolding as_held pass_from all_in value_from next
after_digits v [] = refl
after_digits v (b ∷ l) = at (true_or_false (is_digit b)) (after_digits (v * 10 + (b - 48)) l)
  where
    at : (is_digit b ≡ true) ⊎ (is_digit b ≡ false) → cond (all_in is_digit l) (Digits (value_from (v * 10 + (b - 48)) l)) Broken ≡ as_held (pass_from (digits (v * 10 + (b - 48))) l)
        → cond (all_in is_digit (b ∷ l)) (Digits (value_from v (b ∷ l))) Broken ≡ as_held (pass_from (digits v) (b ∷ l))
    at (inl t) e = simp t e
    at (inr f) e = simp f (sym (after_broken l))

-- a 0 stands alone
after_nought : (l : List ℕ) → cond (all_in is_digit l) (cond (eqb (length l) 0) Nought Broken) Broken ≡ as_held (pass_from nought l)
unfolding as_held pass_from all_in next
after_nought [] = refl
after_nought (b ∷ l) =
    ap (λ (z : Bool). cond (all_in is_digit (b ∷ l)) (cond z Nought Broken) Broken) (ne_eqb (suc (length l)) 0 (λ (e : suc (length l) ≡ 0). omega arith))
    ∙ (choice_same (all_in is_digit (b ∷ l)) Broken ∙ sym (after_broken l))

held_pass : (l : List ℕ) → held l ≡ as_held (pass_from blank l)
unfolding held unpadded held_digits as_held pass_from next all_in value_from
held_pass [] = refl
held_pass (b ∷ l) = at (true_or_false (eqb b 32)) (true_or_false (is_digit b)) (true_or_false (eqb b 48)) (held_pass l)
  where
    at : (eqb b 32 ≡ true) ⊎ (eqb b 32 ≡ false) → (is_digit b ≡ true) ⊎ (is_digit b ≡ false) → (eqb b 48 ≡ true) ⊎ (eqb b 48 ≡ false) → held l ≡ as_held (pass_from blank l) → held (b ∷ l) ≡ as_held (pass_from blank (b ∷ l))
    at (inl s) d n e = simp s e
    at (inr s) (inr d) (inl n) e = absurd (not_both (ap is_digit (eqb-true b 48 n)) d)
    at (inr s) (inr d) (inr n) e = simp (s, d, n) (sym (after_broken l))
    at (inr s) (inl d) (inl n) e = simp (s, d, n) (after_nought l)
    at (inr s) (inl d) (inr n) e = simp (s, d, n, zero-add) (after_digits (b - 48) l)

next_same : (p : Pass) (b : ℕ) → as_held (next p b) ≡ held_next (as_held p) b
unfolding as_held next held_next
next_same blank b = at (true_or_false (eqb b 32)) (true_or_false (is_digit b)) (true_or_false (eqb b 48))
  where
    at : (eqb b 32 ≡ true) ⊎ (eqb b 32 ≡ false) → (is_digit b ≡ true) ⊎ (is_digit b ≡ false) → (eqb b 48 ≡ true) ⊎ (eqb b 48 ≡ false) → as_held (next blank b) ≡ held_next Blank b
    at (inl s) d n = simp s
    at (inr s) (inr d) (inl n) = absurd (not_both (ap is_digit (eqb-true b 48 n)) d)
    at (inr s) (inr d) (inr n) = simp (s, d, n)
    at (inr s) (inl d) (inl n) = simp (s, d, n)
    at (inr s) (inl d) (inr n) = simp (s, d, n)
next_same nought b = refl
next_same (digits v) b = at (true_or_false (is_digit b))
  where
    at : (is_digit b ≡ true) ⊎ (is_digit b ≡ false) → as_held (next (digits v) b) ≡ held_next (Digits v) b
    at (inl d) = simp d
    at (inr d) = simp d
next_same broken b = refl

found_same : (p : Pass) → unwrap_or (held_number (as_held p)) no_number ≡ found p
unfolding as_held found
found_same blank = refl
found_same nought = refl
found_same (digits v) = refl
found_same broken = refl

-- One byte more

pub held_told : (l : List ℕ) (b : ℕ) → held (l ++ (b ∷ [])) ≡ held_next (held l) b
unfolding pass_from
held_told l b =
    held_pass (l ++ (b ∷ []))
    ∙ (ap as_held (pass_from_append blank l (b ∷ []))
    ∙ (next_same (pass_from blank l) b ∙ ap (λ (h : Held). held_next h b) (sym (held_pass l))))

pub held_after : (s : List ℕ) (at i : ℕ) → at + i < length s → held (take (i + 1) (drop at s)) ≡ held_next (held (take i (drop at s))) (get_or s (at + i) 0)
held_after s at i h =
    ap (λ (n : ℕ). held (take n (drop at s))) (add-one i)
    ∙ (ap held (take-suc (drop at s) i 0 (simp length-drop (omega arith)))
    ∙ (held_told (take i (drop at s)) (get_or (drop at s) i 0) ∙ ap (λ (b : ℕ). held_next (held (take i (drop at s))) b) (get_or-drop at s i 0)))

pub as_before : (l : List ℕ) → unwrap_or (held_number (held l)) no_number ≡ column_number l
unfolding column_number
as_before l = ap (λ (h : Held). unwrap_or (held_number h) no_number) (held_pass l) ∙ found_same (pass_from blank l)

-- What each held state says

not_broken : (w n : ℕ) → n < 10 ^ w → pass_from blank (column_of w n) ≡ broken → ⊥
unfolding pass_from column_of
not_broken zero n h e = let z : ◌≡◌ {A = ℕ} 0 1 = cc in omega arith
not_broken (suc w) zero h e = let q = pass_nought (suc w) (omega arith) in let z : ◌≡◌ {A = ℕ} 0 1 = cc in omega arith
not_broken (suc w) (suc n) h e = let q = pass_digits (suc w) (suc n) (omega arith) h in let z : ◌≡◌ {A = ℕ} 0 1 = cc in omega arith

-- where a pass is broken no column begins
broken_none : (l : List ℕ) → pass_from blank l ≡ broken → NoColumn l
broken_none l e w n r h c = not_broken w n h (ap (pass_from blank) c ∙ (pass_from_append blank l r ∙ (ap (λ (p : Pass). pass_from p r) e ∙ pass_broken r)))

says_pass : (p : Pass) (l : List ℕ) → pass_from blank l ≡ p → Says (as_held p) l
unfolding Says as_held pass_from next
says_pass blank l e = spaces_passed l e ∙ padded_spaces (length l)
says_pass nought l e =
    let t = nought_passed l e in
    (t.0, t.1, λ b. broken_none (l ++ (b ∷ [])) (pass_from_append blank l (b ∷ []) ∙ ap (λ (p : Pass). next p b) e))
says_pass (digits v) l e = digits_passed l v e
says_pass broken l e = broken_none l e

says_held : (l : List ℕ) → Says (held l) l
says_held l = subst (λ (h : Held). Says h l) (sym (held_pass l)) (says_pass (pass_from blank l) l refl)

some_column : (p : Pass) (l : List ℕ) → pass_from blank l ≡ p → NoColumn l → p ≡ broken
unfolding column_of
some_column blank l e c =
    absurd (c (suc (length l)) 0 (48 ∷ []) (one-le-pow (suc (length l)) 10 (omega arith)) (ap (λ (x : List ℕ). x ++ (48 ∷ [])) (sym (spaces_passed l e))))
some_column nought l e c = absurd (c (length l) 0 [] (one-le-pow (length l) 10 (omega arith)) (sym (nought_passed l e).1 ∙ sym (append-nil l)))
some_column (digits v) l e c = let t = digits_passed l v e in absurd (c (length l) v [] t.1 (sym t.2 ∙ sym (append-nil l)))
some_column broken l e c = refl

held_of : (h : Held) (l : List ℕ) → Says h l → held l ≡ h
unfolding Says as_held
held_of Blank l s = held_pass l ∙ ap as_held (ap (pass_from blank) (s ∙ sym (padded_spaces (length l))) ∙ pass_spaces (length l))
held_of Nought l s = held_pass l ∙ ap as_held (ap (pass_from blank) s.1 ∙ pass_nought (length l) s.0)
held_of (Digits v) l s = held_pass l ∙ ap as_held (ap (pass_from blank) s.2 ∙ pass_digits (length l) v s.0 s.1)
held_of Broken l s = held_pass l ∙ ap as_held (some_column (pass_from blank l) l refl s)

pub held_says : (l : List ℕ) (h : Held) → (held l ≡ h) ↔ Says h l
held_says l h = (λ (e : held l ≡ h). subst (λ (g : Held). Says g l) e (says_held l), held_of h l)

pub may_follow : (l : List ℕ) (b : ℕ) → (held_next (held l) b ≡ Broken) ↔ NoColumn (l ++ (b ∷ []))
unfolding Says
may_follow l b =
    let s = held_says (l ++ (b ∷ [])) Broken in
    (λ (e : held_next (held l) b ≡ Broken). s.0 (held_told l b ∙ e), λ (n : NoColumn (l ++ (b ∷ []))). sym (held_told l b) ∙ s.1 n)

below_pass : (p : Pass) (l : List ℕ) → pass_from blank l ≡ p → so_far (as_held p) < 10 ^ length l
unfolding so_far as_held
below_pass blank l e = one-le-pow (length l) 10 (omega arith)
below_pass nought l e = one-le-pow (length l) 10 (omega arith)
below_pass (digits v) l e = (digits_passed l v e).1
below_pass broken l e = one-le-pow (length l) 10 (omega arith)

pub so_far_below : (l : List ℕ) → so_far (held l) < 10 ^ length l
so_far_below l = rw held_pass (below_pass (pass_from blank l) l refl)

answered : (h : Held) → so_far h < no_number → held_number h ≡ some_number (unwrap_or (held_number h) no_number)
unfolding so_far some_number
answered Blank s = refl
answered Nought s = refl
answered (Digits v) s = ap (λ (b : Bool). cond b None (Some v)) (sym (ne_eqb v no_number (λ (e : v ≡ no_number). omega arith)))
answered Broken s = refl

pub numbers_column : (l : List ℕ) → length l ≤ widest_column → held_number (held l) ≡ some_number (column_number l)
numbers_column l narrow =
    let most : 10 ^ length l ≤ 10 ^ 10 = pow-le-pow_right (omega arith) narrow in
    answered (held l) (omega (arith, so_far_below l)) ∙ ap some_number (as_before l)
