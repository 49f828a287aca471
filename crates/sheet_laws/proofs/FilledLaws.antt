-- The laws of filled sheets, for byte strings of every length.
--
-- filled_end     == a line end stays
-- filled_part    == a column is filled
-- filled_size    == a sheet that is filled keeps its length
-- filled_again   == filled once more it stays as it is
-- same_iff       == a sheet that is filled stays as it is, exactly if no column of it is blank
-- column_left    == what begins with the column of a number, once it is filled, begins with a column that holds this number
-- end_left       == what begins with a line end, once it is filled, begins with a line end
use Rattle.std.specs.Prelude.{ℕ, suc, ◌<◌, ◌≤◌, ◌≡◌, ◌⊎◌, ◌↔◌, Bool, true, false, cond, ◌||◌, length, take, drop, eqb}
use Rattle.std.proofs.Math.Path.{refl, sym, ap}
use Rattle.std.proofs.Common.{◌∙◌, inl, inr, arith, length-append, take_at, drop_at, eqb-true, ne_eqb}
use mathlib.Core.List.{List, [], ◌∷◌, ◌++◌, append-nil}
use Rattle.std.proofs.Math.ListN.{get_or, get_or-append, take-append-drop}
use Rattle.std.proofs.Math.Seq.{length-take-le}
use Rattle.std.proofs.lemmas.Bool.{eqb-false}
use Rattle.basics.specs.Search.Laws.{true_or_false, not_both, or_false, or_both_false}
use Rattle.columns.specs.Column.{column_number, column_of, digit_or, padded, is_blank, filled_column}
use Rattle.columns.specs.Column.Laws.{column_length, number_of_column, column_not_blank, filled_same, filled_blank, filled_length, filled_number, line_end_none}
use Rattle.sheet_laws.specs.Filled.{filled, has_blank}

pub filled_end : (s : List ℕ) → filled (10 ∷ s) ≡ 10 ∷ filled s
unfolding filled
filled_end [] = refl
filled_end (a ∷ []) = refl
filled_end (a ∷ b ∷ []) = refl
filled_end (a ∷ b ∷ c ∷ []) = refl
filled_end (a ∷ b ∷ c ∷ d ∷ s) = refl

-- five bytes that do not begin with a line end
five_filled : (a b c d e : ℕ) (s : List ℕ) → eqb a 10 ≡ false → filled (a ∷ b ∷ c ∷ d ∷ e ∷ s) ≡ filled_column (a ∷ b ∷ c ∷ d ∷ e ∷ []) ++ filled s
unfolding filled
five_filled a b c d e s f =
    ap (λ (z : Bool). cond z (a ∷ filled (b ∷ c ∷ d ∷ e ∷ s)) (filled_column (a ∷ b ∷ c ∷ d ∷ e ∷ []) ++ filled s)) f

pub filled_part : (l s : List ℕ) → length l ≡ 5 → (get_or l 0 0 ≡ 10 → ⊥) → filled (l ++ s) ≡ filled_column l ++ filled s
filled_part [] s h n = absurd (omega arith)
filled_part (a ∷ []) s h n = absurd (omega arith)
filled_part (a ∷ b ∷ []) s h n = absurd (omega arith)
filled_part (a ∷ b ∷ c ∷ []) s h n = absurd (omega arith)
filled_part (a ∷ b ∷ c ∷ d ∷ []) s h n = absurd (omega arith)
filled_part (a ∷ b ∷ c ∷ d ∷ e ∷ []) s h n = five_filled a b c d e s (ne_eqb a 10 n)
filled_part (a ∷ b ∷ c ∷ d ∷ e ∷ f ∷ l) s h n = absurd (omega arith)

pub filled_size : (s : List ℕ) → length (filled s) ≡ length s
unfolding filled
filled_size [] = refl
filled_size (a ∷ []) = refl
filled_size (a ∷ b ∷ []) = refl
filled_size (a ∷ b ∷ c ∷ []) = refl
filled_size (a ∷ b ∷ c ∷ d ∷ []) = refl
filled_size (a ∷ b ∷ c ∷ d ∷ e ∷ s) = at (true_or_false (eqb a 10)) (filled_size (b ∷ c ∷ d ∷ e ∷ s)) (filled_size s)
  where
    at : (eqb a 10 ≡ true) ⊎ (eqb a 10 ≡ false) → length (filled (b ∷ c ∷ d ∷ e ∷ s)) ≡ length (b ∷ c ∷ d ∷ e ∷ s) → length (filled s) ≡ length s
        → length (filled (a ∷ b ∷ c ∷ d ∷ e ∷ s)) ≡ length (a ∷ b ∷ c ∷ d ∷ e ∷ s)
    at (inl t) g h =
        ap length (ap (λ (x : ℕ). filled (x ∷ b ∷ c ∷ d ∷ e ∷ s)) (eqb-true a 10 t) ∙ filled_end (b ∷ c ∷ d ∷ e ∷ s)) ∙ ap (λ (n : ℕ). suc n) g
    at (inr f) g h =
        let w = filled_length (a ∷ b ∷ c ∷ d ∷ e ∷ []) in
        ap length (five_filled a b c d e s f) ∙ omega (arith, length-append (filled_column (a ∷ b ∷ c ∷ d ∷ e ∷ [])) (filled s))

-- Two lists of a column and more that are equal

module _ (l k s t : List ℕ) (five : length l ≡ 5) (as_wide : length k ≡ 5) (e : l ++ s ≡ k ++ t) where
  same_column : l ≡ k
  same_column = sym (take_at l s 5 five) ∙ (ap (take 5) e ∙ take_at k t 5 as_wide)

  same_rest : s ≡ t
  same_rest = sym (drop_at l s 5 five) ∙ (ap (drop 5) e ∙ drop_at k t 5 as_wide)

-- Blank or not

blank_five : (l : List ℕ) → length l ≡ 5 → is_blank l ≡ true → filled_column l ≡ column_of 5 0
blank_five l five t = filled_blank l t ∙ ap (λ (w : ℕ). column_of w 0) five

blank_changes : (l : List ℕ) → length l ≡ 5 → is_blank l ≡ true → filled_column l ≡ l → ⊥
blank_changes l five t e = not_both t (ap is_blank (sym e ∙ blank_five l five t) ∙ column_not_blank 4 0 (omega arith))

same_none : (s : List ℕ) → filled s ≡ s → has_blank s ≡ false
unfolding has_blank
same_none [] h = refl
same_none (a ∷ []) h = refl
same_none (a ∷ b ∷ []) h = refl
same_none (a ∷ b ∷ c ∷ []) h = refl
same_none (a ∷ b ∷ c ∷ d ∷ []) h = refl
same_none (a ∷ b ∷ c ∷ d ∷ e ∷ s) h = at (true_or_false (eqb a 10)) (same_none (b ∷ c ∷ d ∷ e ∷ s)) (same_none s)
  where
    l : List ℕ
    l = a ∷ b ∷ c ∷ d ∷ e ∷ []

    none : (is_blank l ≡ true) ⊎ (is_blank l ≡ false) → filled_column l ≡ l → is_blank l ≡ false
    none (inl t) g = absurd (blank_changes l refl t g)
    none (inr f) g = f

    at : (eqb a 10 ≡ true) ⊎ (eqb a 10 ≡ false) → (filled (b ∷ c ∷ d ∷ e ∷ s) ≡ b ∷ c ∷ d ∷ e ∷ s → has_blank (b ∷ c ∷ d ∷ e ∷ s) ≡ false)
        → (filled s ≡ s → has_blank s ≡ false)
        → cond (eqb a 10) (has_blank (b ∷ c ∷ d ∷ e ∷ s)) (is_blank l || has_blank s) ≡ false
    at (inl t) more rest =
        let q : filled (a ∷ b ∷ c ∷ d ∷ e ∷ s) ≡ 10 ∷ filled (b ∷ c ∷ d ∷ e ∷ s) = ap (λ (x : ℕ). filled (x ∷ b ∷ c ∷ d ∷ e ∷ s)) (eqb-true a 10 t) ∙ filled_end (b ∷ c ∷ d ∷ e ∷ s) in
        ap (λ (z : Bool). cond z (has_blank (b ∷ c ∷ d ∷ e ∷ s)) (is_blank l || has_blank s)) t
        ∙ more (ap (drop 1) (sym q ∙ h))
    at (inr f) more rest =
        let q : filled_column l ++ filled s ≡ l ++ s = sym (five_filled a b c d e s f) ∙ h in
        ap (λ (z : Bool). cond z (has_blank (b ∷ c ∷ d ∷ e ∷ s)) (is_blank l || has_blank s)) f
        ∙ or_both_false (is_blank l) (has_blank s)
        (none (true_or_false (is_blank l)) (same_column (filled_column l) l (filled s) s (filled_length l) refl q))
        (rest (same_rest (filled_column l) l (filled s) s (filled_length l) refl q))

none_same : (s : List ℕ) → has_blank s ≡ false → filled s ≡ s
unfolding has_blank filled
none_same [] h = refl
none_same (a ∷ []) h = refl
none_same (a ∷ b ∷ []) h = refl
none_same (a ∷ b ∷ c ∷ []) h = refl
none_same (a ∷ b ∷ c ∷ d ∷ []) h = refl
none_same (a ∷ b ∷ c ∷ d ∷ e ∷ s) h = at (true_or_false (eqb a 10)) (none_same (b ∷ c ∷ d ∷ e ∷ s)) (none_same s)
  where
    l : List ℕ
    l = a ∷ b ∷ c ∷ d ∷ e ∷ []

    at : (eqb a 10 ≡ true) ⊎ (eqb a 10 ≡ false) → (has_blank (b ∷ c ∷ d ∷ e ∷ s) ≡ false → filled (b ∷ c ∷ d ∷ e ∷ s) ≡ b ∷ c ∷ d ∷ e ∷ s)
        → (has_blank s ≡ false → filled s ≡ s)
        → filled (a ∷ b ∷ c ∷ d ∷ e ∷ s) ≡ a ∷ b ∷ c ∷ d ∷ e ∷ s
    at (inl t) more rest =
        ap (λ (z : Bool). cond z (a ∷ filled (b ∷ c ∷ d ∷ e ∷ s)) (filled_column l ++ filled s)) t
        ∙ ap (λ (x : List ℕ). a ∷ x) (more (sym (ap (λ (z : Bool). cond z (has_blank (b ∷ c ∷ d ∷ e ∷ s)) (is_blank l || has_blank s)) t) ∙ h))
    at (inr f) more rest =
        let n = or_false (is_blank l) (has_blank s) (sym (ap (λ (z : Bool). cond z (has_blank (b ∷ c ∷ d ∷ e ∷ s)) (is_blank l || has_blank s)) f) ∙ h) in
        five_filled a b c d e s f ∙ (ap (λ (x : List ℕ). x ++ filled s) (filled_same l n.0) ∙ ap (λ (x : List ℕ). l ++ x) (rest n.1))

pub same_iff : (s : List ℕ) → (filled s ≡ s) ↔ (has_blank s ≡ false)
same_iff s = (same_none s, none_same s)

-- From what is filled back

begins_end : (x : List ℕ) → get_or x 0 0 ≡ 10 → get_or (filled x) 0 0 ≡ 10
begins_end [] e = absurd (omega arith)
begins_end (a ∷ x) e = ap (λ (z : ℕ). get_or (filled (z ∷ x)) 0 0) e ∙ ap (λ (l : List ℕ). get_or l 0 0) (filled_end x)

begins_column : (a : ℕ) (x : List ℕ) → eqb a 10 ≡ false → get_or (filled (a ∷ x)) 0 0 ≡ 10 → ⊥
unfolding filled
begins_column a [] f e = eqb-false a 10 f e
begins_column a (b ∷ []) f e = eqb-false a 10 f e
begins_column a (b ∷ c ∷ []) f e = eqb-false a 10 f e
begins_column a (b ∷ c ∷ d ∷ []) f e = eqb-false a 10 f e
begins_column a (b ∷ c ∷ d ∷ g ∷ s) f e = at (true_or_false (is_blank l))
  where
    l : List ℕ
    l = a ∷ b ∷ c ∷ d ∷ g ∷ []

    first : get_or (filled_column l ++ filled s) 0 0 ≡ 10
    first = ap (λ (x : List ℕ). get_or x 0 0) (sym (five_filled a b c d g s f)) ∙ e

    spaces : is_blank l ≡ true → get_or (filled_column l ++ filled s) 0 0 ≡ 32
    spaces t = unfold column_of padded digit_or in ap (λ (x : List ℕ). get_or (x ++ filled s) 0 0) (blank_five l refl t)

    at : (is_blank l ≡ true) ⊎ (is_blank l ≡ false) → ⊥
    at (inl t) = let z = sym (spaces t) ∙ first in omega arith
    at (inr n) = eqb-false a 10 f (sym (ap (λ (x : List ℕ). get_or (x ++ filled s) 0 0) (filled_same l n)) ∙ first)

column_again : (l : List ℕ) → length l ≡ 5 → filled_column (filled_column l) ≡ filled_column l
column_again l five = at (true_or_false (is_blank l))
  where
    at : (is_blank l ≡ true) ⊎ (is_blank l ≡ false) → filled_column (filled_column l) ≡ filled_column l
    at (inl t) = filled_same (filled_column l) (ap is_blank (blank_five l five t) ∙ column_not_blank 4 0 (omega arith))
    at (inr f) = ap filled_column (filled_same l f)

pub filled_again : (s : List ℕ) → filled (filled s) ≡ filled s
unfolding filled
filled_again [] = refl
filled_again (a ∷ []) = refl
filled_again (a ∷ b ∷ []) = refl
filled_again (a ∷ b ∷ c ∷ []) = refl
filled_again (a ∷ b ∷ c ∷ d ∷ []) = refl
filled_again (a ∷ b ∷ c ∷ d ∷ e ∷ s) = at (true_or_false (eqb a 10)) (filled_again (b ∷ c ∷ d ∷ e ∷ s)) (filled_again s)
  where
    l : List ℕ
    l = a ∷ b ∷ c ∷ d ∷ e ∷ []

    rest : List ℕ
    rest = b ∷ c ∷ d ∷ e ∷ s

    at : (eqb a 10 ≡ true) ⊎ (eqb a 10 ≡ false) → filled (filled rest) ≡ filled rest → filled (filled s) ≡ filled s → filled (filled (a ∷ rest)) ≡ filled (a ∷ rest)
    at (inl t) g h =
        let q : filled (a ∷ rest) ≡ 10 ∷ filled rest = ap (λ (x : ℕ). filled (x ∷ rest)) (eqb-true a 10 t) ∙ filled_end rest in
        ap filled q ∙ (filled_end (filled rest) ∙ (ap (λ (x : List ℕ). 10 ∷ x) g ∙ sym q))
    at (inr f) g h =
        let q : filled (a ∷ rest) ≡ filled_column l ++ filled s = five_filled a b c d e s f in
        let column : get_or (filled_column l) 0 0 ≡ 10 → ⊥ = λ z. begins_column a (b ∷ c ∷ d ∷ e ∷ []) f (ap (λ (x : List ℕ). get_or x 0 0) (five_filled a b c d e [] f ∙ append-nil (filled_column l)) ∙ z) in
        ap filled q
        ∙ (filled_part (filled_column l) (filled s) (filled_length l) column
        ∙ (ap (λ (x : List ℕ). x ++ filled (filled s)) (column_again l refl) ∙ (ap (λ (x : List ℕ). filled_column l ++ x) h ∙ sym q)))

module _ (x rest : List ℕ) (n : ℕ) (fits : n < 100000) (e : filled x ≡ column_of 5 n ++ rest) where
  column_there : 5 ≤ length x
  column_there =
      let a = filled_size x in
      let b = ap length e in
      let c = column_length 5 n in
      omega (arith, length-append (column_of 5 n) rest)

  l : List ℕ
  l = take 5 x

  s : List ℕ
  s = drop 5 x

  five : length l ≡ 5
  unfolding l
  five = length-take-le 5 x column_there

  apart : l ++ s ≡ x
  unfolding l s
  apart = take-append-drop 5 x

  no_end : get_or l 0 0 ≡ 10 → ⊥
  no_end z =
      let begins : get_or x 0 0 ≡ 10 = ap (λ (y : List ℕ). get_or y 0 0) (sym apart) ∙ (get_or-append l s 0 0 (let h = five in omega arith) ∙ z) in
      let w = column_length 5 n in
      line_end_none (column_of 5 n) (λ q. let m = number_of_column 4 n fits in omega arith)
      (sym (get_or-append (column_of 5 n) rest 0 0 (omega arith)) ∙ (ap (λ (y : List ℕ). get_or y 0 0) (sym e) ∙ begins_end x begins))

  joined : filled_column l ++ filled s ≡ column_of 5 n ++ rest
  joined = sym (filled_part l s five no_end) ∙ (ap filled apart ∙ e)

  pub column_left : (column_number (take 5 x) ≡ n) × (filled (drop 5 x) ≡ rest) × (5 ≤ length x)
  unfolding l s
  column_left = (
    sym (filled_number l) ∙ (ap column_number (same_column (filled_column l) (column_of 5 n) (filled s) rest (filled_length l ∙ five) (column_length 5 n) joined) ∙ number_of_column 4 n fits),
    same_rest (filled_column l) (column_of 5 n) (filled s) rest (filled_length l ∙ five) (column_length 5 n) joined,
    column_there,
  )

pub end_left : (x rest : List ℕ) → filled x ≡ 10 ∷ rest → (get_or x 0 0 ≡ 10) × (filled (drop 1 x) ≡ rest) × (1 ≤ length x)
unfolding filled
end_left [] rest e = let z = ap length e in absurd (omega arith)
end_left (a ∷ x) rest e = at (true_or_false (eqb a 10))
  where
    at : (eqb a 10 ≡ true) ⊎ (eqb a 10 ≡ false) → (a ≡ 10) × (filled x ≡ rest) × (1 ≤ length (a ∷ x))
    at (inl t) =
        let z : a ≡ 10 = eqb-true a 10 t in
        (z, ap (drop 1) (sym (ap (λ (y : ℕ). filled (y ∷ x)) z ∙ filled_end x) ∙ e), omega arith)
    at (inr f) = absurd (begins_column a x f (ap (λ (y : List ℕ). get_or y 0 0) e))
