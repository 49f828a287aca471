-- Lines as parts of a sheet whose blank columns are filled.
--
-- line_number      == the numbers that are read in a line are those that stand there once it is filled
-- line_end         == the end of such a line, and what is behind it
-- line_good        == such a line has no fault
-- line_filled      == a line without fault is, once it is filled, the line of its numbers
-- line_kept        == the line of numbers has nothing to fill
-- each_kept        == the same for lines that come one after the other
-- each_from        == what is one line and then the rest, line after line
-- three_part       == three elements of a list, as a part of it
-- each_get_d        == the elements of a list, one by one
-- all_zero         == a list of zeros
use Rattle.std.specs.Prelude.{ℕ, zero, suc, ◌+◌, ◌*◌, ◌<◌, ◌≤◌, ◌≡◌, refl, List, [], ◌∷◌, ◌++◌, length, take, drop, get_or, replicate}
use Rattle.std.proofs.Common.{sym, ap, ◌∙◌, append_assoc, mul-suc, add-one, length-drop, take-append-drop, drop-drop, get_or-drop, length-take-le, drop-cons, take-suc}
use Rattle.std.proofs.Math.Path.{subst}
use native.Mathlib.Omega.{arith}
use Rattle.std.proofs.Math.Numerals.{add-two}
use Rattle.columns.specs.Column.{column_number, column_of, no_number, filled_column}
use Rattle.columns.specs.Column.Laws.{column_length, number_of_column, column_of_number, column_not_blank, filled_same, line_end_none}
use Rattle.basics.specs.Each.{each_below}
use Rattle.columns.specs.Line.{line_of}
use Rattle.sheet.specs.Reading.{column_at}
use Rattle.sheet.specs.Reading.Laws.{GoodLine}
use Rattle.sheet_laws.specs.Filled.{filled}
use Rattle.sheet_laws.proofs.FilledLaws.{filled_end, filled_part, column_left, end_left}

-- From what is filled to what is read

-- the first column of a line, and the bytes after it
first_column : (ns s tail : List ℕ) (i n : ℕ) → n < 100000 → filled (drop i s) ≡ line_of 5 (n ∷ ns) ++ tail
    → (column_at s i ≡ n) × (filled (drop (i + 5) s) ≡ line_of 5 ns ++ tail)
unfolding line_of column_at
first_column ns s tail i n f e =
    let c = column_left (drop i s) (line_of 5 ns ++ tail) n f (e ∙ append_assoc (column_of 5 n) (line_of 5 ns) tail) in
    (c.0, ap filled (sym (drop-drop 5 i s)) ∙ c.1)

pub line_number : (ns s tail : List ℕ) (i : ℕ) → filled (drop i s) ≡ line_of 5 ns ++ tail → ((c : ℕ) → c < length ns → get_or ns c 0 < 100000)
    → (c : ℕ) → c < length ns → column_at s (i + c * 5) ≡ get_or ns c 0
line_number [] s tail i e f c l = absurd (omega arith)
line_number (n ∷ ns) s tail i e f zero l =
    let z : i + 0 * 5 ≡ i = omega arith in
    ap (λ (k : ℕ). column_at s k) z ∙ (first_column ns s tail i n (f 0 (omega arith)) e).0
line_number (n ∷ ns) s tail i e f (suc c) l =
    let z : i + suc c * 5 ≡ i + 5 + c * 5 = omega arith in
    ap (λ (k : ℕ). column_at s k) z
    ∙ line_number ns s tail (i + 5) (first_column ns s tail i n (f 0 (omega arith)) e).1 (λ d m. f (suc d) (omega arith)) c (omega arith)

pub line_end : (ns s tail : List ℕ) (i : ℕ) → filled (drop i s) ≡ line_of 5 ns ++ tail → ((c : ℕ) → c < length ns → get_or ns c 0 < 100000)
    → (get_or s (i + length ns * 5) 0 ≡ 10) × (filled (drop (i + length ns * 5 + 1) s) ≡ tail) × (i + length ns * 5 + 1 ≤ length s)
unfolding line_of
line_end [] s tail i e f =
    let x = end_left (drop i s) tail e in
    let z : i + 0 * 5 + 1 ≡ i + 1 = omega arith in (
      sym (get_or-drop i s 0 0) ∙ x.0,
      ap (λ (k : ℕ). filled (drop k s)) z ∙ (ap filled (sym (drop-drop 1 i s)) ∙ x.1),
      (let l = x.2 in let g = length-drop i s in omega arith),
    )
line_end (n ∷ ns) s tail i e f =
    let z : i + 5 + length ns * 5 ≡ i + suc (length ns) * 5 = omega arith in
    subst (λ (k : ℕ). (get_or s k 0 ≡ 10) × (filled (drop (k + 1) s) ≡ tail) × (k + 1 ≤ length s)) z
    (line_end ns s tail (i + 5) (first_column ns s tail i n (f 0 (omega arith)) e).1 (λ d m. f (suc d) (omega arith)))

pub line_good : (ns s tail : List ℕ) (i : ℕ) → filled (drop i s) ≡ line_of 5 ns ++ tail → ((c : ℕ) → c < length ns → get_or ns c 0 < 100000) → GoodLine s (length ns) i
line_good ns s tail i e f =
    let x = line_end ns s tail i e f in
    record {
      long = x.2;
      numbers = λ c l q. let a = line_number ns s tail i e f c l in let b = f c l in omega arith;
      ends = x.0;
    }

-- From what is read to what is filled

pub line_filled : (ns s : List ℕ) (i : ℕ) → i + length ns * 5 + 1 ≤ length s
    → ((c : ℕ) → c < length ns → (column_at s (i + c * 5) ≡ get_or ns c 0) × (column_at s (i + c * 5) ≡ no_number → ⊥))
    → get_or s (i + length ns * 5) 0 ≡ 10 → filled (drop i s) ≡ line_of 5 ns ++ filled (drop (i + length ns * 5 + 1) s)
unfolding line_of
line_filled [] s i l f e =
    let z : i + 0 * 5 ≡ i = omega arith in
    let w : suc i ≡ i + 0 * 5 + 1 = omega arith in
    ap filled (drop-cons s i 0 (omega arith))
    ∙ (ap (λ (b : ℕ). filled (b ∷ drop (suc i) s)) (ap (λ (k : ℕ). get_or s k 0) (sym z) ∙ e)
    ∙ (filled_end (drop (suc i) s) ∙ ap (λ (k : ℕ). 10 ∷ filled (drop k s)) w))
line_filled (n ∷ ns) s i l f e =
    ap filled (sym apart)
    ∙ (filled_part part (drop (i + 5) s) five (line_end_none part here.1)
    ∙ (ap (λ (x : List ℕ). x ++ filled (drop (i + 5) s)) first
    ∙ (ap (λ (x : List ℕ). column_of 5 n ++ x) (line_filled ns s (i + 5) (omega arith) rest ending ∙ ap (λ (k : ℕ). line_of 5 ns ++ filled (drop k s)) all)
    ∙ sym (append_assoc (column_of 5 n) (line_of 5 ns) (filled (drop (i + suc (length ns) * 5 + 1) s))))))
  where
    part : List ℕ
    part = take 5 (drop i s)

    five : length part ≡ 5
    five = length-take-le 5 (drop i s) (let h = length-drop i s in omega arith)

    apart : part ++ drop (i + 5) s ≡ drop i s
    apart = ap (λ (x : List ℕ). part ++ x) (sym (drop-drop 5 i s)) ∙ take-append-drop 5 (drop i s)

    here : (column_number part ≡ n) × (column_number part ≡ no_number → ⊥)
    here = unfold column_at in subst (λ (k : ℕ). (column_at s k ≡ n) × (column_at s k ≡ no_number → ⊥)) zero_off (f 0 (omega arith))
      where
        zero_off : i + 0 * 5 ≡ i
        zero_off = omega arith

    first : filled_column part ≡ column_of 5 n
    first =
        sym (column_of_number part here.1)
        ∙ (ap (λ (k : ℕ). column_of k (column_number part)) five ∙ ap (λ (v : ℕ). column_of 5 v) here.0)

    rest : (c : ℕ) → c < length ns → (column_at s (i + 5 + c * 5) ≡ get_or ns c 0) × (column_at s (i + 5 + c * 5) ≡ no_number → ⊥)
    rest c m =
        let z : i + suc c * 5 ≡ i + 5 + c * 5 = omega arith in
        subst (λ (k : ℕ). (column_at s k ≡ get_or ns c 0) × (column_at s k ≡ no_number → ⊥)) z (f (suc c) (omega arith))

    ending : get_or s (i + 5 + length ns * 5) 0 ≡ 10
    ending = let z : i + 5 + length ns * 5 ≡ i + suc (length ns) * 5 = omega arith in ap (λ (k : ℕ). get_or s k 0) z ∙ e

    all : i + 5 + length ns * 5 + 1 ≡ i + suc (length ns) * 5 + 1
    all = omega arith

-- What is written

pub line_kept : (ns tail : List ℕ) → ((c : ℕ) → c < length ns → get_or ns c 0 < 100000) → filled (line_of 5 ns ++ tail) ≡ line_of 5 ns ++ filled tail
unfolding line_of
line_kept [] tail f = filled_end tail
line_kept (n ∷ ns) tail f =
    let fits : n < 100000 = f 0 (omega arith) in
    let column = column_of 5 n in
    ap filled (append_assoc column (line_of 5 ns) tail)
    ∙ (filled_part column (line_of 5 ns ++ tail) (column_length 5 n) (line_end_none column (λ q. let m = number_of_column 4 n fits in omega arith))
    ∙ (ap (λ (x : List ℕ). x ++ filled (line_of 5 ns ++ tail)) (filled_same column (column_not_blank 4 n fits))
    ∙ (ap (λ (x : List ℕ). column ++ x) (line_kept ns tail (λ c l. f (suc c) (omega arith))) ∙ sym (append_assoc column (line_of 5 ns) (filled tail)))))

pub each_kept : (n : ℕ) (f : ℕ → List ℕ) (rest : List ℕ) → ((k : ℕ) → k < n → (tail : List ℕ) → filled (f k ++ tail) ≡ f k ++ filled tail)
    → filled (each_below n f ++ rest) ≡ each_below n f ++ filled rest
unfolding each_below
each_kept zero f rest h = refl
each_kept (suc n) f rest h =
    ap filled (append_assoc (each_below n f) (f n) rest)
    ∙ (each_kept n f (f n ++ rest) (λ k l. h k (omega arith))
    ∙ (ap (λ (x : List ℕ). each_below n f ++ x) (h n (omega arith) rest) ∙ sym (append_assoc (each_below n f) (f n) (filled rest))))

-- F i is what there is from byte i on
pub each_from : (w i : ℕ) (F f : ℕ → List ℕ) (n : ℕ) → ((k : ℕ) → k < n → F (i + w * k) ≡ f k ++ F (i + w * k + w)) → F i ≡ each_below n f ++ F (i + w * n)
unfolding each_below
each_from w i F f zero h = let z : i ≡ i + w * 0 = omega arith in ap F z
each_from w i F f (suc n) h =
    let z : i + w * n + w ≡ i + w * suc n = let m = mul-suc w n in omega arith in
    each_from w i F f n (λ k l. h k (omega arith))
    ∙ (ap (λ (x : List ℕ). each_below n f ++ x) (h n (omega arith) ∙ ap (λ (k : ℕ). f n ++ F k) z) ∙ sym (append_assoc (each_below n f) (f n) (F (i + w * suc n))))

-- Lists

pub three_part : (l : List ℕ) (i : ℕ) → i + 3 ≤ length l → ◌≡◌ {A = List ℕ} (get_or l i 0 ∷ get_or l (i + 1) 0 ∷ get_or l (i + 2) 0 ∷ []) (take 3 (drop i l))
three_part l i h =
    simp (add-one i, add-two i)
    (sym (ap (λ (x : List ℕ). take 3 x)
    (drop-cons l i 0 (omega arith)
    ∙ ap (λ (x : List ℕ). get_or l i 0 ∷ x) (drop-cons l (suc i) 0 (omega arith) ∙ ap (λ (x : List ℕ). get_or l (suc i) 0 ∷ x) (drop-cons l (suc (suc i)) 0 (omega arith))))))

pub each_get_d : (l : List ℕ) (n : ℕ) → n ≤ length l → each_below n (λ q. get_or l q 0 ∷ []) ≡ take n l
unfolding each_below
each_get_d l zero h = refl
each_get_d l (suc n) h = ap (λ (x : List ℕ). x ++ (get_or l n 0 ∷ [])) (each_get_d l n (omega arith)) ∙ sym (take-suc l n 0 (omega arith))

pub all_zero : (l : List ℕ) (n : ℕ) → length l ≡ n → ((q : ℕ) → q < n → get_or l q 0 ≡ 0) → l ≡ replicate n 0
all_zero [] zero e h = refl
all_zero [] (suc n) e h = absurd (omega arith)
all_zero (x ∷ l) zero e h = absurd (omega arith)
all_zero (x ∷ l) (suc n) e h = ap (λ (a : ℕ). a ∷ l) (h 0 (omega arith)) ∙ ap (λ (r : List ℕ). 0 ∷ r) (all_zero l n (omega arith) (λ q m. h (suc q) (omega arith)))
