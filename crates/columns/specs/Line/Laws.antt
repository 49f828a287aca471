-- The laws of a line of columns.
--
-- line_length   == a line of columns of w bytes has w bytes for each number and one more
-- line_column   == column c of a line, whatever follows it, is that of its number c
-- line_end      == byte 10 stands behind the columns
-- columns_of w numbers == the columns without the byte at their end
-- columns_none, columns_more, columns_end == a line written column by column into a list: at its start, one column more, its last byte
use Rattle.std.specs.Prelude.{ℕ, zero, suc, ◌+◌, ◌*◌, ◌≤◌, ◌<◌, ◌≡◌, refl, length, get_or, set, take, drop}
use Rattle.std.proofs.Math.Path.{sym, ap}
use Rattle.std.proofs.Common.{◌∙◌, arith, mul-zero, mul-suc, add-zero, add_comm, length-append, take_at, drop_at, drop-drop, get_or-drop}
use mathlib.Core.List.{List, [], ◌∷◌, ◌++◌, append_assoc, append-nil}
use Rattle.basics.specs.Lists.{put}
use Rattle.basics.specs.Lists.Laws.{put_none, put_more, put_one, put_length}
use Rattle.columns.specs.Column.{column_of}
use Rattle.columns.specs.Column.Laws.{column_length}
use Rattle.columns.specs.Line.{line_of}

unfoldable pub columns_of : ℕ → List ℕ → List ℕ
columns_of w [] = []
columns_of w (n ∷ l) = column_of w n ++ columns_of w l

columns_length : (w : ℕ) (ns : List ℕ) → length (columns_of w ns) ≡ w * length ns
unfolding columns_of
columns_length w [] = omega arith
columns_length w (n ∷ ns) =
    let h = columns_length w ns in
    let c = column_length w n in
    length-append (column_of w n) (columns_of w ns) ∙ (omega arith ∙ sym (mul-suc w (length ns)))

columns_append : (w : ℕ) (ms ns : List ℕ) → columns_of w (ms ++ ns) ≡ columns_of w ms ++ columns_of w ns
unfolding columns_of
columns_append w [] ns = refl
columns_append w (m ∷ ms) ns =
    ap (λ (l : List ℕ). column_of w m ++ l) (columns_append w ms ns) ∙ sym (append_assoc (column_of w m) (columns_of w ms) (columns_of w ns))

columns_line : (w : ℕ) (ns : List ℕ) → columns_of w ns ++ (10 ∷ []) ≡ line_of w ns
unfolding columns_of line_of
columns_line w [] = refl
columns_line w (n ∷ ns) =
    append_assoc (column_of w n) (columns_of w ns) (10 ∷ []) ∙ ap (λ (l : List ℕ). column_of w n ++ l) (columns_line w ns)

pub line_length : (w : ℕ) (ns : List ℕ) → length (line_of w ns) ≡ w * length ns + 1
line_length w ns =
    let h = columns_length w ns in
    ap length (sym (columns_line w ns)) ∙ (length-append (columns_of w ns) (10 ∷ []) ∙ omega arith)

pub line_column : (w : ℕ) (ns tail : List ℕ) (c : ℕ) → c < length ns → take w (drop (w * c) (line_of w ns ++ tail)) ≡ column_of w (get_or ns c 0)
unfolding line_of
line_column w [] tail c h = absurd (omega arith)
line_column w (n ∷ ns) tail zero h =
    ap (λ (k : ℕ). take w (drop k ((column_of w n ++ line_of w ns) ++ tail))) (mul-zero w)
    ∙ (ap (take w) (append_assoc (column_of w n) (line_of w ns) tail) ∙ take_at (column_of w n) (line_of w ns ++ tail) w (column_length w n))
line_column w (n ∷ ns) tail (suc c) h =
    ap (λ (k : ℕ). take w (drop k ((column_of w n ++ line_of w ns) ++ tail))) (mul-suc w c ∙ add_comm (w * c) w)
    ∙ (ap (take w) (sym (drop-drop (w * c) w ((column_of w n ++ line_of w ns) ++ tail)))
    ∙ (ap (λ (l : List ℕ). take w (drop (w * c) (drop w l))) (append_assoc (column_of w n) (line_of w ns) tail)
    ∙ (ap (λ (l : List ℕ). take w (drop (w * c) l)) (drop_at (column_of w n) (line_of w ns ++ tail) w (column_length w n)) ∙ line_column w ns tail c (omega arith))))

pub line_end : (w : ℕ) (ns tail : List ℕ) → get_or (line_of w ns ++ tail) (w * length ns) 0 ≡ 10
line_end w ns tail =
    let wide = columns_length w ns in
    ap (λ (l : List ℕ). get_or (l ++ tail) (w * length ns) 0) (sym (columns_line w ns))
    ∙ (ap (λ (l : List ℕ). get_or l (w * length ns) 0) (append_assoc (columns_of w ns) (10 ∷ []) tail)
    ∙ (ap (λ (k : ℕ). get_or (columns_of w ns ++ (10 ∷ tail)) k 0) (sym (add-zero (w * length ns)))
    ∙ (sym (get_or-drop (w * length ns) (columns_of w ns ++ (10 ∷ tail)) 0 0) ∙ ap (λ (l : List ℕ). get_or l 0 0) (drop_at (columns_of w ns) (10 ∷ tail) (w * length ns) wide))))

-- a line of columns of w bytes, written into l from byte at on; after and next are the list after so many columns, and the byte past them
module _ (w : ℕ) (l : List ℕ) (at : ℕ) where
  pub columns_none : l ≡ put at l (columns_of w [])
  unfolding columns_of
  columns_none = put_none at l

  module _ (ns after : List ℕ) (next : ℕ) (so_far : after ≡ put at l (columns_of w ns)) (past : next ≡ at + w * length ns) where
    pub columns_more : (n : ℕ) (more : List ℕ) → more ≡ put next after (column_of w n) → next + w ≤ length l → more ≡ put at l (columns_of w (ns ++ (n ∷ [])))
    unfolding columns_of
    columns_more n more is fits =
        let wide = columns_length w ns in
        let one = column_length w n in
        put_more l after more (columns_of w ns) (column_of w n) at next so_far is (omega arith) (omega arith)
        ∙ ap (put at l) (ap (λ (x : List ℕ). columns_of w ns ++ x) (sym (append-nil (column_of w n))) ∙ sym (columns_append w ns (n ∷ [])))

    pub columns_end : next < length l → set after next 10 ≡ put at l (line_of w ns)
    columns_end fits =
        let wide = columns_length w ns in
        let long : length after ≡ length l = ap length so_far ∙ put_length at l (columns_of w ns) (omega arith) in
        put_more l after (set after next 10) (columns_of w ns) (10 ∷ []) at next so_far (put_one after next 10 (omega arith)) (omega arith) (omega arith)
        ∙ ap (put at l) (columns_line w ns)
