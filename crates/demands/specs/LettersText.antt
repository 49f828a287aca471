-- The records that loading gives are the good ones: a loaded record is good, and a good record is loaded from the text of its own lines.
--
-- nth f v i        == number i, counted from 0, of the bytes below v that have letters
-- text_of f         == a line for each byte that has a letter, in rising order
-- load_none        == a text loads exactly if no line has a fault and the letters run from 1 without a gap
-- letter_loaded    == the letter of a byte in the record of a text
-- loaded_good      == the record of a text that loads is good
-- good_loads       == a good record of 256 letters is loaded from its text
use Prim.Native.Nat.{ℕ, zero, suc, ◌*◌, ◌<◌, ◌≤◌}
use Rattle.std.specs.Prelude.{◌≡◌, refl, ◌⊎◌, ◌↔◌, Bool, true, false, ◌&&◌, length, get_or, drop, leb, eqb, Ok}
use Rattle.std.proofs.Math.Path.{sym, ap, subst}
use Rattle.std.proofs.Common.{◌∙◌, inl, inr}
use mathlib.Core.List.{List, [], ◌∷◌, ◌++◌, append-nil}
use Rattle.std.proofs.Math.Bool.{cond}
use native.Mathlib.Omega.{arith}
use Rattle.std.proofs.Math.Decide.{ℕ_discrete}
use Rattle.std.proofs.Math.Dec.{ltb}
use borrow.Author.Tests.{le-leb, leb-true, lt-ltb, eq-eqb, ne_eqb, eqb-true, eqb-false}
use Rattle.basics.specs.Each.{each_below}
use Rattle.basics.specs.Each.Laws.{each_length, each_drop}
use Rattle.basics.specs.Search.{all_below}
use Rattle.basics.specs.Search.Laws.{true_or_false, and_true, and_both_true, all_below_true}
use Rattle.columns.specs.Line.{line_of}
use Rattle.columns.specs.Line.Laws.{line_length}
use Rattle.fsbm.specs.Answers.Laws.{unless_done}
use Rattle.sheet.specs.Series.{first_of}
use Rattle.sheet.specs.Series.Laws.{or_zero, first_zero}
use Rattle.sheet.specs.Reading.{unless, column_at, line_fault}
use Rattle.sheet.specs.Reading.Laws.{unless_zero, line_none}
use Rattle.sheet_laws.specs.Filled.{filled}
use Rattle.sheet_laws.proofs.Lines.{line_kept, line_number, line_good}
use Rattle.letters.specs.Alphabet.{byte_values, max_lines, letter_in, largest_of, gapless, lettered, good_alphabet}
use Rattle.letters.specs.Alphabet.Laws.{letter_in_lem, letters_at_lem, letters_list, largest_bound, largest_same, lettered_same, gapless_same, gapless_true, gapless_few}
use Rattle.letters.specs.Loading.{byte_at, letter_at, lines_begun, entry_fault, letters_run, load_fault, last_of, letter_of, alphabet_of, load_answer}
use Rattle.letters.specs.Loading.Laws.{last_none, last_named, largest_last, gapless_last, lettered_last, Apart, entry_none, lines_begun_lem, entries_apart, entries_below, entries_few}
use Rattle.letters.specs.declared.alphabet.Alphabet.{Alphabet}

-- A text that loads

pub load_none : (text : List ℕ) → (load_fault text ≡ 0) ↔ ((first_of (lines_begun text) (entry_fault text) ≡ 0) × (letters_run text ≡ true))
unfolding load_fault
load_none text = (
  λ e. let s = (or_zero (first_of (lines_begun text) (entry_fault text)) (unless (letters_run text) 22)).0 e in
      (s.0, (unless_zero (letters_run text) 22 (λ (q : 22 ≡ 0). omega arith)).0 s.1),
  λ s. (or_zero (first_of (lines_begun text) (entry_fault text)) (unless (letters_run text) 22)).1 (s.0, ap (λ (z : Bool). unless z 22) s.1),
)

pub letter_loaded : (text : List ℕ) (v : ℕ) → v < byte_values → letter_in (alphabet_of text).letters v ≡ letter_of text v
unfolding alphabet_of
letter_loaded text v h = letter_in_lem (alphabet_of text).letters v h ∙ letters_at_lem (letter_of text) v h

pub loaded_good : (text : List ℕ) → load_fault text ≡ 0 → good_alphabet (alphabet_of text) ≡ true
unfolding good_alphabet alphabet_of letters_run
loaded_good text e =
    and_both_true _ _ (le-leb _ _ few) (and_both_true _ _ (eq-eqb _ _ count) gaps)
  where
    none : first_of (lines_begun text) (entry_fault text) ≡ 0
    none = ((load_none text).0 e).0

    F : ℕ → ℕ
    F = letter_in (alphabet_of text).letters

    few : lettered byte_values F ≤ max_lines
    few =
        let a = lettered_same F (letter_of text) byte_values (letter_loaded text) in
        let b = lettered_last (byte_at text) (letter_at text) byte_values (lines_begun text) in
        let c = entries_few text none in
        omega arith

    count : largest_of (lines_begun text) (letter_at text) ≡ largest_of byte_values F
    count =
        sym (largest_last (byte_at text) (letter_at text) (lines_begun text) (entries_apart text none) byte_values (entries_below text none))
        ∙ sym (largest_same F (letter_of text) byte_values (letter_loaded text))

    gaps : gapless byte_values F ≡ true
    gaps =
        gapless_same F (letter_of text) byte_values (letter_loaded text)
        ∙ (gapless_last (byte_at text) (letter_at text) (lines_begun text) (entries_apart text none) byte_values (entries_below text none)
        ∙ (and_true (all_below (lines_begun text) (λ i. ltb 0 (letter_at text i))) (gapless (lines_begun text) (letter_at text)) ((load_none text).0 e).1).1)

-- The bytes that have letters, in rising order

module _ (f : ℕ → ℕ) where
  unfoldable pub nth : ℕ → ℕ → ℕ
  nth zero i = 0
  nth (suc v) i = cond (eqb (f v) 0) (nth v i) (cond (eqb i (lettered v f)) v (nth v i))

  record Placed (v : ℕ) : Type 0 where
    below : (i : ℕ) → i < lettered v f → nth v i < v
    above : (i : ℕ) → i < lettered v f → 0 < f (nth v i)
    rises : (i j : ℕ) → i < j → j < lettered v f → nth v i < nth v j
    all : (w : ℕ) → w < v → 0 < f w → (i : ℕ) × (i < lettered v f) × (nth v i ≡ w)

  module _ (v : ℕ) (p : Placed v) where
    -- byte v has no letter
    module _ (t : eqb (f v) 0 ≡ true) where
      many : lettered (suc v) f ≡ lettered v f
      unfolding lettered
      many = ap (λ (z : Bool). cond z (lettered v f) (suc (lettered v f))) t

      same : (i : ℕ) → nth (suc v) i ≡ nth v i
      unfolding nth
      same i = ap (λ (z : Bool). cond z (nth v i) (cond (eqb i (lettered v f)) v (nth v i))) t

      passed : Placed (suc v)
      passed =
          let z = eqb-true (f v) 0 t in
          let m = many in
          record {
            below = λ i l. let s = same i in let b = p.below i (omega arith) in omega arith;
            above = λ i l. subst (λ (k : ℕ). 0 < f k) (sym (same i)) (p.above i (omega arith));
            rises = λ i j l h. let s = same i in let r = same j in let b = p.rises i j l (omega arith) in omega arith;
            all = λ w l h. let (i, b, q) = p.all w (other w l h (ℕ_discrete w v)) h in (i, omega arith, same i ∙ q);
          }
        where
          other : (w : ℕ) → w < suc v → 0 < f w → Dec (w ≡ v) → w < v
          other w l h (yes e) = let z = eqb-true (f v) 0 t in let q : f w ≡ f v = ap f e in absurd (omega arith)
          other w l h (no d) = omega arith

    -- byte v has a letter
    module _ (t : eqb (f v) 0 ≡ false) where
      one_more : lettered (suc v) f ≡ suc (lettered v f)
      unfolding lettered
      one_more = ap (λ (z : Bool). cond z (lettered v f) (suc (lettered v f))) t

      here : (i : ℕ) → i ≡ lettered v f → nth (suc v) i ≡ v
      unfolding nth
      here i e =
          ap (λ (z : Bool). cond z (nth v i) (cond (eqb i (lettered v f)) v (nth v i))) t
          ∙ ap (λ (z : Bool). cond z v (nth v i)) (eq-eqb i (lettered v f) e)

      before : (i : ℕ) → (i ≡ lettered v f → ⊥) → nth (suc v) i ≡ nth v i
      unfolding nth
      before i d =
          ap (λ (z : Bool). cond z (nth v i) (cond (eqb i (lettered v f)) v (nth v i))) t
          ∙ ap (λ (z : Bool). cond z v (nth v i)) (ne_eqb i (lettered v f) d)

      added : Placed (suc v)
      added =
          record {
            below = λ i l. below_at i l (ℕ_discrete i (lettered v f));
            above = λ i l. above_at i l (ℕ_discrete i (lettered v f));
            rises = λ i j l h. rises_at i j l h (ℕ_discrete j (lettered v f));
            all = λ w l h. all_at w l h (ℕ_discrete w v);
          }
        where
          below_at : (i : ℕ) → i < lettered (suc v) f → Dec (i ≡ lettered v f) → nth (suc v) i < suc v
          below_at i l (yes e) = let q = here i e in omega arith
          below_at i l (no d) = let m = one_more in let q = before i d in let b = p.below i (omega arith) in omega arith

          above_at : (i : ℕ) → i < lettered (suc v) f → Dec (i ≡ lettered v f) → 0 < f (nth (suc v) i)
          above_at i l (yes e) = let d = eqb-false (f v) 0 t in subst (λ (k : ℕ). 0 < f k) (sym (here i e)) (omega arith)
          above_at i l (no d) = let m = one_more in subst (λ (k : ℕ). 0 < f k) (sym (before i d)) (p.above i (omega arith))

          rises_at : (i j : ℕ) → i < j → j < lettered (suc v) f → Dec (j ≡ lettered v f) → nth (suc v) i < nth (suc v) j
          rises_at i j l h (yes e) =
              let q = here j e in
              let s = before i (λ (z : i ≡ lettered v f). omega arith) in
              let b = p.below i (omega arith) in
              omega arith
          rises_at i j l h (no d) =
              let m = one_more in
              let q = before j d in
              let s = before i (λ (z : i ≡ lettered v f). omega arith) in
              let b = p.rises i j l (omega arith) in
              omega arith

          all_at : (w : ℕ) → w < suc v → 0 < f w → Dec (w ≡ v) → (i : ℕ) × (i < lettered (suc v) f) × (nth (suc v) i ≡ w)
          all_at w l h (yes e) = let m = one_more in (lettered v f, omega arith, here (lettered v f) refl ∙ sym e)
          all_at w l h (no d) =
              let m = one_more in
              let (i, b, q) = p.all w (omega arith) h in
              (i, omega arith, before i (λ (z : i ≡ lettered v f). omega arith) ∙ q)

  placed : (v : ℕ) → Placed v
  unfolding lettered
  placed zero =
      record {
        below = λ i l. absurd (omega arith);
        above = λ i l. absurd (omega arith);
        rises = λ i j l h. absurd (omega arith);
        all = λ w l h. absurd (omega arith);
      }
  placed (suc v) = at (true_or_false (eqb (f v) 0)) (placed v)
    where
      at : (eqb (f v) 0 ≡ true) ⊎ (eqb (f v) 0 ≡ false) → Placed v → Placed (suc v)
      at (inl t) p = passed v p t
      at (inr t) p = added v p t

  unfoldable pub text_of : List ℕ
  text_of = each_below (lettered byte_values f) (λ i. line_of 5 (nth byte_values i ∷ f (nth byte_values i) ∷ []))

-- A good record, and the text of its lines

module _ (a : Alphabet) (long : length a.letters ≡ byte_values) (good : good_alphabet a ≡ true) where
  abbrev F : ℕ → ℕ
  F = letter_in a.letters

  abbrev n : ℕ
  n = lettered byte_values F

  abbrev T : List ℕ
  T = text_of F

  P : Placed F byte_values
  P = placed F byte_values

  few : n ≤ max_lines
  unfolding good_alphabet
  few = leb-true _ _ (and_true (leb n max_lines) (eqb a.count (largest_of byte_values F) && gapless byte_values F) good).0

  rest : (eqb a.count (largest_of byte_values F) ≡ true) × (gapless byte_values F ≡ true)
  unfolding good_alphabet
  rest =
      and_true (eqb a.count (largest_of byte_values F)) (gapless byte_values F)
      (and_true (leb n max_lines) (eqb a.count (largest_of byte_values F) && gapless byte_values F) good).1

  small : (v : ℕ) → v < byte_values → F v < 100000
  small v h =
      let g = gapless_few byte_values F ((gapless_true byte_values F).0 rest.1) in
      let b = largest_bound F byte_values v h in
      omega arith

  wide : (k : ℕ) → length (line_of 5 (nth F byte_values k ∷ F (nth F byte_values k) ∷ [])) ≡ 11
  wide k = line_length 5 (nth F byte_values k ∷ F (nth F byte_values k) ∷ [])

  begun : lines_begun T ≡ n
  unfolding text_of
  begun = lines_begun_lem T n (each_length 11 (λ i. line_of 5 (nth F byte_values i ∷ F (nth F byte_values i) ∷ [])) wide n)

  module _ (i : ℕ) (l : i < n) where
    fits : (c : ℕ) → c < 2 → get_or (nth F byte_values i ∷ F (nth F byte_values i) ∷ []) c 0 < 100000
    fits zero h = let q = P.below i l in omega arith
    fits (suc zero) h = small (nth F byte_values i) (P.below i l)
    fits (suc (suc c)) h = absurd (omega arith)

    line : (tail : List ℕ) × (filled (drop (11 * i) T) ≡ line_of 5 (nth F byte_values i ∷ F (nth F byte_values i) ∷ []) ++ tail)
    unfolding text_of
    line =
        let d = each_drop 11 (λ i. line_of 5 (nth F byte_values i ∷ F (nth F byte_values i) ∷ [])) wide n i [] l in (
          filled d.0,
          ap filled (ap (drop (11 * i)) (sym (append-nil T)) ∙ d.1) ∙ line_kept (nth F byte_values i ∷ F (nth F byte_values i) ∷ []) d.0 fits,
        )

    byte_is : byte_at T i ≡ nth F byte_values i
    byte_is =
        ap (column_at T) (omega arith) ∙ line_number (nth F byte_values i ∷ F (nth F byte_values i) ∷ []) T line.0 (11 * i) line.1 fits 0 (omega arith)

    letter_is : letter_at T i ≡ F (nth F byte_values i)
    letter_is =
        ap (column_at T) (omega arith) ∙ line_number (nth F byte_values i ∷ F (nth F byte_values i) ∷ []) T line.0 (11 * i) line.1 fits 1 (omega arith)

    sound : line_fault T 2 (11 * i) ≡ 0
    sound = (line_none T 2 (11 * i)).1 (line_good (nth F byte_values i ∷ F (nth F byte_values i) ∷ []) T line.0 (11 * i) line.1 fits)

  apart : Apart n (byte_at T)
  unfolding Apart
  apart i j l h e =
      let r = P.rises i j l h in
      let x = byte_is i (omega arith) in
      let y = byte_is j h in
      omega arith

  below : (i : ℕ) → i < n → byte_at T i < byte_values
  below i l = let x = byte_is i l in let y = P.below i l in omega arith

  no_fault : first_of n (entry_fault T) ≡ 0
  unfolding Apart
  no_fault =
      (first_zero n (entry_fault T)).1
      (λ i l. (entry_none T i).1 (record { line = sound i l; few = (let m = few in omega arith); byte = below i l; new = λ j k e. apart j i k l e }))

  -- the letter of each byte in the text is its letter in the record
  letters_are : (v : ℕ) → v < byte_values → last_of (byte_at T) (letter_at T) n v ≡ F v
  letters_are v h = at (ℕ_discrete (F v) 0)
    where
      at : Dec (F v ≡ 0) → last_of (byte_at T) (letter_at T) n v ≡ F v
      at (yes z) =
          last_none (byte_at T) (letter_at T) n v
          (λ i l e. let p = P.above i l in let q : F (nth F byte_values i) ≡ F v = ap F (sym (byte_is i l) ∙ e) in omega arith) ∙ sym z
      at (no d) =
          let (i, l, q) = P.all v h (omega arith) in
          let e : byte_at T i ≡ v = byte_is i l ∙ q in
          ap (last_of (byte_at T) (letter_at T) n) (sym e) ∙ (last_named (byte_at T) (letter_at T) n apart i l ∙ (letter_is i l ∙ ap F q))

  run : all_below n (λ i. ltb 0 (letter_at T i)) && gapless n (letter_at T) ≡ true
  run =
      and_both_true (all_below n (λ i. ltb 0 (letter_at T i))) (gapless n (letter_at T))
      ((all_below_true (λ i. ltb 0 (letter_at T i)) n).1 (λ i l. lt-ltb 0 (letter_at T i) (subst (λ (k : ℕ). 0 < k) (sym (letter_is i l)) (P.above i l))))
      (sym (gapless_last (byte_at T) (letter_at T) n apart byte_values below) ∙ (gapless_same (last_of (byte_at T) (letter_at T) n) F byte_values letters_are ∙ rest.1))

  count_is : largest_of n (letter_at T) ≡ a.count
  count_is =
      sym (largest_last (byte_at T) (letter_at T) n apart byte_values below)
      ∙ (largest_same (last_of (byte_at T) (letter_at T) n) F byte_values letters_are ∙ sym (eqb-true _ _ rest.0))

  loads : load_fault T ≡ 0
  unfolding letters_run
  loads =
      (load_none T).1 (
        subst (λ (k : ℕ). first_of k (entry_fault T) ≡ 0) (sym begun) no_fault,
        subst (λ (k : ℕ). all_below k (λ i. ltb 0 (letter_at T i)) && gapless k (letter_at T) ≡ true) (sym begun) run,
      )

  is : alphabet_of T ≡ a
  unfolding alphabet_of
  is =
      ap (λ (k : ℕ). record { letters = each_below byte_values (λ v. last_of (byte_at T) (letter_at T) k v ∷ []); count = largest_of k (letter_at T) }) begun
      ∙ (ap (λ (l : List ℕ). record { letters = l; count = largest_of n (letter_at T) })
      (sym (letters_list a.letters (last_of (byte_at T) (letter_at T) n) long (λ v h. sym (letter_in_lem a.letters v h) ∙ sym (letters_are v h))))
      ∙ ap (λ (c : ℕ). record { letters = a.letters; count = c }) count_is)

  pub good_loads : load_answer T ≡ Ok a
  unfolding load_answer
  good_loads = sym (unless_done _ _ loads) ∙ ap (λ (x : Alphabet). Ok x) is
