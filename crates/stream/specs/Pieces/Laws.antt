-- The listing of pieces is the listing of the input.
--
-- after_full, after_end, after_more    == what is kept after a byte, in the three cases
-- prints_full, prints_end, prints_more == what a byte prints, in the three cases
-- after_cut, prints_cut   == a piece that is cut in two leaves and prints the same
-- after_one, prints_one   == one byte behind a piece
-- end_none, end_line      == what the end prints
-- full_after, full_prints, full_end == after the last word nothing is kept anew and nothing printed
-- prints_length           == a piece of n bytes prints at most 16 × n
-- end_length, opening_length == at most 16 and at most 19 bytes
-- opening_good, opening_bad == the opening of a sheet without fault and of one with a fault
-- pieces_print m list p ps == what is printed for pieces that come one after the other
-- pieces_joined           == it is what the joined pieces print
-- same_answer             == a line and as much of it as is kept have the same answer
-- same_line               == and the same printed line
use Rattle.std.specs.Prelude.{ℕ, ◌+◌, ◌*◌, ◌<◌, ◌≤◌, ◌≡◌, length, take, eqb}
use Rattle.std.proofs.Math.Path.{refl, sym, ap}
use Rattle.std.proofs.Common.{◌∙◌, take_all, length-take-le, lt-ltb, le-ltb, eq-eqb, ne_eqb}
use mathlib.Core.List.{List, [], ◌∷◌, ◌++◌, append_assoc, append-nil, flatten}
use Rattle.std.proofs.Math.Bool.{cond}
use native.Mathlib.Omega.{arith}
use Rattle.std.proofs.Math.Decide.{dec_le, dec_lt, ℕ_discrete}
use Rattle.std.proofs.Math.ListN.{length-append}
use Rattle.basics.specs.Search.Loops.{first, second}
use Rattle.fsbm.specs.Accepted.{accepted}
use Rattle.fsbm.specs.declared.machine.Machine.{Machine}
use Rattle.lines.specs.declared.Answer.{Answer}
use Rattle.lines.specs.Line.{longest_line, line_answer, answer_line, word_of}
use Rattle.lines.proofs.LineCases.{refused_long, line_length}
use Rattle.columns.specs.Column.{column_of}
use Rattle.columns.specs.Column.Laws.{column_length}
use Rattle.sheet.specs.Reading.{first_fault}
use Rattle.stream.specs.Listing.{word_line, header, sheet_refused, refused_sheet, most_words}
use Rattle.stream.specs.Pieces.{Pending, most_kept, after_byte, after_piece, byte_prints, piece_prints, end_prints, opening}

module _ (p : Pending) (b : ℕ) where
  pub after_full : most_words ≤ p.words → after_byte p b ≡ p
  unfolding after_byte
  after_full h = sym (second _ (le-ltb _ _ h) refl)

  pub after_end : p.words < most_words → b ≡ 10 → after_byte p b ≡ record { bytes = []; words = p.words + 1 }
  unfolding after_byte
  after_end h e = sym (first _ (lt-ltb _ _ h) (first _ (eq-eqb _ _ e) refl))

  pub after_more : p.words < most_words → (b ≡ 10 → ⊥) → after_byte p b ≡ record { bytes = take most_kept (p.bytes ++ (b ∷ [])); words = p.words }
  unfolding after_byte
  after_more h e = sym (first _ (lt-ltb _ _ h) (second _ (ne_eqb _ _ e) refl))

  module _ (m : Machine) (list : List ℕ) where
    pub prints_full : most_words ≤ p.words → byte_prints m list p b ≡ []
    unfolding byte_prints
    prints_full h = sym (second _ (le-ltb _ _ h) refl)

    pub prints_end : p.words < most_words → b ≡ 10 → byte_prints m list p b ≡ word_line m list (p.words + 1) p.bytes
    unfolding byte_prints
    prints_end h e = sym (first _ (lt-ltb _ _ h) (first _ (eq-eqb _ _ e) refl))

    pub prints_more : p.words < most_words → (b ≡ 10 → ⊥) → byte_prints m list p b ≡ []
    unfolding byte_prints
    prints_more h e = sym (first _ (lt-ltb _ _ h) (second _ (ne_eqb _ _ e) refl))

-- cutting

pub after_cut : (p : Pending) (x y : List ℕ) → after_piece p (x ++ y) ≡ after_piece (after_piece p x) y
unfolding after_piece
after_cut p [] y = refl
after_cut p (b ∷ x) y = after_cut (after_byte p b) x y

pub after_one : (p : Pending) (x : List ℕ) (b : ℕ) → after_piece p (x ++ (b ∷ [])) ≡ after_byte (after_piece p x) b
unfolding after_piece
after_one p x b = after_cut p x (b ∷ [])

module _ (m : Machine) (list : List ℕ) where
  pub prints_cut : (p : Pending) (x y : List ℕ) → piece_prints m list p (x ++ y) ≡ piece_prints m list p x ++ piece_prints m list (after_piece p x) y
  unfolding piece_prints after_piece
  prints_cut p [] y = refl
  prints_cut p (b ∷ x) y =
      ap (λ (z : List ℕ). byte_prints m list p b ++ z) (prints_cut (after_byte p b) x y)
      ∙ sym (append_assoc (byte_prints m list p b) (piece_prints m list (after_byte p b) x) (piece_prints m list (after_piece (after_byte p b) x) y))

  pub prints_one : (p : Pending) (x : List ℕ) (b : ℕ) → piece_prints m list p (x ++ (b ∷ [])) ≡ piece_prints m list p x ++ byte_prints m list (after_piece p x) b
  unfolding piece_prints
  prints_one p x b =
      prints_cut p x (b ∷ []) ∙ ap (λ (z : List ℕ). piece_prints m list p x ++ z) (append-nil (byte_prints m list (after_piece p x) b))

  unfoldable pub pieces_print : Pending → List (List ℕ) → List ℕ
  pieces_print p [] = []
  pieces_print p (x ∷ pieces) = piece_prints m list p x ++ pieces_print (after_piece p x) pieces

  pub pieces_joined : (p : Pending) (pieces : List (List ℕ)) → pieces_print p pieces ≡ piece_prints m list p (flatten pieces)
  unfolding pieces_print piece_prints flatten
  pieces_joined p [] = refl
  pieces_joined p (x ∷ pieces) =
      ap (λ (z : List ℕ). piece_prints m list p x ++ z) (pieces_joined (after_piece p x) pieces) ∙ sym (prints_cut p x (flatten pieces))

-- after the last word

pub full_after : (p : Pending) (x : List ℕ) → most_words ≤ p.words → after_piece p x ≡ p
unfolding after_piece
full_after p [] h = refl
full_after p (b ∷ x) h = ap (λ (q : Pending). after_piece q x) (after_full p b h) ∙ full_after p x h

module _ (m : Machine) (list : List ℕ) where
  pub full_prints : (p : Pending) (x : List ℕ) → most_words ≤ p.words → piece_prints m list p x ≡ []
  unfolding piece_prints
  full_prints p [] h = refl
  full_prints p (b ∷ x) h =
      ap (λ (z : List ℕ). z ++ piece_prints m list (after_byte p b) x) (prints_full p b m list h)
      ∙ (ap (λ (q : Pending). piece_prints m list q x) (after_full p b h) ∙ full_prints p x h)

  pub full_end : (p : Pending) → most_words ≤ p.words → end_prints m list p ≡ []
  unfolding end_prints
  full_end p h = sym (second _ (le-ltb _ _ h) refl)

  pub end_none : (p : Pending) → p.words < most_words → length p.bytes ≡ 0 → end_prints m list p ≡ []
  unfolding end_prints
  end_none p h e = sym (first _ (lt-ltb _ _ h) (first _ (eq-eqb _ _ e) refl))

  pub end_line : (p : Pending) → p.words < most_words → (length p.bytes ≡ 0 → ⊥) → end_prints m list p ≡ word_line m list (p.words + 1) p.bytes
  unfolding end_prints
  end_line p h e = sym (first _ (lt-ltb _ _ h) (second _ (ne_eqb _ _ e) refl))

-- lengths

pub word_length : (m : Machine) (list : List ℕ) (i : ℕ) (line : List ℕ) → length (word_line m list i line) ≡ 16
unfolding word_line
word_length m list i line = line_length i (line_answer m list line).answer (line_answer m list line).refusal

module _ (m : Machine) (list : List ℕ) where
  pub byte_length : (p : Pending) (b : ℕ) → length (byte_prints m list p b) ≤ 16
  byte_length p b = at (dec_lt p.words most_words) (ℕ_discrete b 10)
    where
      at : Dec (p.words < most_words) → Dec (b ≡ 10) → length (byte_prints m list p b) ≤ 16
      at (no n) d = let e = ap length (prints_full p b m list (omega arith)) in omega arith
      at (yes l) (yes e) =
          let f = ap length (prints_end p b m list l e) in
          let g = word_length m list (p.words + 1) p.bytes in omega arith
      at (yes l) (no e) = let f = ap length (prints_more p b m list l e) in omega arith

  pub prints_length : (p : Pending) (x : List ℕ) → length (piece_prints m list p x) ≤ 16 * length x
  unfolding piece_prints
  prints_length p [] = omega arith
  prints_length p (b ∷ x) =
      let e = byte_length p b in
      let f = prints_length (after_byte p b) x in
      let g = length-append (byte_prints m list p b) (piece_prints m list (after_byte p b) x) in omega arith

  pub end_length : (p : Pending) → length (end_prints m list p) ≤ 16
  end_length p = at (dec_lt p.words most_words) (ℕ_discrete (length p.bytes) 0)
    where
      at : Dec (p.words < most_words) → Dec (length p.bytes ≡ 0) → length (end_prints m list p) ≤ 16
      at (no n) d = let e = ap length (full_end m list p (omega arith)) in omega arith
      at (yes l) (yes e) = let f = ap length (end_none m list p l e) in omega arith
      at (yes l) (no e) =
          let f = ap length (end_line m list p l e) in
          let g = word_length m list (p.words + 1) p.bytes in
          omega arith

pub header_length : length header ≡ 16
unfolding header
header_length = refl

pub refused_length : (n : ℕ) → length (refused_sheet n) ≡ 19
unfolding refused_sheet sheet_refused
refused_length n =
    length-append (sheet_refused ++ column_of 5 n) (10 ∷ [])
    ∙ (let a = length-append sheet_refused (column_of 5 n) in let b = column_length 5 n in omega arith)

pub opening_bad : (s : List ℕ) → (first_fault s ≡ 0 → ⊥) → refused_sheet (first_fault s) ≡ opening s
unfolding opening
opening_bad s n = second _ (ne_eqb _ _ n) refl

pub opening_good : (s : List ℕ) → first_fault s ≡ 0 → header ≡ opening s
unfolding opening
opening_good s e = first _ (eq-eqb _ _ e) refl

pub opening_length : (s : List ℕ) → length (opening s) ≤ 19
opening_length s = at (ℕ_discrete (first_fault s) 0)
  where
    at : Dec (first_fault s ≡ 0) → length (opening s) ≤ 19
    at (yes e) = let f = ap length (opening_good s e) in omega (arith, header_length)
    at (no n) = let f = ap length (opening_bad s n) in omega (arith, refused_length (first_fault s))

-- what is kept of a long line is as good as the line

module _ (m : Machine) (list : List ℕ) where
  answer_nine : (line : List ℕ) → longest_line < length line → line_answer m list line ≡ record { answer = 2; refusal = 9 }
  unfolding line_answer
  answer_nine line h =
      ap {B = Answer} (λ (r : ℕ). cond (eqb r 0) (record { answer = cond (accepted m list (word_of line)) 1 0; refusal = 0 }) (record { answer = 2; refusal = r }))
      (sym (refused_long m.letters line h))

  pub same_answer : (line : List ℕ) → line_answer m list (take most_kept line) ≡ line_answer m list line
  same_answer line = at (dec_le (length line) most_kept)
    where
      at : Dec (length line ≤ most_kept) → line_answer m list (take most_kept line) ≡ line_answer m list line
      at (yes h) = ap (line_answer m list) (take_all most_kept line h)
      at (no h) =
          let e = length-take-le most_kept line (omega arith) in
          answer_nine (take most_kept line) (omega arith) ∙ sym (answer_nine line (omega arith))

  pub same_line : (i : ℕ) (line : List ℕ) → word_line m list i (take most_kept line) ≡ word_line m list i line
  unfolding word_line
  same_line i line = ap (λ (a : Answer). answer_line i a.answer a.refusal) (same_answer line)
